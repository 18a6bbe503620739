use Rattle.layer_features.proofs.Common.{◌≡◌, ◌∙◌, ◌&&◌, Bool, true, subst, sym, if◌then◌else◌, filter_map, taken_away, KeepsFeatures, is_repeated}
use Rattle.layer_features.proofs.copper.Copper.clear_by_copies.Goals as goal

pub returns-in_ok-take_away-clause-kept : goal.returns-in_ok-take_away-clause-kept
returns-in_ok-take_away-clause-kept c taken features h =
    let both : (is_repeated c.args.state.now.block && c.args.self.now.clearing.in_block) ≡ true = λ i. (sym c.is_repeated.ensures ∙ c.if-is_repeated.true) i && c.if-self.true i in
    subst (λ (b : Bool). KeepsFeatures c.take_away.new.self taken (if b then filter_map taken_away features else features)) (sym both) (c.in_ok-take_away.ensures.kept taken features h)
