use Rattle.package_check.proofs.Common.{◌≡◌, ◌∙◌, ◌++◌, List, [], map, ap, subst, sym, if◌then◌else◌, err_from_is_err_and, GridRules, Profile, WidePad, LayerStands, standing_pads, plain, HasTriedIn}
use Rattle.layer_features.specs.declared.keep.Keep.TheVariants as keep
use Rattle.package_check.proofs.indexed_holes.IndexedHoles.feed_chunk.Goals as goal

pub returns-in_err-feed-clause-err : goal.returns-in_err-feed-clause-err
returns-in_err-feed-clause-err c = λ text before.
    let p = err_from_is_err_and c.from_residual.result c.from_residual.ensures.1 in
    rw (p.1, p.2) (c.in_err-feed.ensures.err c.args.self.now.rules.profile keep.Pads before.taken text before.read)

pub returns-clause-ok : goal.returns-clause-ok
returns-clause-ok c = λ text before.
    let whole = text ++ c.args.chunk.now in
    let old = c.args.self.now in
    let new = c.try_all.new.self in
    let reader = c.feed.new.self in
    let profile = old.rules.profile in
    let rules = c.in_ok-try_all.ensures.rules ∙ c.forget_where.ensures.rules in
    let read = c.clear_pads.ensures.gone profile keep.Pads before.taken whole (c.in_ok-feed.ensures.ok profile keep.Pads before.taken text before.read) in
    let left : List WidePad = if c.are_forgotten.result then [] else before.taken in
    let tried = c.in_ok-try_all.ensures.tried left (c.forget_where.ensures.tried c.args.layer before.taken before.tried) in
    let all : left ++ (map plain c.pads.result.now ++ c.wide_pads.result.now) ≡ standing_pads reader before.taken = λ i. (if c.are_forgotten.ensures i then [] else before.taken) ++ (map plain (c.pads.ensures i) ++ c.wide_pads.ensures i) in
    record {
      taken = standing_pads reader before.taken;
      read = subst (λ (q : Profile). LayerStands c.clear_pads.new.self q keep.Pads (standing_pads reader before.taken) whole) (sym (ap (λ (r : GridRules). r.profile) rules)) read;
      tried = subst (λ (ps : List WidePad). HasTriedIn new.holes new.index c.args.layer ps new.search) all tried;
    }
