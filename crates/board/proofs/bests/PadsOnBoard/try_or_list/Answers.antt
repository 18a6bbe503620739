use Rattle.board.proofs.Common.{ℕ, ◌<◌, length, All, inl, inr, List, get_or, sym, subst, Contains, get_or_default, AreAllCovered}
use Rattle.std.proofs.lemmas.List.Elements.{All-push}
use Rattle.board.proofs.BestPadsLemmas.{all_improve_none, no_better_elsewhere, no_better_outside, one_more, contains_more, contains_last}
use Rattle.board.proofs.bests.PadsOnBoard.try_or_list.Goals as goal

pub returns-then-not-may_cover-clause-tried : goal.returns-then-not-may_cover-clause-tried
returns-then-not-may_cover-clause-tried g c =
    let covers = g.S.PadShape.covers in
    let pads = c.args.self.now.pads.now in
    let holes = c.args.self.now.holes.now in
    let large = c.args.large.now.items in
    let bests = c.args.bests.now in
    one_more covers pads holes c.args.place large large bests bests (λ k listed. listed) (all_improve_none covers pads holes bests) c.requires.before
    (inr (no_better_outside covers pads holes c.args.place (get_or c.args.self.now.pads.now c.args.place c.index-self-place.result) c.args.self.now.whole bests
    (λ s. get_or_default pads c.args.place s c.index-self-place.result c.requires.place) c.requires.whole (c.may_cover.ensures c.if-not-may_cover.true)))

pub returns-then-branch-clause-tried : goal.returns-then-branch-clause-tried
returns-then-branch-clause-tried g c =
    let covers = g.S.PadShape.covers in
    let pads = c.args.self.now.pads.now in
    let holes = c.args.self.now.holes.now in
    let large = c.args.large.now.items in
    one_more covers pads holes c.args.place large large c.args.bests.now c.try_near.new.bests (λ k listed. listed) c.try_near.ensures.improves c.requires.before
    (inr (no_better_elsewhere covers pads holes c.args.place (get_or c.args.self.now.pads.now c.args.place c.index-self-place.result) c.deref.result.now c.try_near.new.bests
    (λ s. get_or_default pads c.args.place s c.index-self-place.result c.requires.place)
    (subst (λ (near : List ℕ). AreAllCovered g.S.PadShape.covers (get_or c.args.self.now.pads.now c.args.place c.index-self-place.result) c.args.self.now.holes.now near) (sym c.deref.ensures.value) (c.in_ok-finds_few.ensures.all c.if-branch.true)) c.try_near.ensures.below))

pub returns-in_ok-push-clause-tried : goal.returns-in_ok-push-clause-tried
returns-in_ok-push-clause-tried g c =
    let covers = g.S.PadShape.covers in
    let pads = c.args.self.now.pads.now in
    let holes = c.args.self.now.holes.now in
    let large = c.args.large.now.items in
    let bests = c.args.bests.now in
    one_more covers pads holes c.args.place large c.push.new.self.items bests bests
    (λ k listed. subst (λ (xs : List ℕ). Contains xs k) (sym c.in_ok-push.ensures.items) (contains_more c.args.large.now.items c.args.place k listed))
    (all_improve_none covers pads holes bests) c.requires.before
    (inl (subst (λ (xs : List ℕ). Contains xs c.args.place) (sym c.in_ok-push.ensures.items) (contains_last c.args.large.now.items c.args.place)))

pub returns-in_ok-push-clause-large : goal.returns-in_ok-push-clause-large
returns-in_ok-push-clause-large g c =
    let listed = λ (k : ℕ). k < length c.args.self.now.pads.now in subst (All listed) (sym c.in_ok-push.ensures.items) (All-push listed c.args.large.now.items c.args.place c.requires.large c.requires.place)
