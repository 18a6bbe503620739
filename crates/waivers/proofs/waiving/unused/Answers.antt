use Rattle.waivers.proofs.Common.{◌∙◌, ◌+◌, ◌++◌, ◌∷◌, [], Bool, None, ap, sym, append-nil, arith, not, if◌then◌else◌, has_first_place}
use Rattle.waivers.proofs.IdlePlaces.{numbers_more}
use Rattle.waivers.proofs.waiving.unused.Goals as goal
use Rattle.waivers.proofs.waiving.unused.Goals.{then-not-has_first_place+in_ok-push, else-not-has_first_place}

pub loop-place-preserved : goal.loop-place-preserved
loop-place-preserved c =
    let place = c.loop-place.place in
    let old = c.loop-place.idle.items in
    let grown = λ (t : Bool). old ++ (if t then (place + 2) ∷ [] else []) in
    let here = sym c.has_first_place.ensures in
    let more = numbers_more (λ first. not (has_first_place c.args.used.now first)) 2 c.args.firsts.now place (place + 2) None old c.if-not-has_first_place.idle.items
    c.loop-place-test.true (omega arith) c.loop-place.invariant in
    elim c.if-not-has_first_place.branch [
      | then-not-has_first_place+in_ok-push w ↦
          more (ap (λ v. v.items) w.idle-is ∙ (w.in_ok-push.ensures.items ∙ ap grown (sym (ap not (here ∙ w.if-not-has_first_place.true)))))
      | else-not-has_first_place w ↦ more (ap (λ v. v.items) w.idle-is ∙ (sym (append-nil old) ∙ ap grown (sym (ap not (here ∙ w.if-not-has_first_place.false)))))
    ]
