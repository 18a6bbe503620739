use Rattle.report.proofs.Common.{◌++◌, ◌∷◌, [], List, take, ap, append_assoc, append-nil, subst, sym, ◌∙◌, take_all, take_more, IsFirstIn, Other}
use Rattle.report.proofs.other.first_in_hole.Goals as goal

pub loop-other-init : goal.loop-other-init
loop-other-init c = λ seen is. subst (λ (xs : List Other). IsFirstIn xs c.args.hole.now c.args.first) (sym (append-nil seen)) is

pub loop-other-preserved : goal.loop-other-preserved
loop-other-preserved c = λ seen is.
    let all = c.args.others.now in
    let i = c.loop-other.other-index in
    let item = c.other-item.result in
    let more = take_more all i item c.loop-other-test.true ∙ ap (λ (o : Other). take i all ++ o ∷ []) (sym c.other-item.is) in
    subst (λ (xs : List Other). IsFirstIn xs c.args.hole.now c.earlier_in_hole-first.result) (append_assoc seen (take i all) (item ∷ []) ∙ ap (λ (xs : List Other). seen ++ xs) (sym more))
    (c.earlier_in_hole-first.ensures (seen ++ take i all) (c.loop-other.invariant seen is))

pub returns : goal.returns
returns c = λ seen is.
    subst (λ (xs : List Other). IsFirstIn (seen ++ xs) c.args.hole.now c.loop-other.first) (take_all c.loop-other.other-index c.args.others.now c.loop-other-test.false) (c.loop-other.invariant seen is)
