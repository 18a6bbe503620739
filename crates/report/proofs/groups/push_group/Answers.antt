use Rattle.report.proofs.Common.{◌∷◌, [], subst, sym, All-append, All-cons, All-nil, AreGroups, IsGroup}
use Rattle.report.proofs.groups.push_group.Goals as goal

pub returns-in_ok-push : goal.returns-in_ok-push
returns-in_ok-push c = λ were.
    let all = c.args.others.now in
    let P = IsGroup all in
    let group = c.group_from.result in
    subst (AreGroups all) (sym c.in_ok-push.ensures.items) (All-append P c.args.groups.now.items (group ∷ []) were (All-cons P group [] c.group_from.ensures (All-nil P)))
