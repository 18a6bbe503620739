use Rattle.ring_rules.proofs.Common.{◌≡◌, ◌+◌, ◌-◌, ◌≤◌, List, length, map, sym, ap, subst, ◌∙◌, arith, length-map, with_items_is, GridHole, spot_of, HaveForms, Regroups, Spot, Entry}
use borrow.Rule.Slice.PartMut.{put_mid}
use Rattle.ring_rules.proofs.GroupLemmas.{size, still_have_forms, spots_regrouped}
use Rattle.ring_rules.proofs.spot_list.SpotList.group_from.Goals as goal

pub invariant_of-self : goal.invariant_of-self
invariant_of-self c =
    let forms : List GridHole = c.self.inside.forms.items in
    let xs : List Entry = c.deref_mut.result.now in
    let ys : List Entry = c.group.new.entries in
    let view : map (spot_of forms) xs ≡ c.args.self.now = ap (map (spot_of forms)) c.deref_mut.ensures.value ∙ c.self.view_is in
    let at : c.args.start ≤ length xs = (let e = ap (λ (ss : List Spot). length ss) view in omega (arith, e, length-map xs (spot_of forms), c.requires)) in
    let whole : c.args.start + (length xs - c.args.start) ≡ length xs = omega (arith, at) in
    let long : length (put_mid c.args.start (length xs - c.args.start) xs ys) ≡ c.self.inside.entries.len =
    size forms c.args.start (length xs - c.args.start) xs ys at whole c.group.ensures ∙ c.deref_mut.ensures.len in
    subst (HaveForms forms) (sym (with_items_is c.self.inside.entries (put_mid c.args.start (length xs - c.args.start) xs ys) long))
    (still_have_forms forms c.args.start (length xs - c.args.start) xs ys at whole c.group.ensures (subst (HaveForms forms) (sym c.deref_mut.ensures.value) c.self.invariant))

pub returns : goal.returns
returns c =
    let forms : List GridHole = c.self.inside.forms.items in
    let xs : List Entry = c.deref_mut.result.now in
    let ys : List Entry = c.group.new.entries in
    let view : map (spot_of forms) xs ≡ c.args.self.now = ap (map (spot_of forms)) c.deref_mut.ensures.value ∙ c.self.view_is in
    let at : c.args.start ≤ length xs = (let e = ap (λ (ss : List Spot). length ss) view in omega (arith, e, length-map xs (spot_of forms), c.requires)) in
    let whole : c.args.start + (length xs - c.args.start) ≡ length xs = omega (arith, at) in
    let long : length (put_mid c.args.start (length xs - c.args.start) xs ys) ≡ c.self.inside.entries.len =
    size forms c.args.start (length xs - c.args.start) xs ys at whole c.group.ensures ∙ c.deref_mut.ensures.len in
    subst (λ (es : List Entry). Regroups c.args.start c.args.self.now (map (spot_of forms) es)) (sym (with_items_is c.self.inside.entries (put_mid c.args.start (length xs - c.args.start) xs ys) long))
    (subst (λ (ss : List Spot). Regroups c.args.start ss (map (spot_of forms) (put_mid c.args.start (length xs - c.args.start) xs ys))) view
    (spots_regrouped forms c.args.start (length xs - c.args.start) xs ys at whole c.group.ensures))
