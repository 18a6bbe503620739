use Rattle.ring_rules.proofs.Common.{List, [], ◌∷◌, ◌++◌, map, ap, ◌∙◌, GridHole, hole_of_form, form_at, spot_of, Spot, Entry}
use Rattle.ring_rules.proofs.FormLemmas.{entry_is, spots_more}
use Rattle.ring_rules.proofs.spot_list.SpotList.push.Goals as goal

pub returns : goal.returns
returns c =
    let forms : List GridHole = c.self.inside.forms.items in
    let more : List GridHole = c.form_number.new.forms.items in
    let entry : Entry = record { from = c.from-from.result; place = c.in_ok-place.place; form = c.in_ok-form.form } in
    let hole = ap (hole_of_form (form_at c.form_number.new.forms.items c.in_ok-form.form)) c.from-from.ensures ∙ c.in_ok-form.ensures.form in
    record {
      items =
          ap (map (spot_of more)) c.in_ok-push.ensures.items ∙ (spots_more forms more c.form_number.ensures.longer c.form_number.ensures.kept c.self.inside.entries.items c.self.invariant entry
          ∙ (ap (λ (ss : List Spot). ss ++ spot_of more entry ∷ []) c.self.view_is ∙ ap (λ (s : Spot). c.args.self.now ++ s ∷ []) (entry_is more entry c.args.spot hole c.in_ok-place.ensures)));
    }
