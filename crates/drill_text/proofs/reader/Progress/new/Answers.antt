use Rattle.drill_text.proofs.Common.{◌∙◌, ℕ, List, [], None, ap, sym, subst, refl, Splits, settings_after, shown_by}
use Rattle.drill_text.proofs.RepeatLemmas.{ends_empty}
use Rattle.drill_text.proofs.reader.Progress.new.Goals as goal

pub returns : goal.returns
returns c =
    let none = c.new-4.ensures.items in
    record {
      lines = [];
      commands = [];
      splits = subst (λ (x : List ℕ). Splits [] [] x) (sym none) (record { whole = refl; each = tt; partial = tt });
      spelled = ap (shown_by (record { profile = c.args.profile; plating = c.args.plating; format = None }) []) none;
      has_read = record { lines = c.new.ensures (settings_after []); has_read = record { is_state = c.new-2.ensures; keeps = c.new-3.ensures.keeps; after_hit = c.new-3.ensures.hit ∙ sym ends_empty } };
      count = refl;
      start = refl;
      offset = refl;
    }
