use Rattle.drill_text.proofs.Common.{◌≡◌, ℕ, List, [], ◌∷◌, length, map, None, Some, Ok, sym, ap, subst, ◌∙◌, with_place, Kind, DrillCommand, UnitLine, without_end_blanks, bytes_of, settings_after, checked_by, rule_in, shown_by}
use Rattle.drill_lines.specs.LineReading.{IsRouteIn}
use Rattle.drill_text.specs.Keeping.{HasRead}
use Rattle.drill_text.proofs.SaidFirst.{first_is_legal, none_begun, nothing_read, read_alike_of}
use Rattle.drill_text.proofs.SpelledLemmas.{checked_kept}
use Rattle.drill_text.proofs.reader.Progress.say.Goals as goal

pub returns-in-Ok-clause-ok : goal.returns-in-Ok-clause-ok
returns-in-Ok-clause-ok c profile plating keep h =
    let old = c.args.self.now in
    let f = c.args.format in
    let first : DrillCommand = UnitLine f.unit f.zeros f.digits in
    let kind : Kind = record { profile = profile; plating = plating; format = Some f } in
    let none : Kind = record { profile = profile; plating = plating; format = None } in
    let start = nothing_read h.lines old.line.items h.splits in
    let shown : shown_by none [] [] ≡ Ok h.commands = (λ i. shown_by none (sym start.0 i) (sym start.1 i)) ∙ h.spelled in
    let no_commands : [] ≡ h.commands = cc in
    let read = subst (λ (cs : List DrillCommand). HasRead old.state old.kept kind keep cs) (sym no_commands) (read_alike_of old.state old.kept profile plating None (Some f) keep h.commands h.has_read.has_read) in
    let k = c.in-Ok.ensures kind keep [] read in
    let kept : with_place 0 0 (checked_by (rule_in profile plating) [] (Some first)) ≡ Ok k.0 = ap (λ (d : DrillCommand). with_place 0 0 (checked_by (rule_in profile plating) [] (Some d))) (sym c.command.ensures) ∙ k.1 in
    let same : Ok (first ∷ []) ≡ Ok k.0 = sym (checked_kept kind [] 0 0 first (first_is_legal profile plating f.unit f.zeros f.digits)) ∙ kept in
    let one : k.0 ≡ first ∷ [] = cc in
    record {
      lines = [];
      commands = first ∷ [];
      splits = record { whole = sym start.1; each = tt; partial = h.splits.partial };
      spelled = ap (shown_by kind []) start.1;
      has_read = record { lines = record { in_profile = h.has_read.lines.in_profile; route = none_begun profile old.reader.route (settings_after h.commands) (settings_after (first ∷ [])) (subst (λ (ls : List (List ℕ)). IsRouteIn profile old.reader.route (settings_after h.commands) (map without_end_blanks ls)) start.0 h.has_read.lines.route) }; has_read = subst (λ (cs : List DrillCommand). HasRead c.keep.new.state c.keep.new.kept kind keep cs) one k.2 };
      count = h.count ∙ ap length start.0;
      start = h.start ∙ ap (λ (ls : List (List ℕ)). length (bytes_of ls)) start.0;
      offset = h.offset;
    }
