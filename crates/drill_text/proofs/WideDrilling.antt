-- The legal commands of a wide text drill in the body alone, and so they drill the holes that are listed of them.
use Rattle.drill_text.proofs.Common.{◌≡◌, ℕ, true, List, [], ◌∷◌, ◌++◌, Option, None, Some, inl, inr, refl, sym, subst, ◌∙◌, append_assoc, option_to_list, Part, Settings, CoordinateFormat, DrillCommand, Wide, without_end_blanks, IsAlone, Machine, machine_after, said_first, settings_after, part_after, drills, AreEntries, IsWideEntry, WideHolesAreDrilled, append-nil, map, Coordinates, Repeat, further_hits, hit_on, IsRepeated, Spells}
use Rattle.std.specs.List.{range_with_len}
use Rattle.drill_lines.specs.declared.command.Part.TheVariants as part
use Rattle.drill_lines.specs.declared.command.DrillCommand.TheVariants as command
use Rattle.drill_text.proofs.DrillingLemmas.{AreInBody, legal_are_drilled}
use Rattle.drill_text.proofs.RoundTrip.{part_more}

-- these commands come after others, and drill in the body alone
record InBodyAfter (before new : List DrillCommand) : Type 0 where
  more : List DrillCommand
  whole : new ≡ before ++ more
  stands : AreInBody (part_after before) more

body_next : (before new : List DrillCommand) (spelled : Option DrillCommand) → ((c : DrillCommand) → spelled ≡ Some c → drills c ≡ true → part_after before ≡ part.Body) → InBodyAfter (before ++ option_to_list spelled) new → InBodyAfter before new
body_next before new None h k = subst (λ (x : List DrillCommand). InBodyAfter x new) (append-nil before) k
body_next before new (Some c) h k = record {
  more = c ∷ k.more;
  whole = k.whole ∙ append_assoc before (c ∷ []) k.more;
  stands = (h c refl, subst (λ (p : Part). AreInBody p k.more) (part_more before c) k.stands);
}

-- a line by itself that drills stands in the body
alone_in_body : (settings : Settings) (now : Machine) (line : List ℕ) (c : DrillCommand) → IsAlone settings now line (Some c) → drills c ≡ true → settings.part ≡ part.Body
alone_in_body settings now line (command.Hit p) (stands, inl h) d = h.0.0
alone_in_body settings now line (command.Slot p q) (stands, inl h) d = h.0.0
alone_in_body settings now line (command.Hit p) (stands, inr (inl h)) d = let e = h.2 in absurd cc
alone_in_body settings now line (command.Slot p q) (stands, inr (inl h)) d = let e = h.2 in absurd cc
alone_in_body settings now line c (stands, inr (inr h)) d = let e = h.1 in absurd cc
alone_in_body settings now line c h d = absurd cc

-- and so do the lines of a route
entry_in_body : (earlier : List (List ℕ)) (settings : Settings) (entry : List (List ℕ)) (c : DrillCommand) → IsWideEntry earlier settings entry (Some c) → drills c ≡ true → settings.part ≡ part.Body
entry_in_body earlier settings (line ∷ []) c h d = alone_in_body settings (machine_after (map without_end_blanks earlier)) (without_end_blanks line) c h d
entry_in_body earlier settings (first ∷ second ∷ third ∷ fourth ∷ []) (command.Slot p q) h d = h.in_body
entry_in_body earlier settings entry c h d = absurd h

-- a line that repeats a hit stands in the body
repeat_in_body : (earlier : List (List ℕ)) (before : List DrillCommand) (entry : List (List ℕ)) (spelled : List DrillCommand) → IsRepeated earlier before entry spelled
    → (repeat : Repeat) × (part_after before ≡ part.Body) × (spelled ≡ further_hits before repeat)
repeat_in_body earlier before (line ∷ []) spelled (repeat, hit, drilling, is_line, same) = (repeat, is_line.0, same)
repeat_in_body earlier before entry spelled h = absurd h

-- and so do its further hits
hits_next : (before new start : List DrillCommand) (step : Coordinates) (ns : List ℕ) → part_after before ≡ part.Body → InBodyAfter (before ++ map (hit_on start step) ns) new → InBodyAfter before new
hits_next before new start step [] body k = subst (λ (x : List DrillCommand). InBodyAfter x new) (append-nil before) k
hits_next before new start step (n ∷ ns) body k =
    let hit = hit_on start step n in
    body_next before new (Some hit) (λ c e d. body)
    (hits_next (before ++ hit ∷ []) new start step ns (part_more before hit ∙ body) (subst (λ (x : List DrillCommand). InBodyAfter x new) (sym (append_assoc before (hit ∷ []) (map (hit_on start step) ns))) k))

spelled_in_body : (earlier : List (List ℕ)) (before : List DrillCommand) (entries : List (List (List ℕ))) (commands : List DrillCommand) → AreEntries Wide earlier before entries commands → InBodyAfter before commands
spelled_in_body earlier before [] commands h = record { more = []; whole = h ∙ sym (append-nil before); stands = tt }
spelled_in_body earlier before (entry ∷ entries) commands h =
    by h.0 h.1 (spelled_in_body (earlier ++ entry) (before ++ h.0) entries commands h.2)
  where
    by : (spelled : List DrillCommand) → Spells Wide earlier before entry spelled → InBodyAfter (before ++ spelled) commands → InBodyAfter before commands
    by spelled (inl (one, is, same)) rest =
        body_next before commands one
        (λ c e d. entry_in_body earlier (settings_after before) entry c (subst (IsWideEntry earlier (settings_after before) entry) e is) d)
        (subst (λ (cs : List DrillCommand). InBodyAfter (before ++ cs) commands) same rest)
    by spelled (inr repeated) rest =
        let r = repeat_in_body earlier before entry spelled repeated in
        hits_next before commands before r.0.step (range_with_len 1 r.0.count) r.1 (subst (λ (cs : List DrillCommand). InBodyAfter (before ++ cs) commands) r.2 rest)

pub wide_holes_are_drilled : WideHolesAreDrilled
wide_holes_are_drilled format text commands written legal =
    let all = spelled_in_body [] (said_first format) written.entries commands written.spells in
    legal_are_drilled Wide commands legal (subst (AreInBody part.Before) (sym all.whole) (after_said format all.more all.stands))
  where
    after_said : (format : Option CoordinateFormat) (more : List DrillCommand) → AreInBody (part_after (said_first format)) more → AreInBody part.Before (said_first format ++ more)
    after_said None more h = h
    after_said (Some f) more h = (λ e. absurd cc, h)
