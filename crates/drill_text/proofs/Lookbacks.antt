-- What one more command changes of the words that look back.
use Rattle.drill_text.proofs.Common.{◌≡◌, ℤ, List, [], ◌∷◌, ◌++◌, length, Option, None, Some, unwrap_or, Bool, true, false, cond, ◌||◌, refl, sym, ap, subst, ◌∙◌, flat_map-append, option_or, option_map, option_to_list, list_any, last_set, option_or_none, option_or_assoc, unwrap_or_or, last_set-append, last_set-more, list_any-more, flat_positions-more, Coordinates, DrillCommand, Kind, DrillState, rule_in, tool_made, StateView, state_after, settings_after, header, ends_header, part_set, unit_set, zeros_set, format_set, diameter_set, tool_set, tools_at, tools_of, points_in, points_of, x_set, y_set, unit_after, point_at, coordinate_in, diameter_after, path_at, hole_of, holes_at, holes_of, broken_rule_in, defines_alike, drills, first_broken_in, redefines_tool, state_of, AreWordsAfter, IsStateAfter, Applies, broken_in, mark_of, own_in, after, settings_with, given_last, at_last_point, no_point, drill_path, resolved_point, append-nil}
use Rattle.grid_units.specs.declared.lengths.Unit.{Unit as Units}
use Rattle.drill_lines.specs.declared.command.DrillCommand.TheVariants as command
use Rattle.drill_lines.specs.declared.command.Part.TheVariants as part
use Rattle.drill_text.specs.declared.platings.PlatingWords.{PlatingWords}
use Rattle.drill_text.proofs.PlatingLemmas.{marks_more, picked_is, rules_are, same_own, tool_more, words_more}

-- ---- the header as a whole

one_header : {A : Type 0} (names : DrillCommand → Option A) → names command.HeaderEnd ≡ None → (c : DrillCommand) → last_set names (header (c ∷ [])) ≡ option_or (names c) None
one_header names h command.HeaderEnd = sym (option_or_none (names command.HeaderEnd) ∙ h)
one_header names h (command.Comment t) = sym (option_or_none (names (command.Comment t)))
one_header names h command.Start = sym (option_or_none (names command.Start))
one_header names h (command.UnitLine u z f) = sym (option_or_none (names (command.UnitLine u z f)))
one_header names h (command.Tool n d) = sym (option_or_none (names (command.Tool n d)))
one_header names h (command.UnitCode u) = sym (option_or_none (names (command.UnitCode u)))
one_header names h (command.Pick n) = sym (option_or_none (names (command.Pick n)))
one_header names h (command.Hit p) = sym (option_or_none (names (command.Hit p)))
one_header names h (command.Slot p q) = sym (option_or_none (names (command.Slot p q)))
one_header names h command.Finish = sym (option_or_none (names command.Finish))

cond_or : {A : Type 0} (t : Bool) (o p : Option A) (q : Option A) → option_or (cond t o (option_or p o)) q ≡ cond t (option_or o q) (option_or p (option_or o q))
cond_or true o p q = refl
cond_or false o p q = option_or_assoc p o q

given_is : {A : Type 0} (t : Bool) (p o : Option A) → cond t o (option_or p o) ≡ given_last t p o
given_is true None o = refl
given_is false None o = refl
given_is t (Some x) o = refl

header-cond : {A : Type 0} (names : DrillCommand → Option A) → names command.HeaderEnd ≡ None → (cs : List DrillCommand) (c : DrillCommand)
    → last_set names (header (cs ++ c ∷ [])) ≡ cond (list_any ends_header cs) (last_set names (header cs)) (option_or (names c) (last_set names (header cs)))
header-cond names h [] c = one_header names h c
header-cond names h (d ∷ cs) c = by (ends_header d) (header-cond names h cs c)
  where
    by : (t : Bool) → last_set names (header (cs ++ c ∷ [])) ≡ cond (list_any ends_header cs) (last_set names (header cs)) (option_or (names c) (last_set names (header cs)))
        → last_set names (cond t [] (d ∷ header (cs ++ c ∷ []))) ≡ cond (t || list_any ends_header cs) (last_set names (cond t [] (d ∷ header cs))) (option_or (names c) (last_set names (cond t [] (d ∷ header cs))))
    by true rest = refl
    by false rest = ap (λ o. option_or o (names d)) rest ∙ cond_or (list_any ends_header cs) (last_set names (header cs)) (names c) (names d)

-- what the commands up to the end of the header name, with one more command
pub header-more : {A : Type 0} (names : DrillCommand → Option A) → names command.HeaderEnd ≡ None → (cs : List DrillCommand) (c : DrillCommand)
    → last_set names (header (cs ++ c ∷ [])) ≡ given_last (list_any ends_header cs) (names c) (last_set names (header cs))
header-more names h cs c = header-cond names h cs c ∙ given_is (list_any ends_header cs) (names c) (last_set names (header cs))

-- ---- what stands after one more command

pub settings-more : (before : List DrillCommand) (c : DrillCommand) → settings_after (before ++ c ∷ []) ≡ settings_with c (list_any ends_header before) (settings_after before)
settings-more before c = λ i. record {
  part = (ap (λ o. unwrap_or o part.Before) (last_set-more part_set before c) ∙ unwrap_or_or (part_set c) (last_set part_set before) part.Before) i;
  unit = header-more unit_set refl before c i;
  zeros = header-more zeros_set refl before c i;
  format = header-more format_set refl before c i;
}

points_of-more : (before : List DrillCommand) (c : DrillCommand) → points_of (before ++ c ∷ []) ≡ points_of before ++ points_in c
points_of-more before c = flat_map-append points_in before (c ∷ []) ∙ ap (λ (x : List Coordinates). points_of before ++ x) (append-nil (points_in c))

pub coordinate-more : (names : Coordinates → Option ℤ) (before : List DrillCommand) (c : DrillCommand)
    → last_set names (points_of (before ++ c ∷ [])) ≡ option_or (last_set names (points_in c)) (last_set names (points_of before))
coordinate-more names before c = ap (λ (x : List Coordinates). last_set names x) (points_of-more before c) ∙ last_set-append names (points_of before) (points_in c)

pub state_after-more : (before : List DrillCommand) (c : DrillCommand) → state_after (before ++ c ∷ []) ≡ after c (state_after before)
state_after-more before c = λ i. record {
  settings = settings-more before c i;
  header_ended = list_any-more ends_header before c i;
  diameter = λ number. last_set-more (diameter_set number) before c i;
  tool = last_set-more tool_set before c i;
  x = coordinate-more x_set before c i;
  y = coordinate-more y_set before c i;
}

-- ---- holes

-- a point after others lies where the point that is carried along says
point-more : (unit : Units) (points : List Coordinates) (p : Coordinates) → resolved_point unit (last_set x_set points) (last_set y_set points) p ≡ point_at unit (points ++ p ∷ [])
point-more unit points p = λ i. record {
  x = coordinate_in unit (sym (last_set-append x_set points (p ∷ [])) i);
  y = coordinate_in unit (sym (last_set-append y_set points (p ∷ [])) i);
}

coordinate-more-two : (names : Coordinates → Option ℤ) (points : List Coordinates) (p q : Coordinates) → option_or (names q) (option_or (names p) (last_set names points)) ≡ last_set names (points ++ p ∷ q ∷ [])
coordinate-more-two names points p q = sym (last_set-append names points (p ∷ q ∷ []) ∙ option_or_assoc (names q) (names p) (last_set names points))

point-more-two : (unit : Units) (points : List Coordinates) (p q : Coordinates)
    → resolved_point unit (option_or p.x (last_set x_set points)) (option_or p.y (last_set y_set points)) q ≡ point_at unit (points ++ p ∷ q ∷ [])
point-more-two unit points p q = λ i. record {
  x = coordinate_in unit (coordinate-more-two x_set points p q i);
  y = coordinate_in unit (coordinate-more-two y_set points p q i);
}

-- what is drilled from the point that is carried along is what looking back gives
pub drilled_back : (before : List DrillCommand) (c : DrillCommand) → drill_path (state_after before) c ≡ path_at before c
drilled_back before (command.Hit p) = λ i. Some (record { from = point-more (unit_after before) (points_of before) p i; to = point-more (unit_after before) (points_of before) p i; diameter = coordinate_in (unit_after before) (diameter_after before) })
drilled_back before (command.Slot p q) = λ i. Some (record { from = point-more (unit_after before) (points_of before) p i; to = point-more-two (unit_after before) (points_of before) p q i; diameter = coordinate_in (unit_after before) (diameter_after before) })
drilled_back before (command.Comment t) = refl
drilled_back before command.Start = refl
drilled_back before (command.UnitLine u z f) = refl
drilled_back before (command.Tool n d) = refl
drilled_back before command.HeaderEnd = refl
drilled_back before (command.UnitCode u) = refl
drilled_back before (command.Pick n) = refl
drilled_back before command.Finish = refl

pub holes_of-more : (cs : List DrillCommand) (c : DrillCommand) → holes_of (cs ++ c ∷ []) ≡ holes_of cs ++ holes_at cs c
holes_of-more cs c = flat_positions-more holes_at cs c

-- ---- tools

pub tools_of-more : (cs : List DrillCommand) (c : DrillCommand) → tools_of (cs ++ c ∷ []) ≡ tools_of cs ++ tools_at (state_after cs).diameter c
tools_of-more cs c = flat_positions-more (λ (before : List DrillCommand) (d : DrillCommand). tools_at (state_after before).diameter d) cs c

-- ---- the state

-- the first rule that a command breaks, by the fields of the state: those of every file are asked first
pub rule_is : (state : DrillState) (kind : Kind) (before : List DrillCommand) (c : DrillCommand) → IsStateAfter state kind before → rule_in kind.profile kind.plating before c ≡ option_or (broken_in state c) (own_in state c)
rule_is state kind before c h =
    let table : broken_in state c ≡ broken_rule_in kind.profile before c = (λ i. first_broken_in (h.words.profile_is i) (h.state_after i) (length (h.holes i)) (drill_path (h.state_after i) c) c)
    ∙ ap (λ d. first_broken_in kind.profile (state_after before) (length (holes_of before)) d c) (drilled_back before c) in
    rules_are kind.profile kind.plating before c ∙ (λ i. option_or (sym table i) (sym (same_own state kind before c h) i))

pub knows_more : (old new : DrillState) (kind : Kind) (before : List DrillCommand) (c : DrillCommand) → IsStateAfter old kind before → (redefines_tool (state_of old) c ≡ true → defines_alike (state_of old) c ≡ true) → Applies old c new
    → IsStateAfter new kind (before ++ c ∷ [])
knows_more old new kind before c is_state alike takes = record {
  state_after = takes.state_after ∙ ap (after c) is_state.state_after ∙ sym (state_after-more before c);
  holes = takes.holes ∙ (λ i. is_state.holes i ++ option_to_list (option_map hole_of (drill_path (is_state.state_after i) c))) ∙ ap (λ d. holes_of before ++ option_to_list (option_map hole_of d)) (drilled_back before c) ∙ sym (holes_of-more before c);
  tools = takes.tools alike ∙ (λ i. is_state.tools i ++ tools_at (is_state.state_after i).diameter c) ∙ sym (tools_of-more before c);
  words = subst (λ (w : PlatingWords). AreWordsAfter w kind (before ++ c ∷ [])) (sym takes.words) (words_more old.words kind before c is_state.words);
  platings = λ number. takes.platings number ∙ ((λ i. option_or (tool_made number (is_state.words.said i) c) (is_state.platings number i)) ∙ sym (tool_more before c number));
  plated = takes.plated ∙ ((λ i. is_state.plated i ++ cond (drills c) (mark_of (is_state.words.kind_is i) (picked_is old kind before is_state i)) []) ∙ sym (marks_more kind.plating before c));
}

-- ---- the arms of a hit and a slot

pub moved_two : (p q : Coordinates) (s : StateView) → at_last_point q (at_last_point p s) ≡ after (command.Slot p q) s
moved_two p q s = λ i. record {
  settings = s.settings;
  header_ended = s.header_ended;
  diameter = s.diameter;
  tool = s.tool;
  x = sym (option_or_assoc q.x p.x s.x) i;
  y = sym (option_or_assoc q.y p.y s.y) i;
}

pub moved_one : (p : Coordinates) (s : StateView) → at_last_point no_point (at_last_point p s) ≡ after (command.Hit p) s
moved_one p s = refl
