-- The commands that a text spells are sayable.
use Rattle.drill_text.proofs.Common.{◌≡◌, ℕ, true, not, eqb, List, [], ◌∷◌, ◌++◌, Option, None, Some, Result, Ok, Err, IfOk, refl, sym, ap, subst, ◌∙◌, append_assoc, list_any, list_all, AllByRecursion, option_to_list, ne_eqb, Fail, Answers, bind_ok, Strict, Part, DrillCommand, without_end_blanks, meaning, is_sayable, HasNoBreak, settings_after, part_after, Reads, is_finish, plain, spelled_after, AreWithinLimit, SpellsText, IsDrillText, ReadsAs, part_with, part_from, are_sayable, is_after_end, drill_sayable, Commands, Stated, DrillFile, commands_in, file_of, both_true, and_true, append-nil}
use Rattle.grid_units.specs.declared.fault.Fail.TheVariants as fails
use Rattle.drill_lines.specs.declared.command.Part.TheVariants as part
use Rattle.drill_lines.specs.declared.command.DrillCommand.TheVariants as command
use Rattle.drill_lines.proofs.ParsedIsSayable.{line_sayable}
use Rattle.drill_text.proofs.SplitsLemmas.{AllR-append}
use Rattle.drill_text.proofs.SpellsTextLemmas.{drill_text_reads}
use Rattle.drill_text.proofs.UniqueReading.{one_read_in}
use Rattle.drill_text.proofs.RoundTrip.{part_more}

no_break : (xs : List ℕ) → HasNoBreak xs → list_all (λ b. not (eqb b 10)) xs ≡ true
no_break [] h = refl
no_break (x ∷ xs) h = and_true (not (eqb x 10)) (list_all (λ b. not (eqb b 10)) xs) (ap not (ne_eqb x 10 h.0)) (no_break xs h.1)

-- what lines spell after these commands is sayable after them
record SayableAfter (before new : List DrillCommand) : Type 0 where
  more : List DrillCommand
  whole : new ≡ before ++ more
  said : are_sayable (part_after before) more ≡ true

sayable_next : (before new : List DrillCommand) (command : Option DrillCommand) → ((c : DrillCommand) → command ≡ Some c → is_sayable (part_after before) c ≡ true) → SayableAfter (before ++ option_to_list command) new → SayableAfter before new
sayable_next before new None h k = subst (λ (x : List DrillCommand). SayableAfter x new) (append-nil before) k
sayable_next before new (Some c) h k = record {
  more = c ∷ k.more;
  whole = k.whole ∙ append_assoc before (c ∷ []) k.more;
  said = and_true (is_sayable (part_after before) c) (are_sayable (part_with (part_after before) c) k.more) (h c refl) (ap (λ p. are_sayable p k.more) (sym (part_more before c)) ∙ k.said);
}

spelled_sayable : (before new : List DrillCommand) (lines : List (List ℕ)) → AllByRecursion HasNoBreak lines → AreWithinLimit lines → spelled_after before lines ≡ Ok new → SayableAfter before new
spelled_sayable before new [] inside short e = let same : before ≡ new = cc in record { more = []; whole = sym same ∙ sym (append-nil before); said = refl }
spelled_sayable before new (line ∷ lines) inside short e =
    let b = bind_ok (meaning (settings_after before) (without_end_blanks line)) (λ command. spelled_after (before ++ option_to_list command) lines) new e in
    sayable_next before new b.0 (λ c k. line_sayable (settings_after before) line c (no_break line inside.0) short.0 (b.1 ∙ ap (λ (o : Option DrillCommand). Ok o) k))
    (spelled_sayable (before ++ option_to_list b.0) new lines inside.1 short.1 b.2)

-- no command is sayable after the end
sayable_after_end : (cs : List DrillCommand) → are_sayable part.After cs ≡ true → is_after_end (part_from part.After cs) ≡ true
sayable_after_end [] h = refl
sayable_after_end (c ∷ cs) h = absurd cc

comes_to_end : (p : Part) (cs : List DrillCommand) → are_sayable p cs ≡ true → list_any is_finish cs ≡ true → is_after_end (part_from p cs) ≡ true
comes_to_end p [] h k = absurd cc
comes_to_end p (command.Comment t ∷ cs) h k = comes_to_end p cs (both_true (is_sayable p (command.Comment t)) (are_sayable p cs) h).1 k
comes_to_end p (command.Start ∷ cs) h k = comes_to_end part.Header cs (both_true (is_sayable p command.Start) (are_sayable part.Header cs) h).1 k
comes_to_end p (command.UnitLine u z f ∷ cs) h k = comes_to_end p cs (both_true (is_sayable p (command.UnitLine u z f)) (are_sayable p cs) h).1 k
comes_to_end p (command.Tool n d ∷ cs) h k = comes_to_end p cs (both_true (is_sayable p (command.Tool n d)) (are_sayable p cs) h).1 k
comes_to_end p (command.HeaderEnd ∷ cs) h k = comes_to_end part.Body cs (both_true (is_sayable p command.HeaderEnd) (are_sayable part.Body cs) h).1 k
comes_to_end p (command.UnitCode u ∷ cs) h k = comes_to_end p cs (both_true (is_sayable p (command.UnitCode u)) (are_sayable p cs) h).1 k
comes_to_end p (command.Pick n ∷ cs) h k = comes_to_end p cs (both_true (is_sayable p (command.Pick n)) (are_sayable p cs) h).1 k
comes_to_end p (command.Hit q ∷ cs) h k = comes_to_end p cs (both_true (is_sayable p (command.Hit q)) (are_sayable p cs) h).1 k
comes_to_end p (command.Slot q r ∷ cs) h k = comes_to_end p cs (both_true (is_sayable p (command.Slot q r)) (are_sayable p cs) h).1 k
comes_to_end p (command.Finish ∷ cs) h k = sayable_after_end cs (both_true (is_sayable p command.Finish) (are_sayable part.After cs) h).1

-- the commands that a text spells are sayable
pub text_sayable : (text : List ℕ) (cs : List DrillCommand) → SpellsText text cs → drill_sayable cs ≡ true
text_sayable text cs s =
    let said = spelled_sayable [] cs (s.lines ++ s.rest ∷ []) (AllR-append HasNoBreak s.lines (s.rest ∷ []) s.splits.each (s.splits.partial, tt)) s.short s.spelling in
    let h : are_sayable part.Before cs ≡ true = ap (are_sayable part.Before) said.whole ∙ said.said in
    and_true (are_sayable part.Before cs) (is_after_end (part_from part.Before cs)) h (comes_to_end part.Before cs h s.ends)

-- ---- what a call answered that kept the commands

abbrev Gave : List ℕ → Result DrillFile Fail → Type 0
Gave text r = Answers (λ (d : DrillFile). d) (ReadsAs (file_of Stated Commands) text) r

pub answers_reads : (text : List ℕ) (r : Result DrillFile Fail) → Gave text r → Answers commands_in (Reads text) r
answers_reads text (Ok d) h = subst (λ (cs : List DrillCommand). Reads text (Ok cs)) (sym (ap commands_in h.2)) (drill_text_reads text h.0 h.1)
answers_reads text (Err fails.Memory) h = tt
answers_reads text (Err (fails.Refused f)) h = h

pub answers_found : (text : List ℕ) (r : Result DrillFile Fail) → Gave text r → IfOk r (λ (d : DrillFile). IsDrillText text d.commands)
answers_found text (Ok d) h = subst (IsDrillText text) (sym (ap commands_in h.2)) h.1
answers_found text (Err e) h = tt

pub answers_only : (text : List ℕ) (cs : List DrillCommand) (r : Result DrillFile Fail) → IsDrillText text cs → Gave text r → Answers commands_in (λ answer. answer ≡ Ok cs) r
answers_only text cs (Ok d) i h = one_read_in (plain Strict) text (Ok d.commands) (Ok cs) (answers_reads text (Ok d) h) (drill_text_reads text cs i)
answers_only text cs (Err fails.Memory) i h = tt
answers_only text cs (Err (fails.Refused f)) i h = one_read_in (plain Strict) text (Err f) (Ok cs) h (drill_text_reads text cs i)

pub answers_file : (text : List ℕ) (r : Result DrillFile Fail) → Gave text r → IfOk r (λ (d : DrillFile). d ≡ file_of Stated Commands d.commands)
answers_file text (Ok d) h = h.2 ∙ sym (ap (λ (e : DrillFile). file_of Stated Commands e.commands) h.2)
answers_file text (Err e) h = tt

pub answers_sayable : (text : List ℕ) (r : Result DrillFile Fail) → Gave text r → IfOk r (λ (d : DrillFile). drill_sayable d.commands ≡ true)
answers_sayable text (Ok d) h = ap (λ (e : DrillFile). drill_sayable e.commands) h.2 ∙ text_sayable text h.0 h.1.spells
answers_sayable text (Err e) h = tt
