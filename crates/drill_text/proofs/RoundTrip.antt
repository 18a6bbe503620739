-- The canonical text of a sayable list spells just the list.
use Rattle.drill_text.proofs.Common.{false≢true, ◌≡◌, ℕ, ◌≤◌, true, false, not, ◌&&◌, eqb, List, [], ◌∷◌, ◌++◌, length, map, take, drop, get_or, Ok, Err, refl, sym, ap, subst, ◌∙◌, arith, append_assoc, lit≤, add-one, suc, ◌+◌, ◌<◌, cond, list_any, list_all, AllByRecursion, option_to_list, map-append, length-append, take-append-drop, flat_map-append, drop-cons, lt-ltb, le-ltb, TooLong, ◌>>=◌, fault, last_or-more, Part, DrillCommand, meaning, canonical, is_sayable, IsInRange, ended_line, bytes_of, HasNoBreak, settings_after, part_after, part_set, is_finish, spelled_after, AreWithinLimit, SpellsText, text_limit, both_true, append-nil, part_with, part_from, are_sayable, is_after_end, drill_sayable, canonical_lines, rewritten_text, eqb-false, not_true}
use Rattle.drill_lines.specs.declared.command.Part.TheVariants as part
use Rattle.drill_lines.specs.declared.command.DrillCommand.TheVariants as command
use Rattle.drill_lines.proofs.CanonicalParses.{parses}
use Rattle.drill_text.proofs.SplitsLemmas.{AllR-append, bytes_of-push}

pub AreTyped : List DrillCommand → Type 0
AreTyped cs = AllByRecursion IsInRange cs

pub part_more : (before : List DrillCommand) (c : DrillCommand) → part_after (before ++ c ∷ []) ≡ part_with (part_after before) c
part_more before c = last_or-more part_set part.Before before c

pub no_breaks : (xs : List ℕ) → list_all (λ b. not (eqb b 10)) xs ≡ true → HasNoBreak xs
no_breaks [] h = tt
no_breaks (x ∷ xs) h = let k = both_true (not (eqb x 10)) (list_all (λ b. not (eqb b 10)) xs) h in (eqb-false x 10 (not_true (eqb x 10) k.0), no_breaks xs k.1)

-- the lines of commands after others
record Written (before cs : List DrillCommand) : Type 0 where
  inside : AllByRecursion HasNoBreak (map canonical cs)
  short : AreWithinLimit (map canonical cs ++ [] ∷ [])
  spelling : spelled_after before (map canonical cs ++ [] ∷ []) ≡ Ok (before ++ cs)

nothing : (before : List DrillCommand) → spelled_after before ([] ∷ []) ≡ Ok (before ++ [])
unfolding meaning
nothing before = refl

written : (before cs : List DrillCommand) → are_sayable (part_after before) cs ≡ true → AreTyped cs → Written before cs
unfolding AreTyped
written before [] h t = record { inside = tt; short = (lit≤ tt, tt); spelling = nothing before }
written before (c ∷ cs) h t =
    let k = both_true (is_sayable (part_after before) c) (are_sayable (part_with (part_after before) c) cs) h in
    let one_command = parses (settings_after before) c k.0 t.0 in
    let rest = written (before ++ c ∷ []) cs (ap (λ p. are_sayable p cs) (part_more before c) ∙ k.1) t.1 in
    record {
      inside = (no_breaks (canonical c) one_command.inside, rest.inside);
      short = (one_command.short, rest.short);
      spelling = ap (λ r. r >>= λ o. spelled_after (before ++ option_to_list o) (map canonical cs ++ [] ∷ [])) one_command.spells ∙ (rest.spelling ∙ ap (λ (x : List DrillCommand). Ok x) (append_assoc before (c ∷ []) cs));
    }

-- a list that goes on to the end has its end
finishes : (p : Part) (cs : List DrillCommand) → is_after_end p ≡ false → is_after_end (part_from p cs) ≡ true → list_any is_finish cs ≡ true
finishes p [] going over = absurd (false≢true (sym going ∙ over))
finishes p (command.Comment t ∷ cs) going over = finishes p cs going over
finishes p (command.Start ∷ cs) going over = finishes part.Header cs refl over
finishes p (command.UnitLine u z f ∷ cs) going over = finishes p cs going over
finishes p (command.Tool n d ∷ cs) going over = finishes p cs going over
finishes p (command.HeaderEnd ∷ cs) going over = finishes part.Body cs refl over
finishes p (command.UnitCode u ∷ cs) going over = finishes p cs going over
finishes p (command.Pick n ∷ cs) going over = finishes p cs going over
finishes p (command.Hit q ∷ cs) going over = finishes p cs going over
finishes p (command.Slot q r ∷ cs) going over = finishes p cs going over
finishes p (command.Finish ∷ cs) going over = refl

pub round_trip : (cs : List DrillCommand) → drill_sayable cs ≡ true → AreTyped cs → length (canonical_lines cs) ≤ text_limit → SpellsText (canonical_lines cs) cs
round_trip cs h t within =
    let k = both_true (are_sayable part.Before cs) (is_after_end (part_from part.Before cs)) h in
    let w = written [] cs k.0 t in
    record {
      lines = map canonical cs;
      rest = [];
      splits = record { whole = sym (append-nil (bytes_of (map canonical cs))); each = w.inside; partial = tt };
      within = within;
      short = w.short;
      spelling = w.spelling;
      ends = finishes part.Before cs refl k.1;
    }

-- ---- writing, line by line

pub typed_none : AreTyped []
unfolding AreTyped
typed_none = tt

pub typed_more : (cs : List DrillCommand) (c : DrillCommand) → AreTyped cs → IsInRange c → AreTyped (cs ++ c ∷ [])
unfolding AreTyped
typed_more cs c h t = AllR-append IsInRange cs (c ∷ []) h (t, tt)

pub text_more : (cs : List DrillCommand) (c : DrillCommand) → canonical_lines (cs ++ c ∷ []) ≡ canonical_lines cs ++ (canonical c ++ 10 ∷ [])
text_more cs c = ap bytes_of (map-append canonical cs (c ∷ [])) ∙ bytes_of-push (map canonical cs) (canonical c)

-- the text of some first commands is no longer than that of all
pub text_prefix : (cs : List DrillCommand) (n : ℕ) → length (canonical_lines (take n cs)) ≤ length (canonical_lines cs)
text_prefix cs n =
    let joined : canonical_lines cs ≡ canonical_lines (take n cs) ++ canonical_lines (drop n cs) =
    ap canonical_lines (sym (take-append-drop n cs)) ∙ (ap bytes_of (map-append canonical (take n cs) (drop n cs)) ∙ flat_map-append ended_line (map canonical (take n cs)) (map canonical (drop n cs))) in
    omega (arith, ap length joined, length-append (canonical_lines (take n cs)) (canonical_lines (drop n cs)))

pub written_long : (cs : List DrillCommand) → text_limit < length (canonical_lines cs) → Err (fault 0 0 TooLong) ≡ rewritten_text cs
written_long cs h = sym (ap (λ t. cond t (Err (fault 0 0 TooLong)) (Ok (canonical_lines cs))) (lt-ltb _ _ h))

pub written_short : (cs : List DrillCommand) (text : List ℕ) → text ≡ canonical_lines cs → length text ≤ text_limit → Ok text ≡ rewritten_text cs
written_short cs text e h =
    let short : length (canonical_lines cs) ≤ text_limit = subst (λ (x : List ℕ). length x ≤ text_limit) e h in
    ap (λ (x : List ℕ). Ok x) e ∙ sym (ap (λ t. cond t (Err (fault 0 0 TooLong)) (Ok (canonical_lines cs))) (le-ltb _ _ short))

-- ---- saying, command by command

sayable_at : (cs : List DrillCommand) (n : ℕ) (c : DrillCommand) → n < length cs → c ≡ get_or cs n c → drop n cs ≡ c ∷ drop (n + 1) cs
sayable_at cs n c h e = drop-cons cs n c h ∙ ((λ i. sym e i ∷ drop (suc n) cs) ∙ ap (λ k. c ∷ drop k cs) (sym (add-one n)))

pub sayable_more : (cs : List DrillCommand) (p : Part) (n : ℕ) (c : DrillCommand) → n < length cs → c ≡ get_or cs n c → is_sayable p c ≡ true → are_sayable p (drop n cs) ≡ are_sayable (part_with p c) (drop (n + 1) cs)
sayable_more cs p n c h e said = ap (are_sayable p) (sayable_at cs n c h e) ∙ ap (λ t. t && are_sayable (part_with p c) (drop (n + 1) cs)) said

pub sayable_not : (cs : List DrillCommand) (p : Part) (n : ℕ) (c : DrillCommand) → n < length cs → c ≡ get_or cs n c → is_sayable p c ≡ false → are_sayable p (drop n cs) ≡ false
sayable_not cs p n c h e said = ap (are_sayable p) (sayable_at cs n c h e) ∙ ap (λ t. t && are_sayable (part_with p c) (drop (n + 1) cs)) said

pub part_at : (cs : List DrillCommand) (p : Part) (n : ℕ) (c : DrillCommand) → n < length cs → c ≡ get_or cs n c → part_from p (drop n cs) ≡ part_from (part_with p c) (drop (n + 1) cs)
part_at cs p n c h e = ap (part_from p) (sayable_at cs n c h e)
