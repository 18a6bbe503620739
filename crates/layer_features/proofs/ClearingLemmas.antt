-- What one more command changes of the positions that count and of those that do not.
use Rattle.layer_features.proofs.Common.{◌≡◌, ◌∙◌, ℕ, ◌+◌, ◌&&◌, ◌||◌, Bool, true, false, not, List, [], ◌∷◌, ◌++◌, ◌-◌, cond, drop, take, refl, ap, sym, length, arith, append-nil, append_assoc, length-append, if◌then◌else◌, list_any, prefix_len, reverse-append, take_all, take-append-drop, with_prefixes, with_prefixes_from, last_or-more, list_any-more, with_prefixes-append, Command, after_last, up_to_last, changes_block, in_open_block, is_repeated, positions_up_to_clearing, clears_all, draws, is_clear_after, is_clearing, polarity_set, positions_after_clearing, clearing_after, clearing_with, state_after}
use Rattle.std.specs.Prelude.{unwrap_or}
use Rattle.std.specs.List.{suffix_len}
use Rattle.std.proofs.lemmas.List.{drop-append-le, drop_all, take-append-le}
use Rattle.grid_units.proofs.BoolLemmas.{and_false, or_is_false}
use Rattle.gerber_commands.specs.declared.command.Command.TheVariants as command
use Rattle.layer_features.specs.declared.clearing.Clearing.{Clearing}

-- how many elements at the end do not pass, with one more
suffix_more : {A : Type 0} (goes_on : A → Bool) (xs : List A) (x : A) → suffix_len goes_on (xs ++ x ∷ []) ≡ cond (goes_on x) (1 + suffix_len goes_on xs) 0
suffix_more goes_on xs x = ap (prefix_len goes_on) (reverse-append xs (x ∷ []))

-- where the elements after the last one that passes begin
begins : {A : Type 0} (xs : List A) (x : A) (n : ℕ) → length (xs ++ x ∷ []) - (1 + n) ≡ length xs - n
begins xs x n = omega (arith, length-append xs (x ∷ []))

-- the elements after the last one that passes, with one more: none where it passes, else that one too
pub after_last-more : {A : Type 0} (test : A → Bool) (xs : List A) (x : A) → after_last test (xs ++ x ∷ []) ≡ (if test x then [] else after_last test xs ++ x ∷ [])
after_last-more {A} test xs x = ap (λ n. drop (length (xs ++ x ∷ []) - n) (xs ++ x ∷ [])) (suffix_more (λ y. not (test y)) xs x) ∙ by (test x)
  where
    n : ℕ
    n = suffix_len (λ y. not (test y)) xs

    by : (b : Bool) → drop (length (xs ++ x ∷ []) - cond (not b) (1 + n) 0) (xs ++ x ∷ []) ≡ (if b then [] else after_last test xs ++ x ∷ [])
    by true = drop_all (length (xs ++ x ∷ []) - 0) (xs ++ x ∷ []) (omega arith)
    by false = ap (λ k. drop k (xs ++ x ∷ [])) (begins xs x n) ∙ drop-append-le (length xs - n) xs (x ∷ []) (omega arith)

-- the elements up to the last one that passes, with one more: all where it passes, else the same
up_to_last-more : {A : Type 0} (test : A → Bool) (xs : List A) (x : A) → up_to_last test (xs ++ x ∷ []) ≡ (if test x then xs ++ x ∷ [] else up_to_last test xs)
up_to_last-more {A} test xs x = ap (λ n. take (length (xs ++ x ∷ []) - n) (xs ++ x ∷ [])) (suffix_more (λ y. not (test y)) xs x) ∙ by (test x)
  where
    n : ℕ
    n = suffix_len (λ y. not (test y)) xs

    by : (b : Bool) → take (length (xs ++ x ∷ []) - cond (not b) (1 + n) 0) (xs ++ x ∷ []) ≡ (if b then xs ++ x ∷ [] else up_to_last test xs)
    by true = take_all (length (xs ++ x ∷ []) - 0) (xs ++ x ∷ []) (omega arith)
    by false = ap (λ k. take k (xs ++ x ∷ [])) (begins xs x n) ∙ take-append-le (length xs - n) xs (x ∷ []) (omega arith)

-- the positions that do not count with one more command
pub cleared-more : (before : List Command) (c : Command) → positions_up_to_clearing (before ++ c ∷ []) ≡ (if clears_all (before, c) then with_prefixes before ++ (before, c) ∷ [] else positions_up_to_clearing before)
cleared-more before c = ap (up_to_last clears_all) (with_prefixes-append before (c ∷ [])) ∙ up_to_last-more clears_all (with_prefixes before) (before, c)

-- a list is the elements up to the last one that passes, and those after it
cut : {A : Type 0} (test : A → Bool) (xs : List A) → xs ≡ up_to_last test xs ++ after_last test xs
cut test xs = sym (take-append-drop (length xs - suffix_len (λ x. not (test x)) xs) xs)

-- each position counts or does not
pub all_positions : (commands : List Command) → with_prefixes commands ≡ positions_up_to_clearing commands ++ positions_after_clearing commands
all_positions commands = cut clears_all (with_prefixes commands)

-- whether something of the open block was drawn in clear polarity, with one more command
in_block-more : (before : List Command) (c : Command) → list_any is_clearing (in_open_block (with_prefixes (before ++ c ∷ []))) ≡ (clearing_with c (clearing_after before)).in_block
in_block-more before c =
    ap (λ (l : List (List Command × Command)). list_any is_clearing (in_open_block l)) (with_prefixes-append before (c ∷ []))
    ∙ ap (list_any is_clearing) (after_last-more (λ (p : List Command × Command). changes_block p.1) (with_prefixes before) (before, c))
    ∙ by (changes_block c)
  where
    by : (b : Bool) → list_any is_clearing (if b then [] else in_open_block (with_prefixes before) ++ (before, c) ∷ []) ≡ (if b then false else (is_clearing (before, c) || (clearing_after before).in_block))
    by true = refl
    by false = list_any-more is_clearing (in_open_block (with_prefixes before)) (before, c)

-- polarity with one more command
pub clearing_after-more : (before : List Command) (c : Command) → clearing_after (before ++ c ∷ []) ≡ clearing_with c (clearing_after before)
clearing_after-more before c = λ i. record { clear = last_or-more polarity_set false before c i; in_block = in_block-more before c i }

-- ---- a list without clear polarity

-- a command is `%LPC*%`
abbrev pub is_clear : Command → Bool
is_clear command.Clear = true
is_clear _ = false

-- polarity is dark, and nothing of the open block was drawn in clear polarity
abbrev dark : Clearing
dark = record { clear = false; in_block = false }

stays_dark : (c : Command) → is_clear c ≡ false → unwrap_or (polarity_set c) false ≡ false
stays_dark command.Clear h = absurd cc
stays_dark c h = refl

block_stays : (b d : Bool) → (if b then false else ((d && false) || false)) ≡ false
block_stays true d = refl
block_stays false d = ap (λ (e : Bool). e || false) (and_false d)

still_dark : (c : Command) → is_clear c ≡ false → clearing_with c dark ≡ dark
still_dark c h = λ i. record { clear = stays_dark c h i; in_block = block_stays (changes_block c) (draws c) i }

nothing_cleared : (d r : Bool) → ((d && false) || (r && false)) ≡ false
nothing_cleared d r = λ i. and_false d i || and_false r i

-- at no position all is taken away
none_from : (before cs : List Command) → clearing_after before ≡ dark → list_any is_clear cs ≡ false → list_any clears_all (with_prefixes_from before cs) ≡ false
none_from before [] is h = refl
none_from before (c ∷ cs) is h =
    let both = or_is_false (is_clear c) (list_any is_clear cs) h in
    let here : clears_all (before, c) ≡ false = (λ i. (draws c && (is i).clear) || (is_repeated (state_after before).block && (is i).in_block)) ∙ nothing_cleared (draws c) (is_repeated (state_after before).block) in
    let later = none_from (before ++ c ∷ []) cs (clearing_after-more before c ∙ ap (clearing_with c) is ∙ still_dark c both.0) both.1 in
    λ i. here i || later i

-- where none of some last elements passes, all of them come after the last one that does
pub after_last-append : {A : Type 0} (test : A → Bool) (xs ys : List A) → list_any test ys ≡ false → after_last test (xs ++ ys) ≡ after_last test xs ++ ys
after_last-append {A} test xs [] h = ap (after_last test) (append-nil xs) ∙ sym (append-nil (after_last test xs))
after_last-append {A} test xs (y ∷ ys) h =
    let both = or_is_false (test y) (list_any test ys) h in
    let one : after_last test (xs ++ y ∷ []) ≡ after_last test xs ++ y ∷ [] = after_last-more test xs y ∙ (λ i. if both.0 i then [] else after_last test xs ++ y ∷ []) in
    ap (after_last test) (sym (append_assoc xs (y ∷ []) ys)) ∙ after_last-append test (xs ++ y ∷ []) ys both.1 ∙ ap (λ (l : List A). l ++ ys) one ∙ append_assoc (after_last test xs) (y ∷ []) ys

-- without clear polarity all positions count
pub all_uncleared : (commands : List Command) → list_any is_clear commands ≡ false → positions_after_clearing commands ≡ with_prefixes commands
all_uncleared commands h = after_last-append clears_all [] (with_prefixes commands) (none_from [] commands refl h)

-- polarity stays dark where a command is not `%LPC*%`
pub stays_dark_after : (before : List Command) (c : Command) → is_clear_after before ≡ false → is_clear c ≡ false → is_clear_after (before ++ c ∷ []) ≡ false
stays_dark_after before c dark h = last_or-more polarity_set false before c ∙ ap (unwrap_or (polarity_set c)) dark ∙ stays_dark c h

nothing_before : {A : Type 0} (xs ys : List A) → xs ≡ ys ++ xs → ys ≡ []
nothing_before xs [] e = refl
nothing_before xs (y ∷ ys) e =
    let long : length xs ≡ length (y ∷ ys) + length xs = ap length e ∙ length-append (y ∷ ys) xs in
    absurd (omega (arith, long))

-- without clear polarity no position is taken away
pub none_cleared : (commands : List Command) → list_any is_clear commands ≡ false → positions_up_to_clearing commands ≡ []
none_cleared commands h = nothing_before (with_prefixes commands) (positions_up_to_clearing commands) (all_positions commands ∙ ap (λ (l : List (List Command × Command)). positions_up_to_clearing commands ++ l) (all_uncleared commands h))
