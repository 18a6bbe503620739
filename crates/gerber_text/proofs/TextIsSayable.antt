-- The commands that a text spells are sayable.
use Rattle.gerber_text.proofs.Common.{◌≡◌, ◌≢◌, ℕ, suc, ◌+◌, ◌<◌, ◌≤◌, Bool, true, false, not, ◌&&◌, Option, None, option_or, List, [], ◌∷◌, ◌++◌, length, drop, get_or, Result, Ok, Err, refl, sym, ap, ◌∙◌, arith, append_assoc, drop-cons, IfOk, Vec, list_all, concat, AllByRecursion, drop_all, recursion_from_All, list_all-append, Fail, AnswersAlways, Strict, Action, Command, Finish, canonical, is_not_break, has_valid_fields, is_sayable, is_finish, Placed, AreItemsIn, Entries, ReadsIn, SpellsTextIn, entries_of, without_places, sayable, both_true, action_of, last_set}
use Rattle.gerber_text.proofs.GrammarItems.{other}
use Rattle.gerber_text.proofs.RunLemmas.{all_parts}
use Rattle.gerber_text.proofs.SpelledCommands.{filter_all}
use Rattle.gerber_text.proofs.SpelledIsWritten.{spelled_is_written}
use Rattle.gerber_text.proofs.SpellsTextLemmas.{reads_spells}
use Rattle.gerber_text.proofs.WrittenIsSayable.{item_sayable}

-- ---- what is written

items_sayable : (latest : Option Action) (items : List (List ℕ)) (rest : List ℕ) (cs : List Command) → AreItemsIn Strict latest items cs → list_all is_not_break (concat items ++ rest) ≡ true → list_all is_sayable cs ≡ true
items_sayable latest [] rest cs h k = ap (list_all is_sayable) h
items_sayable latest (item ∷ items) rest cs (first, others, is, short, written, more) k =
    let kept = all_parts is_not_break item (concat items ++ rest) (ap (list_all is_not_break) (sym (append_assoc item (concat items) rest)) ∙ k) in
    ap (list_all is_sayable) is ∙ (list_all-append is_sayable first others ∙ (λ i. item_sayable latest item first written kept.0 short i && items_sayable (option_or (last_set action_of first) latest) items rest others more kept.1 i))

finish_sayable : is_sayable Finish ≡ true
unfolding has_valid_fields canonical
finish_sayable = refl

-- sayable commands, and the end of the text after them alone
ends : (cs : List Command) → list_all is_sayable cs ≡ true → AllByRecursion (λ c. c ≢ Finish) cs → sayable (cs ++ Finish ∷ []) ≡ true
ends [] h k = ap (λ t. t && true) finish_sayable
ends (c ∷ []) h k = λ i. (both_true (is_sayable c) true h).0 i && (not (other c k.0 i) && ends [] refl tt i)
ends (c ∷ d ∷ cs) h k = let said = both_true (is_sayable c) (list_all is_sayable (d ∷ cs)) h in λ i. said.0 i && (not (other c k.0 i) && ends (d ∷ cs) said.1 k.1 i)

pub text_sayable : (text : List ℕ) (cs : Entries) → SpellsTextIn Strict text cs → sayable (without_places cs) ≡ true
text_sayable text cs s =
    let w = spelled_is_written Strict text cs s in
    let kept : list_all is_not_break (concat w.items ++ (w.end ++ w.tail)) ≡ true = ap (list_all is_not_break) (sym (w.written ∙ append_assoc (concat w.items) w.end w.tail)) ∙ filter_all is_not_break text in
    ap sayable w.is ∙ ends w.before (items_sayable None w.items (w.end ++ w.tail) w.before w.spelled kept) (recursion_from_All (λ c. c ≢ Finish) w.before w.not_ended)

-- ---- what a call returned

pub always_sayable : (text : List ℕ) (r : Result (Vec (Placed Command)) Fail) → AnswersAlways entries_of (λ answer. ReadsIn Strict text answer) r → IfOk r (λ v. sayable (without_places v.items) ≡ true)
always_sayable text (Ok v) h = text_sayable text v.items (reads_spells Strict text v.items h)
always_sayable text (Err e) h = tt

-- ---- the test, command by command

-- these commands end a sayable list, after a command that is the end of the text or not
pub goes_on : Bool → List Command → Bool
goes_on ended [] = ended
goes_on ended (c ∷ cs) = not ended && (is_sayable c && goes_on (is_finish c) cs)

pub from_first : (cs : List Command) → sayable cs ≡ goes_on false cs
unfolding goes_on
from_first [] = refl
from_first (c ∷ []) = refl
from_first (c ∷ d ∷ cs) = by (is_finish c) (from_first (d ∷ cs))
  where
    by : (t : Bool) → sayable (d ∷ cs) ≡ goes_on false (d ∷ cs) → (is_sayable c && (not t && sayable (d ∷ cs))) ≡ (is_sayable c && goes_on t (d ∷ cs))
    by true h = refl
    by false h = ap (λ u. is_sayable c && u) h

dropped : (cs : List Command) (n : ℕ) (c : Command) → n < length cs → drop n cs ≡ get_or cs n c ∷ drop (n + 1) cs
dropped cs n c lt =
    let k : suc n ≡ n + 1 = omega arith in
    drop-cons cs n c lt ∙ ap (λ j. get_or cs n c ∷ drop j cs) k

pub one_more : (cs : List Command) (n : ℕ) (c : Command) (ended : Bool) → n < length cs → c ≡ get_or cs n c → goes_on ended (drop n cs) ≡ (not ended && (is_sayable c && goes_on (is_finish c) (drop (n + 1) cs)))
unfolding goes_on
one_more cs n c ended lt is = ap (goes_on ended) (dropped cs n c lt ∙ ap (λ (d : Command). d ∷ drop (n + 1) cs) (sym is))

pub more_than : (cs : List Command) (n : ℕ) (ended : Bool) → length cs ≤ n → goes_on ended (drop n cs) ≡ ended
unfolding goes_on
more_than cs n ended le = ap (goes_on ended) (drop_all n cs le)
