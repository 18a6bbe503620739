-- The commands that items spell are the sayable ones.
use Rattle.gerber_text.proofs.Common.{◌≡◌, ℕ, Bool, true, false, cond, Option, None, List, [], ◌∷◌, Ok, refl, sym, ◌∙◌, lit<, filter, list_all, All-contains, AllPass-from_list_all, and_true, Strict, Action, Command, canonical, is_end_item, meaning_in, is_not_break, without_breaks, IsCutItem, IsSpelled, is_sayable, is_finish}
use Rattle.std.specs.Prelude.{All}
use Rattle.std.proofs.Math.Bool.{or-false}
use Rattle.gerber_text.proofs.CanonicalParses.{parses}
use Rattle.gerber_text.proofs.GrammarItems.{item_written, item_ends}
use Rattle.gerber_text.proofs.WrittenIsSayable.{item_sayable}

-- what a test keeps passes it
pub filter_all : (p : ℕ → Bool) (xs : List ℕ) → list_all p (filter p xs) ≡ true
filter_all p [] = refl
filter_all p (x ∷ xs) = by (p x) refl (filter_all p xs)
  where
    by : (t : Bool) → p x ≡ t → list_all p (filter p xs) ≡ true → list_all p (cond t (x ∷ filter p xs) (filter p xs)) ≡ true
    by true e h = and_true (p x) (list_all p (filter p xs)) e h
    by false e h = h

-- each command that an item spells is sayable
pub said : (latest : Option Action) (item : List ℕ) (commands : List Command) → IsCutItem item → meaning_in Strict latest item ≡ Ok commands → All (λ c. is_sayable c ≡ true) commands
said latest item commands cut e = AllPass-from_list_all is_sayable commands (item_sayable latest item commands (item_written Strict latest item commands cut.one e) cut.kept cut.short)

pub was_spelled : (c : Command) → IsSpelled c → is_sayable c ≡ true
was_spelled c s = All-contains (λ (d : Command). is_sayable d ≡ true) s.commands c (said s.latest s.item s.commands s.cut s.spells) s.among

-- by its canonical item
pub is_spelled : (c : Command) → is_sayable c ≡ true → IsSpelled c
is_spelled c h =
    let s = parses c h in
    record {
      latest = None;
      item = without_breaks (canonical c);
      cut = record { one = s.one; kept = filter_all is_not_break (canonical c); short = s.short };
      commands = c ∷ [];
      spells = s.parses None;
      among = (0, lit< tt, refl);
    }

-- which ends the text just where the command is Finish
pub canonical_ends : (c : Command) → is_sayable c ≡ true → is_end_item (without_breaks (canonical c)) ≡ is_finish c
canonical_ends c h =
    let s = parses c h in
    let item = without_breaks (canonical c) in
    sym (item_ends Strict None item (c ∷ []) (item_written Strict None item (c ∷ []) s.one (s.parses None))) ∙ or-false (is_finish c)
