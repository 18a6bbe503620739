-- Items in the two profiles.
use Rattle.gerber_text.proofs.Common.{◌≡◌, ℕ, suc, Bool, true, false, cond, eqb, Option, List, [], ◌∷◌, Ok, sym, ap, ◌∙◌, ◌>>=◌, bind_ok, Action, Command, Strict, Wide, word, extended_meaning, extended_in, meaning_in, repeated_in, without_end, OffsetByte, bytes_of, first_offset, Entries, latest_action, spelled_in, commands_by, SpellsTextIn}
use Rattle.gerber_commands.proofs.Exact.{word_exact}
use Rattle.gerber_commands.proofs.ProfileLemmas.{wide_reads_more as extended_reads_more}
use Rattle.gerber_commands.proofs.WrittenWords.{word_written}
use Rattle.gerber_text.proofs.GrammarItems.{word_anywhere}
use Rattle.gerber_text.proofs.Items.{spelled_ok}
use Rattle.gerber_text.proofs.SpelledIsWritten.{added}

-- ---- one item

-- an item that the strict profile reads, the wide one reads as the same commands
pub means_more : (latest : Option Action) (item : List ℕ) (cs : List Command) → meaning_in Strict latest item ≡ Ok cs → meaning_in Wide latest item ≡ Ok cs
unfolding meaning_in
means_more latest [] cs e = absurd cc
means_more latest (b ∷ bs) cs e = by (eqb b 37) e
  where
    by : (t : Bool) → cond t (extended_meaning (without_end bs)) (word (repeated_in Strict latest) (without_end (b ∷ bs))) ≡ Ok cs → cond t (extended_in Wide (without_end bs)) (word latest (without_end (b ∷ bs))) ≡ Ok cs
    by true h = extended_reads_more (without_end bs) cs h
    by false h = let w = without_end (b ∷ bs) in word_exact latest w cs (word_anywhere Wide latest w cs (word_written (repeated_in Strict latest) w cs h))

-- ---- texts

-- an item that adds commands in the strict profile adds the same ones in the wide one
adds_more : (place byte : ℕ) (bytes : List ℕ) (before after : Entries) → spelled_in Strict place byte bytes before ≡ Ok after → spelled_in Wide place byte bytes before ≡ Ok after
adds_more place byte bytes before after e =
    let a = added Strict place byte bytes before after e in
    spelled_ok Wide place byte bytes before a.commands a.short (means_more (latest_action before) bytes a.commands a.spells) ∙ ap (λ (x : Entries). Ok x) (sym a.whole)

items_add_more : (place : ℕ) (items : List (List OffsetByte)) (before after : Entries) → commands_by Strict place items before ≡ Ok after → commands_by Wide place items before ≡ Ok after
items_add_more place [] before after e = e
items_add_more place (item ∷ items) before after e =
    let b = bind_ok (spelled_in Strict place (first_offset item) (bytes_of item) before) (commands_by Strict (suc place) items) after e in
    ap (λ r. r >>= commands_by Wide (suc place) items) (adds_more place (first_offset item) (bytes_of item) before b.0 b.1) ∙ items_add_more (suc place) items b.0 after b.2

-- a text that spells commands in the strict profile spells the same ones in the wide one
pub spells_more : (text : List ℕ) (cs : Entries) → SpellsTextIn Strict text cs → SpellsTextIn Wide text cs
spells_more text cs s = record {
  items = s.items;
  tail = s.tail;
  splits = s.splits;
  ends = s.ends;
  spelled = items_add_more 1 s.items [] cs s.spelled;
  follows = s.follows;
  short = s.short;
}
