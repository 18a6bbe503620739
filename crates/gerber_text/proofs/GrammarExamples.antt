-- Texts that are written for these commands, or for none.
use Rattle.gerber_text.proofs.Common.{◌≡◌, ◌≢◌, inl, inr, ℕ, true, Option, List, [], ◌∷◌, ◌++◌, pos, Some, None, Ok, Err, refl, arith, codes, All-from_recursion, parse_decimal, Millimetre, Action, Command, UnitIs, FormatIs, Define, Select, Operate, Clear, Finish, Flash, Rectangle, Strict, Wide, int_of, nat_of, may_follow, no_effect_row, split_mode, mode_row, quadrant_row, region_row, unit_row, incremental_row, select_row, fields, operation_row, finish_row, word, IsItemIn, IsTextIn, IsItem, meaning_in, spelled_in, ReadsIn, fault, AfterEnd}
use Rattle.gerber_commands.specs.declared.command.Template.TheVariants as templates
use Rattle.gerber_commands.proofs.PieceExamples.{format, millimetres}
use Rattle.gerber_text.proofs.ItemLemmas.{word_is_item}
use Rattle.gerber_text.proofs.SpellsTextLemmas.{spells_reads}
use Rattle.gerber_text.proofs.UniqueReading.{one_read}
use Rattle.gerber_text.proofs.WrittenIsSpelled.{written_is_spelled}

-- the end of the text, and nothing else
end_alone : IsTextIn Strict (codes "M02*") (Finish ∷ [])
end_alone = record {
  items = [];
  end = codes "M02*";
  tail = [];
  before = [];
  written = refl;
  spelled = refl;
  not_ended = All-from_recursion (λ c. c ≢ Finish) [] tt;
  ends = inl refl;
  follows = All-from_recursion (λ b. may_follow b ≡ true) [] tt;
  is = refl;
  short = omega arith;
}

-- in the wide profile, clear polarity and the end of the text
clear_text : IsTextIn Wide (codes "%LPC*%M02*") (Clear ∷ Finish ∷ [])
clear_text = record {
  items = codes "%LPC*%" ∷ [];
  end = codes "M02*";
  tail = [];
  before = Clear ∷ [];
  written = refl;
  spelled = (Clear ∷ [], [], refl, omega arith, inr (codes "LPC", refl, refl, inl (inl (refl, refl))), refl);
  not_ended = All-from_recursion (λ c. c ≢ Finish) (Clear ∷ []) (λ e. absurd cc, tt);
  ends = inl refl;
  follows = All-from_recursion (λ b. may_follow b ≡ true) [] tt;
  is = refl;
  short = omega arith;
}

-- ---- a layer that flashes a square of 0.65 mm

format_item : (latest : Option Action) → IsItemIn Strict latest (codes "%FSLAX46Y46*%") (FormatIs (record { whole = 4; decimals = 6 }) ∷ [])
format_item latest = inr (codes "FSLAX46Y46", refl, refl, format)

unit_item : (latest : Option Action) → IsItemIn Strict latest (codes "%MOMM*%") (UnitIs Millimetre ∷ [])
unit_item latest = inr (codes "MOMM", refl, refl, millimetres)

define_item : (latest : Option Action) → IsItemIn Strict latest (codes "%ADD10R,0.65X0.65*%") (Define 10 (templates.Standard Rectangle (pos 65000000 ∷ pos 65000000 ∷ [])) ∷ [])
unfolding nat_of parse_decimal
define_item latest =
    inr (codes "ADD10R,0.65X0.65", refl, refl, inr (refl, inr (inl (_, (codes "10", codes "R,0.65X0.65", refl, omega arith, (codes "R", 2, 4, codes "0.65" ∷ codes "0.65" ∷ [], (1, omega arith, refl), refl, omega arith, omega arith, refl), refl), refl))))

select_item : (latest : Option Action) → IsItemIn Strict latest (codes "D10*") (Select 10 ∷ [])
unfolding nat_of
select_item latest = inl (codes "D10", refl, refl, inr (inr (inr (inl (codes "10", 10, inl refl, refl, omega arith, refl)))))

flash_item : (latest : Option Action) → IsItemIn Strict latest (codes "X0Y0D03*") (Operate Flash (Some (pos 0)) (Some (pos 0)) None None ∷ [])
unfolding int_of nat_of
flash_item latest = inl (
  codes "X0Y0D03",
  refl,
  refl,
  inr (inr (inr (inr (record {
    mode = ([], []);
    x = Some (codes "0");
    y = Some (codes "0");
    i = None;
    j = None;
    d = Some (codes "03");
    what = Flash;
    at = (Some (pos 0), Some (pos 0));
    offset = (None, None);
    mode_is = (0, omega arith, refl);
    written = refl;
    some = refl;
    names = (refl, refl, refl, refl);
    does = inl refl;
    plots = inr (refl, refl);
    is = refl;
  })))),
)

abbrev layer : List ℕ
layer = codes "%FSLAX46Y46*%\n%MOMM*%\n%ADD10R,0.65X0.65*%\nD10*\nX0Y0D03*\nM02*\n"

abbrev before : List Command
before =
    FormatIs (record { whole = 4; decimals = 6 })
    ∷ UnitIs Millimetre
    ∷ Define 10 (templates.Standard Rectangle (pos 65000000 ∷ pos 65000000 ∷ []))
    ∷ Select 10
    ∷ Operate Flash (Some (pos 0)) (Some (pos 0)) None None
    ∷ []

one_flash : IsTextIn Strict layer (before ++ Finish ∷ [])
one_flash = record {
  items = codes "%FSLAX46Y46*%" ∷ codes "%MOMM*%" ∷ codes "%ADD10R,0.65X0.65*%" ∷ codes "D10*" ∷ codes "X0Y0D03*" ∷ [];
  end = codes "M02*";
  tail = [];
  before = before;
  written = refl;
  spelled = (_, _, refl, omega arith, format_item None, (_, _, refl, omega arith, unit_item None, (_, _, refl, omega arith, define_item None, (_, _, refl, omega arith, select_item None, (_, _, refl, omega arith, flash_item None, refl)))));
  not_ended = All-from_recursion (λ c. c ≢ Finish) before (λ e. absurd cc, (λ e. absurd cc, (λ e. absurd cc, (λ e. absurd cc, (λ e. absurd cc, tt)))));
  ends = inl refl;
  follows = All-from_recursion (λ b. may_follow b ≡ true) [] tt;
  is = refl;
  short = omega arith;
}

-- ---- texts that are written for no commands

-- no item stands after the end of the text, not even one without an effect
no_item_after_end : (commands : List Command) → IsTextIn Strict (codes "M02*G90*") commands → ⊥
unfolding spelled_in meaning_in word no_effect_row mode_row split_mode quadrant_row region_row unit_row incremental_row select_row operation_row fields finish_row
no_item_after_end commands h =
    let s = written_is_spelled Strict (codes "M02*G90*") commands h in
    let end : IsItem (codes "M02*") = word_is_item (codes "M02") refl refl in
    let refused : ReadsIn Strict (codes "M02*G90*") (Err (fault 2 4 AfterEnd)) = record {
      items = ((0, 77) ∷ (1, 48) ∷ (2, 50) ∷ (3, 42) ∷ []) ∷ [];
      rest = (4, 71) ∷ (5, 57) ∷ (6, 48) ∷ (7, 42) ∷ [];
      splits = record { whole = refl; each = (end, λ _. refl, tt); partial = λ none. absurd cc };
      answer_is = refl;
    } in
    let same = one_read Strict (codes "M02*G90*") (Ok s.0) (Err (fault 2 4 AfterEnd)) (spells_reads Strict (codes "M02*G90*") s.0 s.2) refused in
    cc
