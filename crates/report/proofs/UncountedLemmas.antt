-- Whether a hole lies in a pad of a list, by whether it is bare.
use Rattle.report.proofs.Common.{◌≡◌, ◌↔◌, ◌∙◌, ℕ, ap, not, Bool, true, false, List, get_or, refl, sym, arith, false≢true, get_or_default, GridHole, wide_pad_covers, covers_both_ends, WidePad, hole_at, Drilled, AreBare, IsBare, wide_pad_covers_less, MarksBare, lies_in_pad}
use Rattle.std.proofs.lemmas.List.Folds.{list_any_at, list_any_none}
use Rattle.grid_units.proofs.BoolLemmas.{and_true, both_true}
use Rattle.report.proofs.BareLemmas.{refused}

module _ (pads : List WidePad) (h : GridHole) where
  -- a pad covers both ends with a reach
  abbrev spans : ℕ → WidePad → Bool
  spans reach pad = covers_both_ends wide_pad_covers pad h.from h.to reach

  -- what covers both ends covers them with a reach of 0
  shallow : (pad : WidePad) (reach : ℕ) → spans reach pad ≡ true → spans 0 pad ≡ true
  shallow pad reach e =
      let t = both_true (wide_pad_covers pad h.from reach) (wide_pad_covers pad h.to reach) e in
      and_true (wide_pad_covers pad h.from 0) (wide_pad_covers pad h.to 0) (wide_pad_covers_less pad h.from 0 reach (omega arith) t.0) (wide_pad_covers_less pad h.to 0 reach (omega arith) t.1)

  -- a hole that lies in no pad of a list is bare
  outside : lies_in_pad pads h ≡ false → IsBare wide_pad_covers pads h
  outside e pad k reach inside =
      refused (spans reach (get_or pads k pad)) (λ t. false≢true (sym e ∙ list_any_at (spans 0) pads k pad inside (shallow (get_or pads k pad) reach t)))

  unmarked : (bare : Bool) → (bare ≡ true) ↔ IsBare wide_pad_covers pads h → not bare ≡ lies_in_pad pads h
  unmarked true is = sym (list_any_none (spans 0) pads (λ k pad inside. is.0 refl pad k 0 inside))
  unmarked false is = by (lies_in_pad pads h) refl
    where
      by : (lies : Bool) → lies_in_pad pads h ≡ lies → true ≡ lies
      by true e = refl
      by false e = absurd (false≢true (is.1 (outside e)))

-- a list that says of each hole whether it is bare marks it
pub marks : (pads : List WidePad) (holes : List Drilled) (bare : List Bool) → AreBare wide_pad_covers pads holes bare → MarksBare pads holes bare
marks pads holes bare all place inside =
    let size = all.size in
    ap not (get_or_default bare place true false (omega (arith, inside, size))) ∙ unmarked pads (hole_at holes place) (get_or bare place false) (all.each place inside)
