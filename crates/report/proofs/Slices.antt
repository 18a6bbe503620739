-- Parts of lists, and what is known of their elements.
use Rattle.report.proofs.Common.{◌≡◌, ℕ, ◌+◌, ◌-◌, ◌<◌, ◌≤◌, ◌++◌, ◌↔◌, Bool, true, false, Option, None, List, length, take, drop, get_or, sym, subst, ap, ◌∙◌, arith, slice_range, drop-append-le, get_or-drop, get_or-take, length-append, length-drop, length-take-le, take-append-le, take_all, drop-append_seam, GridHole, wide_pad_covers, WidePad, hole_at, default_hole, Drilled, AreBare, AreBestPads, IsBare, IsBestPad, BestPad}

module _ {X : Type 0} (xs : List X) where
  pub slice_size : (a b : ℕ) → b ≤ length xs → length (slice_range xs a b) ≡ b - a
  slice_size a b inside = length-take-le (b - a) (drop a xs) (omega (arith, length-drop a xs, inside))

  pub slice_at : (a b k : ℕ) (d : X) → k < b - a → get_or (slice_range xs a b) k d ≡ get_or xs (a + k) d
  slice_at a b k d less = get_or-take (b - a) (drop a xs) k d less ∙ get_or-drop a xs k d

  module _ (ys : List X) where
    -- a part of the first list
    pub slice_front : (a b : ℕ) → a ≤ b → b ≤ length xs → slice_range (xs ++ ys) a b ≡ slice_range xs a b
    slice_front a b ordered inside =
        ap (take (b - a)) (drop-append-le a xs ys (omega (arith, ordered, inside))) ∙ take-append-le (b - a) (drop a xs) ys (omega (arith, length-drop a xs, ordered, inside))

    -- all of the second list
    pub slice_back : slice_range (xs ++ ys) (length xs) (length (xs ++ ys)) ≡ ys
    slice_back =
        ap (take (length (xs ++ ys) - length xs)) (drop-append_seam xs ys) ∙ take_all (length (xs ++ ys) - length xs) ys (let size = length-append xs ys in omega (arith, size))

module _ (pads : List WidePad) (holes : List Drilled) (a b : ℕ) (inside : b ≤ length holes) where
  same_hole : (k : ℕ) → k < b - a → hole_at (slice_range holes a b) k ≡ hole_at holes (a + k)
  same_hole k less = ap (λ (d : Drilled). d.hole) (slice_at holes a b k default_hole less)

  -- which holes of a part are bare
  pub bare_of_part : (bare : List Bool) → AreBare wide_pad_covers pads holes bare → AreBare wide_pad_covers pads (slice_range holes a b) (slice_range bare a b)
  bare_of_part bare all = (
      let own = slice_size holes a b inside in
      let size = all.size in
      let theirs = slice_size bare a b (omega (arith, size, inside)) in
      record {
        size = theirs ∙ sym own;
        each = λ k less. (
            let low : k < b - a = omega (arith, less, own) in
            let there = all.each (a + k) (omega (arith, low, inside)) in
            subst (λ (h : GridHole). (get_or (slice_range bare a b) k false ≡ true) ↔ IsBare wide_pad_covers pads h) (sym (same_hole k low))
            (subst (λ (t : Bool). (t ≡ true) ↔ IsBare wide_pad_covers pads (hole_at holes (a + k))) (sym (slice_at bare a b k false low)) there));
      })
