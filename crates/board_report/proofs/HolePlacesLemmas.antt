-- The drill files of holes.
use Rattle.board_report.proofs.Common.{◌≡◌, ℕ, ◌+◌, ◌-◌, ◌<◌, ◌≤◌, min, inl, inr, List, length, get_or, ap, ◌∙◌, arith, cases_lt, Drilled, CountsAddUp, hole_count, FileSum, IsPlace, holes_before}
use Rattle.std.proofs.lemmas.List.Sums.{sum_by-take-le, sum_by_more}
use Rattle.board.specs.NearestHoles.{IsPair}

-- the holes before the next file
pub before_next : (files : List FileSum) (file : ℕ) (one : FileSum) → file < length files → get_or files file one ≡ one → holes_before files (file + 1) ≡ holes_before files file + hole_count one
before_next files file one inside is = sum_by_more hole_count files file one inside ∙ ap (λ (f : FileSum). holes_before files file + hole_count f) is

-- the end of a file's holes, by how many of the rest it has
pub end_is : (files : List FileSum) (holes : List Drilled) (file start count : ℕ) (one : FileSum) → CountsAddUp files holes → file < length files → get_or files file one ≡ one → start ≡ holes_before files file
    → count ≡ min (hole_count one) (length holes - start) → (start + count ≡ holes_before files (file + 1)) × (start + count ≤ length holes)
end_is files holes file start count one told inside is starts counted =
    let next = before_next files file one inside is in
    let most = sum_by-take-le hole_count files (file + 1) in
    (omega (arith, told, starts, counted, next, most), omega (arith, told, starts, counted, next, most))

-- the start of a file's holes is in the list
pub start_in : (files : List FileSum) (holes : List Drilled) (file start : ℕ) → CountsAddUp files holes → start ≡ holes_before files file → start ≤ length holes
start_in files holes file start told starts = let most = sum_by-take-le hole_count files file in omega (arith, told, starts, most)

-- a hole between the start and the end of a file's holes has its number there
pub placed : (files : List FileSum) (file hole start end : ℕ) → start ≡ holes_before files file → end ≡ holes_before files (file + 1) → start ≤ hole → hole < end → IsPlace files hole (record { drill = file; number = hole - start + 1 })
placed files file hole start end starts ends low less = record {
  at = omega (arith, starts, low);
  from_one = omega arith;
  inside = omega (arith, ends, less);
}

-- fewer than two holes make no pair
pub no_pair : (holes : List Drilled) → ((i j : ℕ) → IsPair holes i j → ⊥) → length holes < 2
no_pair holes none = elim (cases_lt (length holes) 2) [
  | inl few ↦ few
  | inr two ↦ absurd (none 0 1 (record { ordered = omega arith; inside = omega (arith, two) }))
]
