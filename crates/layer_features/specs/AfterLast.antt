-- Where a list is cut: after the last element that passes a test.
use Rattle.std.specs.Prelude.{◌-◌, Bool, not, List, length, take}
use Rattle.std.specs.List.{suffix_len}

-- the elements up to the last one that passes a test, and that one; none where none passes
abbrev pub up_to_last : {A : Type 0} → (A → Bool) → List A → List A
up_to_last test xs = take (length xs - suffix_len (λ x. not (test x)) xs) xs
