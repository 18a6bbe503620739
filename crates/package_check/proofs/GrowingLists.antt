-- Lists that grow by one file or one hole at a time.
use Rattle.package_check.proofs.Common.{◌≡◌, ◌<◌, ◌+◌, ◌++◌, ℕ, List, [], Result, length, take, get_or, refl, sym, ap, ◌∙◌, Bool, true, false, flat_map, enumerate_from, append-nil, Fault, flat_listed_more, Role, Said, Content, FileSum, index_in, Setting, Reads, ReadsUnlessBadSpan, is_bad_span, unnamed_file}
use Rattle.board.specs.declared.FileSum.TheVariants as sum

-- what one more element gives
pub flat_map_indexed_more : {X Y : Type 0} (f : ℕ × X → List Y) (out ys : List Y) (xs : List X) (i : ℕ) (x : X) → i < length xs → x ≡ get_or xs i x → f (i, x) ≡ ys
    → out ≡ flat_map f (take i (enumerate_from 0 xs)) → out ++ ys ≡ flat_map f (take (i + 1) (enumerate_from 0 xs))
flat_map_indexed_more f out ys xs i x lt is value was =
    ap (λ zs. out ++ zs) (sym value ∙ ap (λ z. f (i, z)) is) ∙ flat_listed_more f out xs i x lt was

-- and one that gives nothing
pub flat_map_indexed_none : {X Y : Type 0} (f : ℕ × X → List Y) (out : List Y) (xs : List X) (i : ℕ) (x : X) → i < length xs → x ≡ get_or xs i x → f (i, x) ≡ []
    → out ≡ flat_map f (take i (enumerate_from 0 xs)) → out ≡ flat_map f (take (i + 1) (enumerate_from 0 xs))
flat_map_indexed_none f out xs i x lt is value was = sym (append-nil out) ∙ flat_map_indexed_more f out [] xs i x lt is value was

-- the content or the fault of a file does not depend on its name
pub any_name : (q : Role) (name : List ℕ) (said : Said) (bytes : List ℕ) (n : Setting) (answer : Result Content Fault) → Reads (unnamed_file q said n bytes) answer
    → Reads (record { role = q; name = name; said = said; bytes = bytes; setting = n }) answer
any_name q name said bytes n answer h = by (is_bad_span q said.span n.layers) h
  where
    by : (t : Bool) → ReadsUnlessBadSpan t (unnamed_file q said n bytes) answer → ReadsUnlessBadSpan t (record { role = q; name = name; said = said; bytes = bytes; setting = n }) answer
    by true k = k
    by false k = k

-- a file that is no layer has no place among the layers, by its counts
pub no_index : (i : ℕ) (file : FileSum) → ((pads other contours : ℕ) → file ≡ sum.Layer pads other contours → ⊥) → index_in (i, file) ≡ []
no_index i (sum.Layer pads other contours) h = absurd (h pads other contours refl)
no_index i file h = refl
