-- The records of a text that was written row by row.
use Rattle.manifest.proofs.Common.{◌≡◌, ◌<◌, ◌≤◌, ◌+◌, ℕ, zero, suc, List, [], ◌∷◌, None, length, map, arith, refl, ap, flat_map, length-append, default_config, records, records_from, default_writer, read_back, row_text}
use Rattle.csv.specs.Machine.{next_record}
use Rattle.csv.specs.declared.parser.State.TheVariants as st
use Rattle.csv.proofs.RoundTrip.{read-write}

-- the text of rows
abbrev pub texts : List (List (List ℕ)) → List ℕ
texts rows = flat_map (row_text default_writer) rows

no_text : next_record default_config st.StartRecord [] [] [] ≡ None
unfolding next_record
no_text = refl

read_from : (n : ℕ) (rows : List (List (List ℕ))) → length rows < n → records_from default_config n st.StartRecord (texts rows) ≡ map read_back rows
unfolding records_from
read_from zero rows lt = absurd (omega arith)
read_from (suc n) [] lt = rw no_text refl
read_from (suc n) (row ∷ rows) lt = rw (read-write row (texts rows)) (ap (λ (t : List (List (List ℕ))). read_back row ∷ t) (read_from n rows (omega arith)))

some_bytes : (row : List (List ℕ)) → 0 < length (row_text default_writer row)
some_bytes row = simp length-append (omega arith)

length_bound : (rows : List (List (List ℕ))) → length rows ≤ length (texts rows)
length_bound [] = omega arith
length_bound (row ∷ rows) = omega (arith, length-append (row_text default_writer row) (texts rows), some_bytes row, length_bound rows)

-- the rows read back
pub read_all : (rows : List (List (List ℕ))) → records default_config (texts rows) ≡ map read_back rows
read_all rows = read_from (length (texts rows) + 1) rows (omega (arith, length_bound rows))
