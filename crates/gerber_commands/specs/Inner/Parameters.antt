-- The parameters of an aperture that were read so far.
use Rattle.std.specs.Prelude.{List, [], ◌∷◌, ◌++◌, Result, Ok, ℤ}
use Rattle.grid_units.specs.Results.{◌>>=◌, both}
use Rattle.grid_units.specs.declared.fault.Reason.{Reason}

-- these parameters and one more, or the first reason in the reading order (docs/FORMATS.md, How a row fits and is read)
abbrev pub with_size : Result (List ℤ) Reason → Result ℤ Reason → Result (List ℤ) Reason
with_size sizes size = both sizes size >>= λ p. Ok (p.0 ++ p.1 ∷ [])
