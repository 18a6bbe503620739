-- Pieces that are written for these commands.
use Rattle.gerber_commands.proofs.Common.{◌≡◌, inl, inr, true, [], ◌∷◌, ◌++◌, refl, sym, arith, codes, decimal, decimal_digit, Millimetre, UnitIs, FormatIs, Define, Dark, Clear, Mirror, RepeatEnd, Attribute, Circle, Rectangle, Wide, IsPiece, IsPieceIn}
use Rattle.std.proofs.Common.{pos}
use Rattle.grid_units.specs.Numbers.{parse_decimal}
use Rattle.gerber_commands.specs.declared.command.AttributeKind.TheVariants as kinds
use Rattle.gerber_commands.specs.declared.command.Template.TheVariants as templates
use Rattle.gerber_commands.specs.Numbers.{nat_of}

-- four whole digits and six decimals
pub format : IsPiece (codes "FSLAX46Y46") (FormatIs (record { whole = 4; decimals = 6 }) ∷ [])
format =
    let four : decimal 4 ≡ codes "4" = decimal_digit 4 (omega arith) in
    let six : decimal 6 ≡ codes "6" = decimal_digit 6 (omega arith) in
    inr (refl, inr (inl (_, (omega arith, omega arith, omega arith, sym (λ i. codes "FSLAX" ++ four i ++ six i ++ codes "Y" ++ four i ++ six i)), refl)))

pub millimetres : IsPiece (codes "MOMM") (UnitIs Millimetre ∷ [])
millimetres = inr (refl, inl (1, omega arith, refl))

-- a circle of diameter 0.5
pub circle : IsPiece (codes "ADD10C,0.5") (Define 10 (templates.Standard Circle (pos 50000000 ∷ [])) ∷ [])
unfolding nat_of parse_decimal
circle = inr (refl, inr (inl (_, (codes "10", codes "C,0.5", refl, omega arith, (codes "C", 1, 3, codes "0.5" ∷ [], (0, omega arith, refl), refl, omega arith, omega arith, refl), refl), refl)))

-- a rectangle of 1 by 2
pub rectangle : IsPiece (codes "ADD11R,1X2") (Define 11 (templates.Standard Rectangle (pos 100000000 ∷ pos 200000000 ∷ [])) ∷ [])
unfolding nat_of parse_decimal
rectangle = inr (refl, inr (inl (_, (codes "11", codes "R,1X2", refl, omega arith, (codes "R", 2, 4, codes "1" ∷ codes "2" ∷ [], (1, omega arith, refl), refl, omega arith, omega arith, refl), refl), refl)))

pub dark : IsPiece (codes "LPD") (Dark ∷ [])
dark = inr (refl, inl (2, omega arith, refl))

-- in the wide profile alone
pub clear : IsPieceIn Wide (codes "LPC") (Clear ∷ [])
clear = inl (inl (refl, refl))

pub mirrored : IsPiece (codes "LMXY") (Mirror true true ∷ [])
mirrored = inr (refl, inl (7, omega arith, refl))

pub repeat_end : IsPiece (codes "SR") (RepeatEnd ∷ [])
repeat_end = inr (refl, inl (3, omega arith, refl))

-- the attribute of a file
pub part : IsPiece (codes "TF.Part,Single") (Attribute kinds.File (codes ".Part,Single") ∷ [])
part = inr (refl, inr (inl (_, (refl, refl), refl)))
