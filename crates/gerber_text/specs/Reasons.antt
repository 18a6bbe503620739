-- The reasons for which a Gerber text is refused while it is read (docs/FORMATS.md, The table of reasons).
use Rattle.grid_units.specs.declared.fault.Reason.{Reason}
use Rattle.grid_units.specs.declared.fault.Reason.TheVariants.{TooLong, AfterEnd, Truncated, SeveralInOne, ClearPolarity, BlockAperture, NegativeImage, TrailingZeros, Incremental, OldParameter, BadWord, BadNumber, TooManyDigits, TooFine, TooFar, BareCoordinate}

-- a reason of reading, sixteen in all; the rules of a layer, as NoUnit, come later
abbrev pub IsReasonOfReading : Reason → Type 0
IsReasonOfReading TooLong = Unit {0}
IsReasonOfReading AfterEnd = Unit {0}
IsReasonOfReading Truncated = Unit {0}
IsReasonOfReading SeveralInOne = Unit {0}
IsReasonOfReading ClearPolarity = Unit {0}
IsReasonOfReading BlockAperture = Unit {0}
IsReasonOfReading NegativeImage = Unit {0}
IsReasonOfReading TrailingZeros = Unit {0}
IsReasonOfReading Incremental = Unit {0}
IsReasonOfReading OldParameter = Unit {0}
IsReasonOfReading BadWord = Unit {0}
IsReasonOfReading BadNumber = Unit {0}
IsReasonOfReading TooManyDigits = Unit {0}
IsReasonOfReading TooFine = Unit {0}
IsReasonOfReading TooFar = Unit {0}
IsReasonOfReading BareCoordinate = Unit {0}
IsReasonOfReading _ = ⊥
