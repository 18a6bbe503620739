-- The names and the numbers of the reasons (docs/FORMATS.md, the table of reasons).
use Rattle.std.specs.Prelude.{ℕ, List, codes}
use Rattle.grid_units.specs.declared.fault.Reason.{Reason}
use Rattle.grid_units.specs.declared.fault.Reason.TheVariants.{TooLong, AfterEnd, Truncated, SeveralInOne, ClearPolarity, BlockAperture, NegativeImage, TrailingZeros, Incremental, OldParameter, OldFormat, Routed, Repeat, BadWord, BadLine, BadNumber, NoZeros, TooManyDigits, TooFine, TooFar, BareCoordinate, InRegion, NotInRegion, NoFormat, NoUnit, UnitConflict, FormatConflict, Redefined, UnknownMacro, UnknownAperture, UnknownTool, NoAperture, NoTool, BadSize, BadRepeat, TooManyPads, TooManyHoles, BadRule, BadManifest, BadRole, EmptyName, RepeatedName, NoCopper, NoDrill, NotCopper, BadSpan, NoPlating, PlatingConflict}

-- the name of a reason as it is printed, `TooLong` in `refused place=0 byte=0 reason=TooLong`
unfoldable pub reason_name : Reason → List ℕ
reason_name TooLong = codes "TooLong"
reason_name AfterEnd = codes "AfterEnd"
reason_name Truncated = codes "Truncated"
reason_name SeveralInOne = codes "SeveralInOne"
reason_name ClearPolarity = codes "ClearPolarity"
reason_name BlockAperture = codes "BlockAperture"
reason_name NegativeImage = codes "NegativeImage"
reason_name TrailingZeros = codes "TrailingZeros"
reason_name Incremental = codes "Incremental"
reason_name OldParameter = codes "OldParameter"
reason_name OldFormat = codes "OldFormat"
reason_name Routed = codes "Routed"
reason_name Repeat = codes "Repeat"
reason_name BadWord = codes "BadWord"
reason_name BadLine = codes "BadLine"
reason_name BadNumber = codes "BadNumber"
reason_name NoZeros = codes "NoZeros"
reason_name TooManyDigits = codes "TooManyDigits"
reason_name TooFine = codes "TooFine"
reason_name TooFar = codes "TooFar"
reason_name BareCoordinate = codes "BareCoordinate"
reason_name InRegion = codes "InRegion"
reason_name NotInRegion = codes "NotInRegion"
reason_name NoFormat = codes "NoFormat"
reason_name NoUnit = codes "NoUnit"
reason_name UnitConflict = codes "UnitConflict"
reason_name FormatConflict = codes "FormatConflict"
reason_name Redefined = codes "Redefined"
reason_name UnknownMacro = codes "UnknownMacro"
reason_name UnknownAperture = codes "UnknownAperture"
reason_name UnknownTool = codes "UnknownTool"
reason_name NoAperture = codes "NoAperture"
reason_name NoTool = codes "NoTool"
reason_name BadSize = codes "BadSize"
reason_name BadRepeat = codes "BadRepeat"
reason_name TooManyPads = codes "TooManyPads"
reason_name TooManyHoles = codes "TooManyHoles"
reason_name BadRule = codes "BadRule"
reason_name BadManifest = codes "BadManifest"
reason_name BadRole = codes "BadRole"
reason_name EmptyName = codes "EmptyName"
reason_name RepeatedName = codes "RepeatedName"
reason_name NoCopper = codes "NoCopper"
reason_name NoDrill = codes "NoDrill"
reason_name NotCopper = codes "NotCopper"
reason_name BadSpan = codes "BadSpan"
reason_name NoPlating = codes "NoPlating"
reason_name PlatingConflict = codes "PlatingConflict"

-- the number of a reason, from 1 to 48
abbrev pub reason_number : Reason → ℕ
reason_number TooLong = 1
reason_number AfterEnd = 2
reason_number Truncated = 3
reason_number SeveralInOne = 4
reason_number ClearPolarity = 5
reason_number BlockAperture = 6
reason_number NegativeImage = 7
reason_number TrailingZeros = 8
reason_number Incremental = 9
reason_number OldParameter = 10
reason_number OldFormat = 11
reason_number Routed = 12
reason_number Repeat = 13
reason_number BadWord = 14
reason_number BadLine = 15
reason_number BadNumber = 16
reason_number NoZeros = 17
reason_number TooManyDigits = 18
reason_number TooFine = 19
reason_number TooFar = 20
reason_number BareCoordinate = 21
reason_number InRegion = 22
reason_number NotInRegion = 23
reason_number NoFormat = 24
reason_number NoUnit = 25
reason_number UnitConflict = 26
reason_number FormatConflict = 27
reason_number Redefined = 28
reason_number UnknownMacro = 29
reason_number UnknownAperture = 30
reason_number UnknownTool = 31
reason_number NoAperture = 32
reason_number NoTool = 33
reason_number BadSize = 34
reason_number BadRepeat = 35
reason_number TooManyPads = 36
reason_number TooManyHoles = 37
reason_number BadRule = 38
reason_number BadManifest = 39
reason_number BadRole = 40
reason_number EmptyName = 41
reason_number RepeatedName = 42
reason_number NoCopper = 43
reason_number NoDrill = 44
reason_number NotCopper = 45
reason_number BadSpan = 46
reason_number NoPlating = 47
reason_number PlatingConflict = 48
