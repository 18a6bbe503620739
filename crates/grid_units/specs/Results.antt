-- Answers and refusals.
use Rattle.std.specs.Prelude.{◌≡◌, ℕ, nat_le, if◌then◌else◌, Result, Ok, Err}
use Rattle.grid_units.specs.declared.fault.Reason.{Reason}
use Rattle.grid_units.specs.declared.fault.Fault.{Fault}
use Rattle.grid_units.specs.declared.fault.Fail.{Fail}
use Rattle.grid_units.specs.declared.fault.Fail.TheVariants as fails
use Rattle.grid_units.specs.declared.item_fail.ItemFail.{ItemFail}
use Rattle.grid_units.specs.declared.item_fail.ItemFail.TheVariants as stops
use Rattle.grid_units.specs.Reasons.{reason_number}

infixl 10 ◌>>=◌
-- the second step on what the first one gives, or the first refusal
abbrev pub ◌>>=◌ : {A B E : Type 0} → Result A E → (A → Result B E) → Result B E
(Ok x) >>= f = f x
(Err e) >>= f = Err e

-- a reason with its place (the number of an item, line or record, or 0 of a whole file) and its byte (an offset from 0)
abbrev pub fault : ℕ → ℕ → Reason → Fault
fault place byte reason = record { place = place; byte = byte; reason = reason }

-- an answer, with its reason put at this place and byte where it is a refusal
abbrev pub with_place : {A : Type 0} → ℕ → ℕ → Result A Reason → Result A Fault
with_place place byte (Ok x) = Ok x
with_place place byte (Err reason) = Err (fault place byte reason)

-- the earlier of two reasons in the reading order: the reasons of reading are numbered in it (docs/FORMATS.md, the table of reasons)
abbrev pub earlier_reason : Reason → Reason → Reason
earlier_reason a b = if nat_le (reason_number a) (reason_number b) then a else b

-- both of two fields, or the first reason of the reading order: every field is read, also after a refusal (docs/FORMATS.md, What an item spells)
abbrev pub both : {A B : Type 0} → Result A Reason → Result B Reason → Result (A × B) Reason
both (Ok x) (Ok y) = Ok (x, y)
both (Ok x) (Err b) = Err b
both (Err a) (Ok y) = Err a
both (Err a) (Err b) = Err (earlier_reason a b)

-- P holds of what a call returned, a value seen by the view or a fault; nothing is claimed of a call that ran out of memory
abbrev pub Answers : {T V : Type 0} → (T → V) → (Result V Fault → Type 0) → Result T Fail → Type 0
Answers view P (Ok x) = P (Ok (view x))
Answers view P (Err fails.Memory) = Unit {0}
Answers view P (Err (fails.Refused f)) = P (Err f)

-- P holds of what a call returned, a value seen by the view or a fault; the call cannot run out of memory
abbrev pub AnswersAlways : {T V : Type 0} → (T → V) → (Result V Fault → Type 0) → Result T Fail → Type 0
AnswersAlways view P (Ok x) = P (Ok (view x))
AnswersAlways view P (Err fails.Memory) = ⊥
AnswersAlways view P (Err (fails.Refused f)) = P (Err f)

-- P holds of the fault of a failure; nothing is claimed where memory ran out
abbrev pub IfFault : (Fault → Type 0) → Fail → Type 0
IfFault P fails.Memory = Unit {0}
IfFault P (fails.Refused f) = P f

-- the answer is the refusal that stopped a call; nothing is claimed where memory ran out
abbrev pub IsRefusedAs : {A : Type 0} → ItemFail → Result A Reason → Type 0
IsRefusedAs stops.Memory answer = Unit {0}
IsRefusedAs (stops.Refused reason) answer = answer ≡ Err reason

-- a call returned just this answer, or ran out of memory
abbrev pub Gives : {A : Type 0} → Result A ItemFail → Result A Reason → Type 0
Gives (Ok x) answer = answer ≡ Ok x
Gives (Err item_fail) answer = IsRefusedAs item_fail answer
