-- The waivers that a loader has under a name, or why they are refused.
use Rattle.std.specs.Prelude.{ℕ, List}
use Rattle.ringcheck_files.specs.LoaderRelation.{Relation}
use Rattle.ringcheck.specs.CheckStatus.{HasTable, RefusedTable}
use Rattle.ringcheck.specs.Refusals.{Refusal, of_waivers}
use Rattle.waivers.specs.Reading.{waivers}
use Rattle.waivers.specs.declared.Waiver.{Waiver}

-- the loader has under this name a file with just these waivers, no longer than a manifest may be
abbrev pub HasWaivers : Relation → List ℕ → List Waiver → Type 0
HasWaivers has name all = HasTable waivers has name all

-- the loader has under this name a file of waivers that is refused for its length or its records
abbrev pub RefusedWaivers : Relation → List ℕ → Refusal → Type 0
RefusedWaivers has name why = RefusedTable waivers of_waivers has name why
