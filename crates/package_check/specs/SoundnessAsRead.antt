-- When a package is sound by what the check reads of its files: the rows of the formats, their rules, and what is kept of each file.
use Rattle.std.specs.Prelude.{◌≡◌, ◌<◌, ℕ, List, [], true, map, length, get_or}
use Rattle.std.specs.List.{Contains, flat_map}
use Rattle.grid_units.specs.Holes.{GridHole, GridRules}
use Rattle.pad_shapes.specs.WidePads.{IsInWidePad}
use Rattle.ring_rules.specs.WithoutFindings.{IsHoleHeld, AreAllApart}
use Rattle.grid_units.specs.Spans.{is_in_span}
use Rattle.ring_rules.specs.declared.finding.Drilled.{Drilled}
use Rattle.package_check.specs.Reports.{ReportView}
use Rattle.package_check.specs.declared.contents.Content.{Content}
use Rattle.package_check.specs.declared.contents.Content.TheVariants as content
use Rattle.package_check.specs.Package.{FileView, HaveContents, IsReport, layers}
use Rattle.package_check.specs.Soundness.{IsSound, LiesAsAllowed}

-- each file is legal by the rules of its format: it is read as some content
abbrev pub AreLegal : List FileView → Type 0
AreLegal sources = (contents : List Content) × HaveContents sources contents

-- the holes of a file with their plating and its span; a copper file has none
abbrev pub drilled_in : Content → List Drilled
drilled_in (content.Layer image) = []
drilled_in (content.Drill plated span drill) = map (λ hole. record { hole = hole; plated = plated; span = span }) drill.holes
drilled_in (content.Mixed span holes) = holes

-- a plated hole of some drill file that goes through this layer, by its place among the copper files, from 0
pub record IsPlatedThrough (contents : List Content) (layer : ℕ) (hole : GridHole) : Type 0 where
  pub content : Content
  pub file : Contains contents content
  pub drilled : Drilled
  pub among : Contains (drilled_in content) drilled
  pub same : drilled.hole ≡ hole
  pub plated : drilled.plated ≡ true
  pub through : is_in_span layer drilled.span ≡ true

-- Every file is read. On each copper layer of its span, each plated hole, round or a slot, lies as the profile allows, and lies in one pad with its ring; no points of
-- two holes, of whatever files, are nearer than the gap.
pub record IsSoundAsRead (sources : List FileView) (rules : GridRules) : Type 0 where
  pub contents : List Content
  pub read : HaveContents sources contents
  pub held : (layer : ℕ) (hole : GridHole) → layer < length (layers contents) → IsPlatedThrough contents layer hole
      → LiesAsAllowed rules.profile hole × IsHoleHeld IsInWidePad rules.ring (get_or (layers contents) layer []) hole
  pub gaps : AreAllApart rules.gap (flat_map drilled_in contents)

-- a package whose report has no finding is sound by what is read of it
abbrev pub PassingIsSoundAsRead : Type 0
PassingIsSoundAsRead = (sources : List FileView) (rules : GridRules) (report : ReportView) → IsReport sources rules report → report.findings ≡ []
    → IsSoundAsRead sources rules

-- what is sound by what is read of it is sound by what is written
abbrev pub SoundAsReadIsSound : Type 0
SoundAsReadIsSound = (sources : List FileView) (rules : GridRules) → IsSoundAsRead sources rules → IsSound sources rules
