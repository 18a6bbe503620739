-- What a check keeps of a file, where the rings of a layer are looked for as its file is read, and its pads are dropped.
use Rattle.std.specs.Prelude.{◌≡◌, ℕ, List, [], Option, None, Some, Result, Ok, Err}
use Rattle.grid_units.specs.Holes.{GridRules}
use Rattle.grid_units.specs.declared.fault.Fault.{Fault}
use Rattle.layer_image.specs.Holding.{LayerStands}
use Rattle.layer_features.specs.declared.keep.Keep.TheVariants as keep
use Rattle.layer_image.specs.declared.reader.LayerReader.{LayerReader}
use Rattle.pad_shapes.specs.WidePads.{wide_pad_covers}
use Rattle.pad_shapes.specs.declared.wide_pad.WidePad.{WidePad}
use Rattle.ring_rules.specs.Findings.{layer_findings}
use Rattle.ring_rules.specs.Search.{HasTried}
use Rattle.ring_rules.specs.declared.finding.Drilled.{Drilled}
use Rattle.ring_rules.specs.declared.finding.Finding.{Finding}
use Rattle.ring_rules.specs.declared.layer_search.LayerSearch.{LayerSearch}
use Rattle.ring_rules.specs.declared.ring_index.RingIndex.{RingIndex}
use Rattle.package_check.specs.HoleViews.{HolesView}
use Rattle.package_check.specs.Package.{FileView, Reads, ReadsCopper, sum_of}
use Rattle.package_check.specs.declared.contents.Content.{Content}
use Rattle.package_check.specs.declared.contents.Content.TheVariants as content
use Rattle.package_check.specs.declared.checking.Judged.{Judged}

-- just these pads of a layer were tried at the holes of an index; none where no search has begun
abbrev pub HasTriedIn : List Drilled → RingIndex → ℕ → List WidePad → Option LayerSearch → Type 0
HasTriedIn holes index layer pads None = pads ≡ []
HasTriedIn holes index layer pads (Some search) = HasTried wide_pad_covers holes layer pads index search

-- a reader has read this text of a layer, of whose pads just these were taken from it and tried
pub record HasTriedPadsOf (holes : HolesView) (layer : ℕ) (reader : LayerReader) (text : List ℕ) : Type 0 where
  pub taken : List WidePad
  pub read : LayerStands reader holes.rules.profile keep.Pads taken text
  pub tried : HasTriedIn holes.holes holes.index layer taken holes.search

-- the findings of rings on the layer of a file with this content, by the layer's number from 0; a drill file has none
abbrev pub rings_of : GridRules → List Drilled → ℕ → Content → List Finding
rings_of rules holes layer (content.Layer image) = layer_findings wide_pad_covers rules.profile rules.ring holes layer image.pads
rings_of rules holes layer _ = []

-- what is left of a file with this content: its counts, and the findings of rings on its layer
pub record IsLeftOf (rules : GridRules) (holes : List Drilled) (layer : ℕ) (content : Content) (one : Judged) : Type 0 where
  pub sum : one.sum ≡ sum_of content
  pub rings : one.rings.items ≡ rings_of rules holes layer content

-- the bytes of a copper file have some content, of which this is left; or they have this fault
abbrev pub JudgesCopper : GridRules → List Drilled → ℕ → List ℕ → Result Judged Fault → Type 0
JudgesCopper rules holes layer bytes (Ok one) = (content : Content) × ReadsCopper rules.profile bytes (Ok content) × IsLeftOf rules holes layer content one
JudgesCopper rules holes layer bytes (Err fault) = ReadsCopper rules.profile bytes (Err fault)

-- a file has some content, of which this is left; or it has this fault
abbrev pub Judges : GridRules → List Drilled → ℕ → FileView → Result Judged Fault → Type 0
Judges rules holes layer source (Ok one) = (content : Content) × Reads source (Ok content) × IsLeftOf rules holes layer content one
Judges rules holes layer source (Err fault) = Reads source (Err fault)
