-- What a file of a package that is being read holds of its text so far.
use Rattle.std.specs.Prelude.{◌≡◌, ◌++◌, ℕ, Bool, true, false, List, [], None, Err, ⊤, if◌then◌else◌}
use Rattle.grid_units.specs.declared.fault.Fail.{Fail}
use Rattle.grid_units.specs.declared.fault.Fail.TheVariants as fails
use Rattle.drill_text.specs.Holding.{StandsBy}
use Rattle.drill_text.specs.declared.kept.Keep.TheVariants as drill_keep
use Rattle.grid_units.specs.declared.profile.Profile.{Profile}
use Rattle.layer_image.specs.Holding.{LayerStands}
use Rattle.layer_features.specs.declared.keep.Keep.{Keep}
use Rattle.layer_features.specs.declared.keep.Keep.TheVariants as keeps
use Rattle.layer_image.specs.declared.reader.LayerReader.{LayerReader}
use Rattle.manifest.specs.declared.Role.{Role}
use Rattle.manifest.specs.declared.Role.TheVariants as role
use Rattle.manifest.specs.declared.Said.{Said}
use Rattle.package_check.specs.CheckViews.{CheckView, holes_of}
use Rattle.package_check.specs.FileTexts.{drill_kind, mixed_kind}
use Rattle.package_check.specs.HoleViews.{HolesView}
use Rattle.package_check.specs.Holding.{is_wanted, setting_of}
use Rattle.package_check.specs.Judging.{HasTriedPadsOf}
use Rattle.package_check.specs.Package.{Reads, Setting, is_bad_span, unnamed_file}
use Rattle.package_check.specs.declared.open_copper.CopperReading.{CopperReading}
use Rattle.package_check.specs.declared.open_copper.CopperReading.TheVariants as copper_reading
use Rattle.package_check.specs.declared.open_copper.OpenCopper.{OpenCopper}
use Rattle.package_check.specs.declared.open_file.OpenFile.{OpenFile}
use Rattle.package_check.specs.declared.open_file.Reading.{Reading}
use Rattle.package_check.specs.declared.open_file.Reading.TheVariants as reading
use Rattle.package_check.specs.declared.package_reader.PackageReader.{PackageReader}

-- the role of a drill file whose holes are alike, by whether they are plated
abbrev pub drill_role : Bool → Role
drill_role plated = if plated then role.Plated else role.Unplated

-- a file of this role, of which this is said, has this fault, however its text so far goes on; or memory ran out
abbrev pub HasFailed : Role → Said → Setting → Fail → List ℕ → Type 0
HasFailed of said setting fails.Memory text = ⊤
HasFailed of said setting (fails.Refused fault) text = (more : List ℕ) → Reads (unnamed_file of said setting (text ++ more)) (Err fault)

-- ---- files of a reader

-- what is kept of a copper file of a package, of which no commands are kept: pads alone in place of a whole layer
abbrev pub copper_keep : Keep → Keep
copper_keep keeps.Layer = keeps.Pads
copper_keep keep = keep

-- a reader of a copper file in this profile, of which this is kept, has read this text, which shows no fault
abbrev pub CopperStandsIn : LayerReader → Profile → Keep → List ℕ → Type 0
CopperStandsIn reader profile keep text = LayerStands reader profile (copper_keep keep) [] text

-- Of a file of this role, of which this is said, in a package of so many copper files, this text was read. It shows no fault, and the reader of its kind stands after
-- it; or the file has failed. A file that is passed over has read no text.
abbrev pub HasReadText : Keep → Role → Said → Setting → Reading → List ℕ → Type 0
HasReadText keep of said setting (reading.Layer reader) text = (of ≡ role.Copper) × (is_bad_span of said.span setting.layers ≡ false) × CopperStandsIn reader setting.profile keep text
HasReadText keep of said setting (reading.Drill plated reader) text = (of ≡ drill_role plated) × (is_bad_span of said.span setting.layers ≡ false) × StandsBy reader (drill_kind setting.profile said.format plated) drill_keep.Holes text
HasReadText keep of said setting (reading.Mixed reader) text = (of ≡ role.Mixed) × (is_bad_span of said.span setting.layers ≡ false) × StandsBy reader (mixed_kind setting.profile said.format) drill_keep.Holes text
HasReadText keep of said setting (reading.Failed fail) text = HasFailed of said setting fail text
HasReadText keep of said setting reading.Skipped text = ⊥

-- an open file is that of this index and role of a package, of which this is said; where the reader of the package wants it, it has read this text
pub record HasOpened (reader : PackageReader) (index : ℕ) (of : Role) (said : Said) (file : OpenFile) (text : List ℕ) : Type 0 where
  pub same_index : file.index ≡ index
  pub same_role : file.role ≡ of
  pub same_said : file.said ≡ said
  pub reads : is_wanted reader.stopped index ≡ true → HasReadText reader.keep of said (setting_of reader) file.reading text

-- ---- copper files of a check

-- Of the copper file of which this is said, whose layer has this number, in a package of so many copper files, this text was read and shows no fault; or the file
-- has failed. A file that is passed over has read no text.
abbrev pub HasReadCopper : HolesView → ℕ → Said → ℕ → CopperReading → List ℕ → Type 0
HasReadCopper holes layer said layers (copper_reading.Layer reader) text = (said.span ≡ None) × HasTriedPadsOf holes layer reader text
HasReadCopper holes layer said layers (copper_reading.Failed fail) text = HasFailed role.Copper said (record { layers = layers; profile = holes.rules.profile }) fail text
HasReadCopper holes layer said layers copper_reading.Skipped text = ⊥

-- An open copper file is that of this index, this is said of it, and its layer has this number. The check has taken no file since it was in the state `start`; where it
-- wants the file, this text of it was read.
pub record HasOpenedCopper (start check : CheckView) (index layer : ℕ) (said : Said) (file : OpenCopper) (text : List ℕ) : Type 0 where
  pub same_index : file.index ≡ index
  pub same_layer : file.layer ≡ layer
  pub same_layers : check.layers ≡ start.layers
  pub same_holes : check.holes ≡ start.holes
  pub same_rules : check.rules ≡ start.rules
  pub same_slots : check.slots ≡ start.slots
  pub same_stop : check.stopped ≡ start.stopped
  pub reads : is_wanted check.stopped index ≡ true → HasReadCopper (holes_of check) layer said check.layers file.reading text
