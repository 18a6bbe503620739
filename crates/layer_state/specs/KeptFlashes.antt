-- What is kept of the flashes of the strict profile.
use Rattle.std.specs.Prelude.{◌≡◌, ℕ, ◌+◌, Bool, true, false, List, [], ◌++◌, length, if◌then◌else◌}
use Rattle.grid_units.specs.declared.profile.Profile.{Profile}
use Rattle.pad_shapes.specs.declared.pad.Pad.{Pad}
use Rattle.layer_state.specs.declared.flash.Flash.{Flash}
use Rattle.layer_state.specs.declared.flashes.Flashes.{Flashes}
use Rattle.layer_state.specs.declared.flash.FlashKeep.{FlashKeep}
use Rattle.layer_state.specs.declared.flash.FlashKeep.TheVariants as keep
use Rattle.layer_state.specs.Flashes.{pads_of, other_count}

-- each flash is kept, pads among them
abbrev pub keeps_flashes : FlashKeep → Bool
keeps_flashes keep.All = true
keeps_flashes keep.Flashes = true
keeps_flashes keep.Pads = false

-- the pads are kept in a list of their own
abbrev pub keeps_pads : FlashKeep → Bool
keeps_pads keep.All = true
keeps_pads keep.Flashes = false
keeps_pads keep.Pads = true

-- the macros and the shapes of apertures are kept
abbrev pub keeps_shapes : FlashKeep → Bool
keeps_shapes keep.Flashes = true
keeps_shapes _ = false

-- the profile in which a layer is read, the parts of it that are kept, and the pads and the flashes that were taken from them, the first ones of the layer
pub record KeptParts : Type 0 where
  pub profile : Profile
  pub keep : FlashKeep
  pub taken : List Pad
  pub dropped : List Flash

-- these parts, without these pads
abbrev pub without_pads : Profile → FlashKeep → List Pad → KeptParts
without_pads profile keep taken = record { profile = profile; keep = keep; taken = taken; dropped = [] }

-- flashes alone, without these
abbrev pub without_flashes : Profile → List Flash → KeptParts
without_flashes profile dropped = record { profile = profile; keep = keep.Flashes; taken = []; dropped = dropped }

-- how many flashes there were, whatever is kept of them
abbrev pub flash_count : Flashes → ℕ
flash_count kept = kept.count

-- these parts, where the pads that are held were taken too
abbrev pub taking_pads : KeptParts → Flashes → KeptParts
taking_pads parts kept = record { profile = parts.profile; keep = parts.keep; taken = parts.taken ++ kept.pads.items; dropped = parts.dropped }

-- these parts, where the flashes that are held were taken too
abbrev pub taking_flashes : KeptParts → Flashes → KeptParts
taking_flashes parts kept = record { profile = parts.profile; keep = parts.keep; taken = parts.taken; dropped = parts.dropped ++ kept.all.items }

-- just these flashes were made: all are counted, and those that are no pads; flashes and pads are kept where they are asked for,
-- after those that were taken
pub record KeepsFlashes (kept : Flashes) (parts : KeptParts) (flashes : List Flash) : Type 0 where
  pub same : kept.keep ≡ parts.keep
  pub count : kept.count ≡ length flashes
  pub others : kept.others ≡ other_count flashes
  pub pads : parts.taken ++ kept.pads.items ≡ (if keeps_pads parts.keep then pads_of flashes else [])
  pub all : parts.dropped ++ kept.all.items ≡ (if keeps_flashes parts.keep then flashes else [])

-- what is kept after these flashes as well: the counts have grown, and what is kept has these at its end
pub record Adds (old : Flashes) (flashes : List Flash) (new : Flashes) : Type 0 where
  pub same : new.keep ≡ old.keep
  pub count : new.count ≡ old.count + length flashes
  pub others : new.others ≡ old.others + other_count flashes
  pub pads : new.pads.items ≡ old.pads.items ++ (if keeps_pads old.keep then pads_of flashes else [])
  pub all : new.all.items ≡ old.all.items ++ (if keeps_flashes old.keep then flashes else [])
