-- The file of an outline while it is loaded.
use Rattle.std.specs.Prelude.{◌≡◌, [], ℕ, List, Option, Some, None, Result, Ok, Err}
use Rattle.std.specs.Global.{Vec}
use Rattle.std.specs.Io.KnownBytes.{Appends}
use Rattle.pad_shapes.specs.declared.drawn.Drawn.{Drawn}
use Rattle.ringcheck_files.specs.LoaderRelation.{Relation}
use Rattle.ringcheck_files.specs.declared.Status.{Status}
use Rattle.ringcheck_files.specs.declared.Status.TheVariants as status
use Rattle.ringcheck.specs.declared.outlines.NoOutline.{NoOutline}
use Rattle.ringcheck.specs.declared.outlines.NoOutline.TheVariants as none
use Rattle.ringcheck.specs.Outlining.{HasOutline, RefusedOutline, outline_line}

-- what came of the file of an outline, if one is named: what it draws, or why there is none
abbrev pub OfOutline : Relation → Option (List ℕ) → Type 0 → Result (Vec Drawn) NoOutline → Type 0
OfOutline has None Risen (Ok outline) = outline.items ≡ []
OfOutline has None Risen (Err why) = ⊥
OfOutline has (Some file) Risen (Ok outline) = HasOutline has file outline.items
OfOutline has (Some file) Risen (Err (none.Refused why)) = RefusedOutline has file why
OfOutline has (Some file) Risen (Err none.Unread) = Risen

-- what a status says where it was printed why there is no outline
abbrev pub AfterNoOutline : NoOutline → Option (List ℕ) → Option (List ℕ) → Status → Type 0
AfterNoOutline (none.Refused why) before after s = (s ≡ status.Refused) × Appends before after (outline_line why)
AfterNoOutline none.Unread before after s = s ≡ status.Device
