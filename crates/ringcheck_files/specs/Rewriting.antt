-- Texts that are rewritten as the canonical text of what they spell.
use Rattle.std.specs.Prelude.{◌≡◌, ◌⊎◌, ℕ, List, Result, Ok, Err}
use Rattle.grid_units.specs.declared.fault.Fault.{Fault}
use Rattle.gerber_text.specs.Writing.{canonical_text, without_places}
use Rattle.layer_image.specs.Layers.{LayerImage, ReadsLayer}
use Rattle.drill_lines.specs.declared.command.DrillCommand.{DrillCommand}
use Rattle.drill_text.specs.Profiles as drills
use Rattle.drill_text.specs.Texts.{IsDrillText}
use Rattle.drill_text.specs.Writing.{rewritten_text}
use Rattle.ringcheck_files.specs.declared.rewrite.Kind.{Kind}
use Rattle.ringcheck_files.specs.declared.rewrite.Kind.TheVariants as kind

-- the bytes read as a layer whose commands have this canonical text; or they have this fault, or that text is too long
abbrev pub RewritesLayer : List ℕ → Result (List ℕ) Fault → Type 0
RewritesLayer bytes (Ok text) = (layer : LayerImage) × ReadsLayer bytes (Ok layer) × (canonical_text (without_places layer.commands) ≡ Ok text)
RewritesLayer bytes (Err fault) = ReadsLayer bytes (Err fault) ⊎ ((layer : LayerImage) × ReadsLayer bytes (Ok layer) × (canonical_text (without_places layer.commands) ≡ Err fault))

-- the bytes are a drill text of commands that have this canonical text; or they have this fault, or that text is too long
abbrev pub RewritesDrill : List ℕ → Result (List ℕ) Fault → Type 0
RewritesDrill bytes (Ok text) = (commands : List DrillCommand) × IsDrillText bytes commands × (rewritten_text commands ≡ Ok text)
RewritesDrill bytes (Err fault) = drills.Reads bytes (Err fault) ⊎ ((commands : List DrillCommand) × IsDrillText bytes commands × (rewritten_text commands ≡ Err fault))

-- the bytes, read as a file of this kind, are rewritten as this text, or there is this fault
abbrev pub Rewrites : Kind → List ℕ → Result (List ℕ) Fault → Type 0
Rewrites kind.Layer bytes answer = RewritesLayer bytes answer
Rewrites kind.Drill bytes answer = RewritesDrill bytes answer

-- two texts of this kind spell the same commands, at whatever places
abbrev pub HaveSameCommands : Kind → List ℕ → List ℕ → Type 0
HaveSameCommands kind.Layer s t = (a b : LayerImage) × ReadsLayer s (Ok a) × ReadsLayer t (Ok b) × (without_places a.commands ≡ without_places b.commands)
HaveSameCommands kind.Drill s t = (commands : List DrillCommand) × IsDrillText s commands × IsDrillText t commands

-- a rewritten text spells the commands of the text that it was rewritten from
abbrev pub KeepsCommands : Type 0
KeepsCommands = (kind : Kind) (bytes text : List ℕ) → Rewrites kind bytes (Ok text) → HaveSameCommands kind bytes text

-- a rewritten text is rewritten as itself
abbrev pub RewritingIsIdempotent : Type 0
RewritingIsIdempotent = (kind : Kind) (bytes text : List ℕ) → Rewrites kind bytes (Ok text) → Rewrites kind text (Ok text)

-- bytes are rewritten in one way, or have one fault
abbrev pub RewritingIsUnique : Type 0
RewritingIsUnique = (kind : Kind) (bytes : List ℕ) (a b : Result (List ℕ) Fault) → Rewrites kind bytes a → Rewrites kind bytes b → a ≡ b
