-- A rewritten text has the same commands.
use Rattle.ringcheck_files.proofs.Common.{◌≡◌, ℕ, ◌≤◌, Bool, true, false, cond, ltb, List, length, Ok, Err, refl, sym, ap, subst, ◌∙◌, ltb-false, TooLong, fault, Strict, canonical_text, lines, without_places, IsLayerTextIn, LayerImage, ReadsLayer, image_of, DrillCommand, IsDrillText, SpellsText, KeepsCommands, RewritingIsIdempotent, reads_spells, IsLegal, round_trip}
use Rattle.grid_units.specs.Limits.{text_limit}
use Rattle.gerber_text.proofs.TextIsSayable.{text_sayable}
use Rattle.gerber_text.proofs.RoundTrip.{reads_as}
use Rattle.drill_text.specs.Writing as drills
use Rattle.drill_text.proofs.TextIsSayable as saying
use Rattle.ringcheck_files.specs.declared.rewrite.Kind.TheVariants as kind
use Rattle.ringcheck_files.proofs.Typed.{text_typed}
use Rattle.layer_state.specs.Rules.{broken_rule_in}

-- a rewritten text is the canonical one, and not too long
short_text : (text written : List ℕ) → cond (ltb text_limit (length text)) (Err (fault 0 0 TooLong)) (Ok text) ≡ Ok written → (text ≡ written) × (length text ≤ text_limit)
short_text text written e = by (ltb text_limit (length text)) refl e
  where
    by : (t : Bool) → ltb text_limit (length text) ≡ t → cond t (Err (fault 0 0 TooLong)) (Ok text) ≡ Ok written → (text ≡ written) × (length text ≤ text_limit)
    by true h k = absurd cc
    by false h k = (cc, ltb-false text_limit (length text) h)

-- the layer that the rewritten text is
layer_back : (bytes text : List ℕ) (a : LayerImage) → ReadsLayer bytes (Ok a) → canonical_text (without_places a.commands) ≡ Ok text → (b : LayerImage) × ReadsLayer text (Ok b) × (without_places a.commands ≡ without_places b.commands)
layer_back bytes text a h e =
    let cs = without_places a.commands in
    let short = short_text (lines cs) text e in
    let back = reads_as cs text (sym short.0) (subst (λ (t : List ℕ). length t ≤ text_limit) short.0 short.1) (text_sayable bytes a.commands h.0.spells) in
    let again : IsLayerTextIn Strict text back.entries = record { spells = reads_spells Strict text back.entries back.reads; legal = subst (IsLegal (broken_rule_in Strict)) (sym back.same) h.0.legal } in
    (image_of back.entries, (again, refl), sym back.same)

drill_back : (bytes text : List ℕ) (cs : List DrillCommand) → IsDrillText bytes cs → drills.rewritten_text cs ≡ Ok text → IsDrillText text cs
drill_back bytes text cs h e =
    let short = short_text (drills.canonical_lines cs) text e in
    let back : SpellsText (drills.canonical_lines cs) cs = round_trip cs (saying.text_sayable bytes cs h.spells) (text_typed bytes cs h.spells) short.1 in
    record { spells = subst (λ (t : List ℕ). SpellsText t cs) short.0 back; legal = h.legal }

pub keeps_commands : KeepsCommands
keeps_commands kind.Layer bytes text h = let back = layer_back bytes text h.0 h.1 h.2 in (h.0, back.0, h.1, back.1, back.2)
keeps_commands kind.Drill bytes text h = (h.0, h.1, drill_back bytes text h.0 h.1 h.2)

pub rewriting_is_idempotent : RewritingIsIdempotent
rewriting_is_idempotent kind.Layer bytes text h = let back = layer_back bytes text h.0 h.1 h.2 in (back.0, back.1, ap canonical_text (sym back.2) ∙ h.2)
rewriting_is_idempotent kind.Drill bytes text h = (h.0, drill_back bytes text h.0 h.1 h.2, h.2)
