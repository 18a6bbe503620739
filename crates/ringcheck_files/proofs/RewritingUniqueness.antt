-- A text is rewritten in one way.
use Rattle.ringcheck_files.proofs.Common.{◌≡◌, ◌↔◌, ◌⊎◌, ℕ, List, Result, Ok, Err, refl, sym, ap, ◌∙◌, inl, inr, Fault, Strict, canonical_text, without_places, LayerImage, ReadsLayer, ReadingIsUniqueIn, DrillCommand, IsDrillText, RewritesLayer, RewritesDrill, RewritingIsUnique, rewritten_text}
use Rattle.drill_text.specs.Profiles as drills
use Rattle.ringcheck_files.specs.declared.rewrite.Kind.TheVariants as kind

module _ {X : Type 0} (says : Result X Fault → Type 0) (text : X → Result (List ℕ) Fault) (once : (a b : Result X Fault) → says a → says b → a ≡ b) where
  abbrev Seen : Result (List ℕ) Fault → Type 0
  Seen a = ((x : X) × says (Ok x) × (text x ≡ a)) ⊎ ((f : Fault) × says (Err f) × (a ≡ Err f))

  same_ok : (x y : X) → says (Ok x) → says (Ok y) → x ≡ y
  same_ok x y h k = let e : (let r : Result X Fault = Ok x in let s : Result X Fault = Ok y in r ≡ s) = once (Ok x) (Ok y) h k in cc

  same_err : (f g : Fault) → says (Err f) → says (Err g) → f ≡ g
  same_err f g h k = let e : (let r : Result X Fault = Err f in let s : Result X Fault = Err g in r ≡ s) = once (Err f) (Err g) h k in cc

  not_both : (x : X) (f : Fault) → says (Ok x) → says (Err f) → ⊥
  not_both x f h k = let e : (let r : Result X Fault = Ok x in let s : Result X Fault = Err f in r ≡ s) = once (Ok x) (Err f) h k in cc

  one_seen : (a b : Result (List ℕ) Fault) → Seen a → Seen b → a ≡ b
  one_seen a b (inl h) (inl k) = sym h.2 ∙ (ap text (same_ok h.0 k.0 h.1 k.1) ∙ k.2)
  one_seen a b (inl h) (inr k) = absurd (not_both h.0 k.0 h.1 k.1)
  one_seen a b (inr h) (inl k) = absurd (not_both k.0 h.0 k.1 h.1)
  one_seen a b (inr h) (inr k) = h.2 ∙ (ap (λ (f : Fault). let r : Result (List ℕ) Fault = Err f in r) (same_err h.0 k.0 h.1 k.1) ∙ sym k.2)

module _ (layer_once : ReadingIsUniqueIn)
    (drill_once : (text : List ℕ) (a b : Result (List DrillCommand) Fault) → drills.Reads text a → drills.Reads text b → a ≡ b)
    (texts : (text : List ℕ) (commands : List DrillCommand) → (drills.Reads text (Ok commands)) ↔ (IsDrillText text commands)) where
  layer_seen : (bytes : List ℕ) (a : Result (List ℕ) Fault) → RewritesLayer bytes a → Seen (ReadsLayer bytes) (λ (l : LayerImage). canonical_text (without_places l.commands)) (layer_once Strict bytes) a
  layer_seen bytes (Ok t) h = inl h
  layer_seen bytes (Err f) (inl h) = inr (f, h, refl)
  layer_seen bytes (Err f) (inr h) = inl h

  drill_seen : (bytes : List ℕ) (a : Result (List ℕ) Fault) → RewritesDrill bytes a → Seen (drills.Reads bytes) rewritten_text (drill_once bytes) a
  drill_seen bytes (Ok t) h = inl (h.0, (texts bytes h.0).1 h.1, h.2)
  drill_seen bytes (Err f) (inl h) = inr (f, h, refl)
  drill_seen bytes (Err f) (inr h) = inl (h.0, (texts bytes h.0).1 h.1, h.2)

  pub unique_rewriting : RewritingIsUnique
  unique_rewriting kind.Layer bytes a b h k = one_seen (ReadsLayer bytes) (λ (l : LayerImage). canonical_text (without_places l.commands)) (layer_once Strict bytes) a b (layer_seen bytes a h) (layer_seen bytes b k)
  unique_rewriting kind.Drill bytes a b h k = one_seen (drills.Reads bytes) rewritten_text (drill_once bytes) a b (drill_seen bytes a h) (drill_seen bytes b k)
