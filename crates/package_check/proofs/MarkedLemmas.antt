-- Holes that are marked as plated or not, one by one.
use Rattle.package_check.proofs.Common.{◌≡◌, ◌<◌, ◌≤◌, ◌+◌, ◌⊎◌, ◌++◌, ℕ, zero, suc, Bool, List, [], ◌∷◌, length, take, get_or, arith, refl, ap, sym, inl, inr, ◌∙◌, Contains, GridHole, LayerSpan, Drilled, holes_with_platings}
use Rattle.std.specs.Prelude.{Option}

-- one more hole
marked_next : (span : Option LayerSpan) (holes : List GridHole) (plated : List Bool) (i : ℕ) (hole : GridHole) (one : Bool) → i < length holes → i < length plated → hole ≡ get_or holes i hole → one ≡ get_or plated i one
    → holes_with_platings span (take i holes) (take i plated) ++ record { hole = hole; plated = one; span = span } ∷ [] ≡ holes_with_platings span (take (suc i) holes) (take (suc i) plated)
marked_next span (h ∷ hs) (p ∷ ps) zero hole one lt le is was = λ j. record { hole = is j; plated = was j; span = span } ∷ []
marked_next span (h ∷ hs) (p ∷ ps) (suc i) hole one lt le is was = ap (λ (ds : List Drilled). record { hole = h; plated = p; span = span } ∷ ds) (marked_next span hs ps i hole one (omega arith) (omega arith) is was)
marked_next span holes plated i hole one lt le is was = absurd (omega arith)

pub marked_more : (span : Option LayerSpan) (holes : List GridHole) (plated : List Bool) (i : ℕ) (hole : GridHole) (one : Bool) → i < length holes → i < length plated → hole ≡ get_or holes i hole → one ≡ get_or plated i one
    → holes_with_platings span (take i holes) (take i plated) ++ record { hole = hole; plated = one; span = span } ∷ [] ≡ holes_with_platings span (take (i + 1) holes) (take (i + 1) plated)
marked_more span holes plated i hole one lt le is was = marked_next span holes plated i hole one lt le is was ∙ ap (λ (n : ℕ). holes_with_platings span (take n holes) (take n plated)) (let on : suc i ≡ i + 1 = omega arith in on)

-- all holes, once one of the lists has come to its end
pub marked_all : (span : Option LayerSpan) (holes : List GridHole) (plated : List Bool) (i : ℕ) → (length holes ≤ i) ⊎ (length plated ≤ i) → holes_with_platings span (take i holes) (take i plated) ≡ holes_with_platings span holes plated
marked_all span (h ∷ hs) (p ∷ ps) zero (inl k) = absurd (omega arith)
marked_all span (h ∷ hs) (p ∷ ps) zero (inr k) = absurd (omega arith)
marked_all span (h ∷ hs) (p ∷ ps) (suc i) (inl k) = ap (λ (ds : List Drilled). record { hole = h; plated = p; span = span } ∷ ds) (marked_all span hs ps i (inl (omega (arith, k))))
marked_all span (h ∷ hs) (p ∷ ps) (suc i) (inr k) = ap (λ (ds : List Drilled). record { hole = h; plated = p; span = span } ∷ ds) (marked_all span hs ps i (inr (omega (arith, k))))
marked_all span [] plated zero h = refl
marked_all span (h ∷ hs) [] zero k = refl
marked_all span holes plated i h = refl

-- each of them has the span
pub marked_span : (span : Option LayerSpan) (holes : List GridHole) (plated : List Bool) (d : Drilled) → Contains (holes_with_platings span holes plated) d → d.span ≡ span
marked_span span holes plated d h = by holes plated h.0 h.1 h.2
  where
    by : (hs : List GridHole) (ps : List Bool) (k : ℕ) → k < length (holes_with_platings span hs ps) → get_or (holes_with_platings span hs ps) k d ≡ d → d.span ≡ span
    by (h ∷ hs) (p ∷ ps) zero lt e = sym (ap (λ (x : Drilled). x.span) e)
    by (h ∷ hs) (p ∷ ps) (suc k) lt e = by hs ps k (omega arith) e
    by hs ps k lt e = absurd (omega arith)
