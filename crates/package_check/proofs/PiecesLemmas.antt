-- Texts that come in pieces.
use Rattle.package_check.proofs.Common.{◌≡◌, ℕ, ◌+◌, ◌<◌, List, [], ◌∷◌, ◌++◌, length, map, take, drop, get_or, sym, ap, subst, ◌∙◌, Bor, concat, append-nil, map-append, take-append-drop, take_more, Fault, Fail, IfFault, Profile, ShowsLayerFaultIn, concat-append}
use Rattle.grid_units.specs.declared.fault.Fail.TheVariants as fails

-- ---- joining

pub joined_one : (xs : List ℕ) → concat (xs ∷ []) ≡ xs
joined_one xs = append-nil xs

-- a reference to no bytes, as the check writes what a look-up past the end would give
abbrev pub no_piece : Bor (List ℕ)
no_piece = record { ref_ptr = (0, 0); now = [] }

-- the joined pieces
abbrev pub joined : List (Bor (List ℕ)) → List ℕ
joined pieces = concat (map (λ piece. piece.now) pieces)

-- those so far and one more
pub joined_more : (xs : List (Bor (List ℕ))) (i : ℕ) (d : Bor (List ℕ)) → i < length xs → joined (take i xs) ++ (get_or xs i d).now ≡ joined (take (i + 1) xs)
joined_more xs i d lt =
    let x = get_or xs i d in
    ap (λ (t : List ℕ). joined (take i xs) ++ t) (sym (joined_one x.now))
    ∙ (sym (concat-append (map (λ (p : Bor (List ℕ)). p.now) (take i xs)) (x.now ∷ []))
    ∙ (ap concat (sym (map-append (λ (p : Bor (List ℕ)). p.now) (take i xs) (x ∷ []))) ∙ ap joined (sym (take_more xs i d lt))))

-- those so far, one more, and those after it
pub joined_all : (xs : List (Bor (List ℕ))) (i : ℕ) (d : Bor (List ℕ)) → i < length xs → (joined (take i xs) ++ (get_or xs i d).now) ++ joined (drop (i + 1) xs) ≡ joined xs
joined_all xs i d lt =
    ap (λ (t : List ℕ). t ++ joined (drop (i + 1) xs)) (joined_more xs i d lt)
    ∙ (sym (concat-append (map (λ (p : Bor (List ℕ)). p.now) (take (i + 1) xs)) (map (λ (p : Bor (List ℕ)). p.now) (drop (i + 1) xs)))
    ∙ (ap concat (sym (map-append (λ (p : Bor (List ℕ)). p.now) (take (i + 1) xs) (drop (i + 1) xs))) ∙ ap joined (take-append-drop (i + 1) xs)))

-- ---- a text goes on

-- the fault that the text so far shows is shown by the whole piece
pub fault_stays_in_longer : (profile : Profile) → ((text more : List ℕ) (f : Fault) → ShowsLayerFaultIn profile text f → ShowsLayerFaultIn profile (text ++ more) f) → (text more whole : List ℕ) (e : Fail) → text ++ more ≡ whole → IfFault (ShowsLayerFaultIn profile text) e → IfFault (ShowsLayerFaultIn profile whole) e
fault_stays_in_longer profile law text more whole fails.Memory is h = tt
fault_stays_in_longer profile law text more whole (fails.Refused f) is h = subst (λ (t : List ℕ). ShowsLayerFaultIn profile t f) is (law text more f h)
