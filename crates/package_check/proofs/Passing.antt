-- A package that passes is sound by what is read of it.
use Rattle.package_check.proofs.Common.{◌≡◌, ◌<◌, ◌+◌, ◌++◌, ℕ, Bool, true, List, [], ◌∷◌, length, get_or, map, ap, refl, sym, ◌∙◌, subst, Contains, flat_map, enumerate_from, map-append, flat_map-cons, GridHole, Profile, Strict, Wide, IsInWidePad, wide_pad_covers, WidePad, HolesHoldWithoutFindings, StraightWithoutFindings, ApartWithoutFindings, AreAllApart, IsHoleHeld, LayerSpan, is_in_span, ring_findings, gap_findings, Drilled, Numbered, Content, holes_of_all, holes_of, layers, LiesAsAllowed, PassingIsSoundAsRead, IsPlatedThrough, drilled_in, append_nil_left, append_nil_right, flat_map_at}
use Rattle.std.specs.Prelude.{Option}
use Rattle.package_check.specs.declared.contents.Content.TheVariants as content

-- what an element gives is among what all give
flat_among : {X Y : Type 0} (f : X → List Y) (xs : List X) (x : X) (y : Y) → Contains xs x → Contains (f x) y → Contains (flat_map f xs) y
flat_among f xs x y h g = flat_map_at f xs x y h.0 h.1 h.2 g

-- numbers aside, the holes are those of the files
unnumbered : (file : ℕ) (plated : Bool) (span : Option LayerSpan) (n : ℕ) (holes : List GridHole)
    → map (λ (h : Numbered). h.drilled) (map (λ (hole : ℕ × GridHole). let one : Numbered = record { file = file; number = hole.0; drilled = record { hole = hole.1; plated = plated; span = span } } in one) (enumerate_from n holes))
    ≡ map (λ (hole : GridHole). let one : Drilled = record { hole = hole; plated = plated; span = span } in one) holes
unnumbered file plated span n [] = refl
unnumbered file plated span n (h ∷ hs) = ap (λ (t : List Drilled). record { hole = h; plated = plated; span = span } ∷ t) (unnumbered file plated span (n + 1) hs)

unnumbered_mixed : (file n : ℕ) (holes : List Drilled)
    → map (λ (h : Numbered). h.drilled) (map (λ (hole : ℕ × Drilled). let one : Numbered = record { file = file; number = hole.0; drilled = hole.1 } in one) (enumerate_from n holes)) ≡ holes
unnumbered_mixed file n [] = refl
unnumbered_mixed file n (h ∷ hs) = ap (λ (t : List Drilled). h ∷ t) (unnumbered_mixed file (n + 1) hs)

one_file : (file : ℕ) (one : Content) → map (λ (h : Numbered). h.drilled) (holes_of (file, one)) ≡ drilled_in one
one_file file (content.Layer image) = refl
one_file file (content.Drill plated span drill) = unnumbered file plated span 1 drill.holes
one_file file (content.Mixed span holes) = unnumbered_mixed file 1 holes

drilled_from : (n : ℕ) (contents : List Content) → map (λ (h : Numbered). h.drilled) (flat_map holes_of (enumerate_from n contents)) ≡ flat_map drilled_in contents
drilled_from n [] = refl
drilled_from n (c ∷ cs) =
    ap (map (λ (h : Numbered). h.drilled)) (flat_map-cons holes_of (n, c) (enumerate_from (n + 1) cs))
    ∙ (map-append (λ (h : Numbered). h.drilled) (holes_of (n, c)) (flat_map holes_of (enumerate_from (n + 1) cs))
    ∙ (ap (λ (t : List Drilled). t ++ map (λ (h : Numbered). h.drilled) (flat_map holes_of (enumerate_from (n + 1) cs))) (one_file n c)
    ∙ (ap (λ (t : List Drilled). drilled_in c ++ t) (drilled_from (n + 1) cs) ∙ sym (flat_map-cons drilled_in c cs))))

pub all_drilled : (contents : List Content) → holes_of_all contents ≡ flat_map drilled_in contents
all_drilled contents = drilled_from 0 contents

-- a plated hole of a file is among all holes
among_all : (contents : List Content) (layer : ℕ) (hole : GridHole) → (h : IsPlatedThrough contents layer hole) → Contains (holes_of_all contents) h.drilled
among_all contents layer hole h = subst (λ (ds : List Drilled). Contains ds h.drilled) (sym (all_drilled contents)) (flat_among drilled_in contents h.content h.drilled h.file h.among)

-- where no ring is a finding, each plated hole lies as the profile allows
allowed : StraightWithoutFindings wide_pad_covers → (profile : Profile) (ring : ℕ) (layers : List (List WidePad)) (holes : List Drilled) → ring_findings wide_pad_covers profile ring layers holes ≡ []
    → (l : ℕ) (d : Drilled) → l < length layers → Contains holes d → d.plated ≡ true → is_in_span l d.span ≡ true → LiesAsAllowed profile d.hole
allowed straight Strict ring layers holes none l d inside among plated through = straight ring layers holes none l d inside among plated through
allowed straight Wide ring layers holes none l d inside among plated through = tt

pub passing_is_sound : HolesHoldWithoutFindings IsInWidePad wide_pad_covers → StraightWithoutFindings wide_pad_covers → ApartWithoutFindings → PassingIsSoundAsRead
passing_is_sound held straight apart sources rules report is passes =
    let none = sym (ap (λ r. r.findings) is.is) ∙ passes in
    let rings = ring_findings wide_pad_covers rules.profile rules.ring (layers is.contents) (holes_of_all is.contents) in
    let gaps = gap_findings rules.gap (holes_of_all is.contents) in
    record {
      contents = is.contents;
      read = is.read;
      held = λ layer hole inside h.
          let one = h.drilled in
          let all = among_all is.contents layer hole h in
          let clean = append_nil_left rings gaps none in
          subst (λ (g : GridHole). LiesAsAllowed rules.profile g × IsHoleHeld IsInWidePad rules.ring (get_or (layers is.contents) layer []) g) h.same
          (allowed straight rules.profile rules.ring (layers is.contents) (holes_of_all is.contents) clean layer one inside all h.plated h.through, held rules.profile rules.ring (layers is.contents) (holes_of_all is.contents) clean layer one inside all h.plated h.through);
      gaps = subst (λ (ds : List Drilled). AreAllApart rules.gap ds) (all_drilled is.contents) (apart rules.gap (holes_of_all is.contents) (append_nil_right rings gaps none));
    }
