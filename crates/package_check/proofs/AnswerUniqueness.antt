-- A package has one answer.
use Rattle.package_check.proofs.Common.{◌≡◌, ◌<◌, ℕ, zero, suc, List, [], ◌∷◌, Result, Ok, Err, length, take, get_or, arith, refl, ap, sym, subst, ◌∙◌, inl, inr, cases_lt, Fault, Content, FileView, Reads, HaveContents, IsFirstRefused, report_on, ReadingIsUnique, AnswerIsUnique, take_all}
use Rattle.package_check.proofs.ContentIsReading.{reading_of}

abbrev content_of : Content → Result Content Fault → Content
content_of d (Ok c) = c
content_of d (Err f) = d

abbrev fault_of : Fault → Result Content Fault → Fault
fault_of d (Ok c) = d
fault_of d (Err f) = f

module _ (one : ReadingIsUnique) where
  pub same_contents : (sources : List FileView) (cs ds : List Content) → HaveContents sources cs → HaveContents sources ds → cs ≡ ds
  same_contents [] [] [] h k = refl
  same_contents [] [] ds h k = absurd k
  same_contents (s ∷ ss) (c ∷ cs) [] h k = absurd k
  same_contents (s ∷ ss) (c ∷ cs) (d ∷ ds) h k =
      let first : c ≡ d = ap (content_of c) (one s (Ok c) (Ok d) (reading_of s c h.0) (reading_of s d k.0)) in
      let rest : cs ≡ ds = same_contents ss cs ds h.1 k.1 in
      ap (λ (x : Content). x ∷ cs) first ∙ ap (λ (xs : List Content). d ∷ xs) rest
  same_contents sources cs ds h k = absurd h

  -- a file before the refused one is read
  read_at : (sources : List FileView) (cs : List Content) (n i : ℕ) (d : FileView) → HaveContents (take n sources) cs → i < n → i < length sources → (c : Content) × Reads (get_or sources i d) (Ok c)
  read_at [] cs n i d h before inside = absurd (omega arith)
  read_at (s ∷ ss) cs zero i d h before inside = absurd (omega arith)
  read_at (s ∷ ss) [] (suc n) i d h before inside = absurd h
  read_at (s ∷ ss) (c ∷ cs) (suc n) zero d h before inside = (c, reading_of s c h.0)
  read_at (s ∷ ss) (c ∷ cs) (suc n) (suc i) d h before inside = read_at ss cs n i d h.1 (omega arith) (omega arith)

  read_in : (sources : List FileView) (cs : List Content) (i : ℕ) (d : FileView) → HaveContents sources cs → i < length sources → (c : Content) × Reads (get_or sources i d) (Ok c)
  read_in sources cs i d h inside = read_at sources cs (length sources) i d (subst (λ (ss : List FileView). HaveContents ss cs) (sym (take_all (length sources) sources (omega arith))) h) inside inside

  some_source : (sources : List FileView) (i : ℕ) → i < length sources → FileView
  some_source [] i inside = absurd (omega arith)
  some_source (s ∷ ss) i inside = s

  not_both : (s : FileView) (c : Content) (f : Fault) → Reads s (Ok c) → Reads s (Err f) → ⊥
  not_both s c f h k = let e : Ok c ≡ Err f = one s (Ok c) (Err f) h k in cc

  not_before : (sources : List FileView) (i j : ℕ) (f g : Fault) → IsFirstRefused sources i f → IsFirstRefused sources j g → i < j → ⊥
  not_before sources i j f g h k before =
      let d = some_source sources i h.inside in
      let read = read_at sources k.contents j i d k.read before h.inside in
      not_both (get_or sources i d) read.0 f read.1 (h.refused d)

  same_refusal : (sources : List FileView) (i j : ℕ) (f g : Fault) → IsFirstRefused sources i f → IsFirstRefused sources j g → i ≡ j → f ≡ g
  same_refusal sources i j f g h k e =
      let d = some_source sources i h.inside in
      let there : Reads (get_or sources i d) (Err g) = subst (λ (n : ℕ). Reads (get_or sources n d) (Err g)) (sym e) (k.refused d) in
      ap (fault_of f) (one (get_or sources i d) (Err f) (Err g) (h.refused d) there)

pub unique_answer : ReadingIsUnique → AnswerIsUnique
unique_answer one sources rules (Ok a) (Ok b) h k = ap Ok (h.is ∙ (ap (report_on rules) (same_contents one sources h.contents k.contents h.read k.read) ∙ sym k.is))
unique_answer one sources rules (Ok a) (Err r) h k =
    let d = some_source one sources r.0 k.inside in
    let read = read_in one sources h.contents r.0 d h.read k.inside in
    absurd (not_both one (get_or sources r.0 d) read.0 r.1 read.1 (k.refused d))
unique_answer one sources rules (Err r) (Ok b) h k =
    let d = some_source one sources r.0 h.inside in
    let read = read_in one sources k.contents r.0 d k.read h.inside in
    absurd (not_both one (get_or sources r.0 d) read.0 r.1 read.1 (h.refused d))
unique_answer one sources rules (Err r) (Err q) h k =
    let same : r.0 ≡ q.0 = elim (cases_lt r.0 q.0) [
      | inl less ↦ absurd (not_before one sources r.0 q.0 r.1 q.1 h k less)
      | inr more ↦ elim (cases_lt q.0 r.0) [
        | inl less ↦ absurd (not_before one sources q.0 r.0 q.1 r.1 k h less)
        | inr least ↦ omega (arith, more, least)
      ]
    ] in
    ap (λ i. Err (i, r.1)) same ∙ ap (λ f. Err (q.0, f)) (same_refusal one sources r.0 q.0 r.1 q.1 h k same)
