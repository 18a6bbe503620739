-- The names of a manifest differ where those of the files do, and may stand in it where those may.
use Rattle.manifest.proofs.Common.{◌≡◌, ◌∙◌, ◌<◌, ◌≤◌, ◌||◌, ◌==◌, ℕ, Bool, true, false, not, List, ◌∷◌, ◌++◌, length, arith, refl, sym, ap, subst, nat_lt, if◌then◌else◌, list_any, count_by, bytes_eq, is_utf8, false≢true, lt-ltb, bytes_eq-Decides, base_name, is_control, is_plain_text, Proposal, is_ambiguous, label, count_named, is_valid_name, and_true, both_true}
use Rattle.manifest.proofs.PlainNameLemmas.{base_name_is_text, base_name_keeps, base_name_of_base_name}
use Rattle.manifest.proofs.CountLemmas.{count_two, found, or_second}

-- the file has this name
abbrev pub has_name : List ℕ → Proposal → Bool
has_name name p = bytes_eq p.file name

-- each name stands at most once
abbrev pub IsOnce : List Proposal → Type 0
IsOnce entries = (name : List ℕ) → count_by (has_name name) entries ≤ 1

same : (a b : List ℕ) → bytes_eq a b ≡ true → a ≡ b
same a b e = (bytes_eq-Decides a b).0 e

equal : (a b : List ℕ) → a ≡ b → bytes_eq a b ≡ true
equal a b e = (bytes_eq-Decides a b).1 e

module _ (entries before : List Proposal) (p : Proposal) (after : List Proposal) (split : entries ≡ before ++ p ∷ after) (distinct : IsOnce entries) where
  two : (t : Proposal → Bool) → list_any t before ≡ true → t p ≡ true → 1 < count_by t entries
  two t h k = subst (λ (es : List Proposal). 1 < count_by t es) (sym split) (count_two t before p after h k)

  -- what two files have after the last slash is ambiguous
  twice : (name : List ℕ) → list_any (λ q. bytes_eq (base_name q.file) name) before ≡ true → bytes_eq (base_name p.file) name ≡ true → is_ambiguous entries name ≡ true
  twice name h k = or_second (length name == 0) (nat_lt 1 (count_named entries name)) (lt-ltb 1 (count_named entries name) (two (λ q. bytes_eq (base_name q.file) name) h k))

  clash : (q : Proposal) → ((t : Proposal → Bool) → t q ≡ true → list_any t before ≡ true) → (a b : Bool) → is_ambiguous entries (base_name q.file) ≡ a → is_ambiguous entries (base_name p.file) ≡ b
      → (if a then q.file else base_name q.file) ≡ (if b then p.file else base_name p.file) → ⊥
  clash q meets true true ea eb e =
      let many : 1 < count_by (has_name p.file) entries = two (has_name p.file) (meets (has_name p.file) (equal q.file p.file e)) (equal p.file p.file refl) in
      let length_bound = distinct p.file in
      omega (arith, length_bound, many)
  clash q meets false false ea eb e =
      let t = λ (r : Proposal). bytes_eq (base_name r.file) (base_name p.file) in
      false≢true (sym eb ∙ twice (base_name p.file) (meets t (equal (base_name q.file) (base_name p.file) e)) (equal (base_name p.file) (base_name p.file) refl))
  clash q meets true false ea eb e =
      let t = λ (r : Proposal). bytes_eq (base_name r.file) (base_name p.file) in
      let is : base_name q.file ≡ base_name p.file = ap base_name e ∙ base_name_of_base_name p.file in
      false≢true (sym eb ∙ twice (base_name p.file) (meets t (equal (base_name q.file) (base_name p.file) is)) (equal (base_name p.file) (base_name p.file) refl))
  clash q meets false true ea eb e =
      let t = λ (r : Proposal). bytes_eq (base_name r.file) (base_name q.file) in
      let is : base_name p.file ≡ base_name q.file = ap base_name (sym e) ∙ base_name_of_base_name q.file in
      false≢true (sym ea ∙ twice (base_name q.file) (meets t (equal (base_name q.file) (base_name q.file) refl)) (equal (base_name p.file) (base_name q.file) is))

  -- no file before has the name
  pub not_repeated : list_any (λ q. bytes_eq (label entries q) (label entries p)) before ≡ false
  not_repeated = by (list_any (λ q. bytes_eq (label entries q) (label entries p)) before) refl
    where
      by : (b : Bool) → list_any (λ q. bytes_eq (label entries q) (label entries p)) before ≡ b → b ≡ false
      by false e = refl
      by true e =
          let r = found (λ (q : Proposal). bytes_eq (label entries q) (label entries p)) before e in
          absurd (clash r.0 r.2 (is_ambiguous entries (base_name r.0.file)) (is_ambiguous entries (base_name p.file)) refl refl (same (label entries r.0) (label entries p) r.1))

-- ---- names that may stand

not_both : (a b : Bool) → (a || b) ≡ false → a ≡ false
not_both true b e = absurd (false≢true (sym e))
not_both false b e = refl

none : (b : Bool) → not b ≡ true → b ≡ false
none true e = absurd (false≢true e)
none false e = refl

plain_short : (name : List ℕ) → is_plain_text name ≡ true → is_plain_text (base_name name) ≡ true
plain_short name h =
    let k = both_true (is_utf8 name) (not (list_any is_control name)) h in
    and_true (is_utf8 (base_name name)) (not (list_any is_control (base_name name))) (base_name_is_text name k.0)
    (ap not (base_name_keeps is_control name (none (list_any is_control name) k.1)))

-- the name of a file that may stand may stand too
pub label_stands : (entries : List Proposal) (p : Proposal) → is_valid_name p.file ≡ true → is_valid_name (label entries p) ≡ true
label_stands entries p h = by (is_ambiguous entries (base_name p.file)) refl
  where
    by : (b : Bool) → is_ambiguous entries (base_name p.file) ≡ b → is_valid_name (if b then p.file else base_name p.file) ≡ true
    by true e = h
    by false e =
        let k = both_true (is_plain_text p.file) (not (length p.file == 0)) h in
        and_true (is_plain_text (base_name p.file)) (not (length (base_name p.file) == 0)) (plain_short p.file k.0)
        (ap not (not_both (length (base_name p.file) == 0) (nat_lt 1 (count_named entries (base_name p.file))) e))
