-- Marks that are removed spot by spot.
use Rattle.ring_rules.proofs.Common.{◌≡◌, ◌≢◌, ℕ, ◌+◌, ◌<◌, inl, inr, Bool, true, false, List, length, set, refl, sym, ap, ◌∙◌, arith, ◌&&◌, ◌||◌, not, cases_eq, get_or-set_same, get_or-set_other, length-set, is_marked, RemovesMarks, NoMarkPassesFrom, HasNoMarkFrom, or_is_false, either}

-- both parts of what holds of a mark that stays
pub stays_true : (m t : Bool) → (m && not t) ≡ true → (m ≡ true) × (t ≡ false)
stays_true true true e = absurd cc
stays_true true false e = (refl, refl)
stays_true false t e = absurd cc

stays_false : (m t : Bool) → m ≡ true → (m && not t) ≡ false → t ≡ true
stays_false true true e f = refl
stays_false true false e f = absurd cc
stays_false false t e f = absurd cc

pub removes_none : (test : ℕ → Bool) (a : List Bool) → RemovesMarks test a a
removes_none test a = record { size = refl; kept = λ k e. e; passed = λ k e f. absurd (let g : true ≡ false = sym e ∙ f in cc) }

pub removes_both : (test : ℕ → Bool) (a b c : List Bool) → RemovesMarks test a b → RemovesMarks test b c → RemovesMarks test a c
removes_both test a b c first second = record {
  size = second.size ∙ first.size;
  kept = λ k e. first.kept k (second.kept k e);
  passed = λ k e f. elim (either (is_marked b k)) [
    | inl still ↦ second.passed k still f
    | inr gone ↦ first.passed k e gone
  ];
}

module _ (test : ℕ → Bool) (before marks : List Bool) (p : ℕ) (inside : p < length marks) (keeps_mark : Bool) (same : keeps_mark ≡ (is_marked marks p && not (test p))) where
  at_place : is_marked (set marks p keeps_mark) p ≡ keeps_mark
  at_place = get_or-set_same marks p keeps_mark false inside

  at_other : (k : ℕ) → k ≢ p → is_marked (set marks p keeps_mark) k ≡ is_marked marks k
  at_other k differs = get_or-set_other marks p k keeps_mark false differs

  one_kept : (k : ℕ) → is_marked (set marks p keeps_mark) k ≡ true → is_marked marks k ≡ true
  one_kept k e = elim (cases_eq k p) [
    | inl is ↦ ap (is_marked marks) is ∙ (stays_true (is_marked marks p) (test p) (sym same ∙ (sym at_place ∙ (ap (is_marked (set marks p keeps_mark)) (sym is) ∙ e)))).0
    | inr differs ↦ sym (at_other k differs) ∙ e
  ]

  one_passed : (k : ℕ) → is_marked marks k ≡ true → is_marked (set marks p keeps_mark) k ≡ false → test k ≡ true
  one_passed k e f = elim (cases_eq k p) [
    | inl is ↦ ap test is ∙ stays_false (is_marked marks p) (test p) (ap (is_marked marks) (sym is) ∙ e) (sym same ∙ (sym at_place ∙ (ap (is_marked (set marks p keeps_mark)) (sym is) ∙ f)))
    | inr differs ↦ absurd (let g : true ≡ false = sym e ∙ (sym (at_other k differs) ∙ f) in cc)
  ]

  removes_one : RemovesMarks test marks (set marks p keeps_mark)
  removes_one = record { size = length-set marks p keeps_mark; kept = one_kept; passed = one_passed }

  pub removes_more : RemovesMarks test before marks → RemovesMarks test before (set marks p keeps_mark)
  removes_more removes = removes_both test before marks (set marks p keeps_mark) removes removes_one

  pub tried_more : (start : ℕ) → NoMarkPassesFrom test start p marks → NoMarkPassesFrom test start (p + 1) (set marks p keeps_mark)
  tried_more start tried k from below marked = elim (cases_eq k p) [
    | inl is ↦ ap test is ∙ (stays_true (is_marked marks p) (test p) (sym same ∙ (sym at_place ∙ (ap (is_marked (set marks p keeps_mark)) (sym is) ∙ marked)))).1
    | inr differs ↦ tried k from (omega (arith, below, differs)) (one_kept k marked)
  ]

  pub none_more : (start : ℕ) (is_left : Bool) → (is_left ≡ false → HasNoMarkFrom start p marks) → (is_left || keeps_mark) ≡ false → HasNoMarkFrom start (p + 1) (set marks p keeps_mark)
  none_more start is_left none left k from below = elim (cases_eq k p) [
    | inl is ↦ ap (is_marked (set marks p keeps_mark)) is ∙ (at_place ∙ (or_is_false is_left keeps_mark left).1)
    | inr differs ↦ at_other k differs ∙ none (or_is_false is_left keeps_mark left).0 k from (omega (arith, below, differs))
  ]
