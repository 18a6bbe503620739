-- The factor by which the fewest holes would be bare.
use Rattle.report.proofs.Common.{◌≡◌, ◌↔◌, ℕ, ◌*◌, ◌<◌, ◌≤◌, Bool, true, false, inl, inr, List, [], ◌∷◌, ◌++◌, length, get_or, sym, ap, ◌∙◌, arith, cases_lt, get_or_append_left, length-append, get_or-append_seam, WidePad, Drilled, UnitFactor, Fewest, IsFirstFewest, IsUnitMistake, bare_count, bare_count_with, factors, round_count, IsFewest}
use Rattle.report.specs.declared.UnitMistake.{UnitMistake}

module _ (count : UnitFactor → ℕ) where
  -- one factor alone
  pub only_one : (fewest : Fewest) (one : UnitFactor) → fewest.factor ≡ one → fewest.bare ≡ count one → IsFewest count (one ∷ []) fewest
  only_one fewest one same bare = record {
    bare = bare ∙ ap count (sym same);
    first = record {
      place = 0;
      inside = omega arith;
      at = λ d. sym same;
      before = λ d k less. absurd (omega (arith, less));
      fewest = λ d k less. (
          let first : k ≡ 0 = omega (arith, less) in
          let here : count (get_or (one ∷ []) k d) ≡ count fewest.factor = ap (λ (n : ℕ). count (get_or (one ∷ []) n d)) first ∙ ap count (sym same) in
          omega (arith, here));
    };
  }

  module _ (tried : List UnitFactor) (old next : Fewest) (was : IsFewest count tried old) where
    abbrev pub all : List UnitFactor
    all = tried ++ next.factor ∷ []

    early : (d : UnitFactor) (k : ℕ) → k < length tried → get_or all k d ≡ get_or tried k d
    early d k less = get_or_append_left tried (next.factor ∷ []) d k less

    late : (d : UnitFactor) (k : ℕ) → k < length all → length tried ≤ k → get_or all k d ≡ next.factor
    late d k less more =
        let size = length-append tried (next.factor ∷ []) in
        let last : k ≡ length tried = omega (arith, less, more, size) in
        ap (λ (n : ℕ). get_or all n d) last ∙ get_or-append_seam tried next.factor [] d

    -- the next has fewer
    pub next_taken : next.bare ≡ count next.factor → next.bare < old.bare → IsFewest count all next
    next_taken counted fewer = record {
      bare = counted;
      first = record {
        place = length tried;
        inside = (let size = length-append tried (next.factor ∷ []) in omega (arith, size));
        at = λ d. get_or-append_seam tried next.factor [] d;
        before = λ d k less. (
            let here : count (get_or all k d) ≡ count (get_or tried k d) = ap count (early d k less) in
            omega (arith, here, was.first.fewest d k less, was.bare, counted, fewer));
        fewest = λ d k inside. elim (cases_lt k (length tried)) [
          | inl less ↦ (
              let here : count (get_or all k d) ≡ count (get_or tried k d) = ap count (early d k less) in
              omega (arith, here, was.first.fewest d k less, was.bare, counted, fewer))
          | inr more ↦ (let here : count (get_or all k d) ≡ count next.factor = ap count (late d k inside more) in omega (arith, here))
        ];
      };
    }

    -- or no fewer
    pub old_kept : old.bare ≤ count next.factor → IsFewest count all old
    old_kept no_fewer = record {
      bare = was.bare;
      first = record {
        place = was.first.place;
        inside = (let size = length-append tried (next.factor ∷ []) in omega (arith, size, was.first.inside));
        at = λ d. early d was.first.place was.first.inside ∙ was.first.at d;
        before = λ d k less. (
            let inside : k < length tried = omega (arith, less, was.first.inside) in
            let here : count (get_or all k d) ≡ count (get_or tried k d) = ap count (early d k inside) in
            omega (arith, here, was.first.before d k less));
        fewest = λ d k inside. elim (cases_lt k (length tried)) [
          | inl less ↦ (let here : count (get_or all k d) ≡ count (get_or tried k d) = ap count (early d k less) in omega (arith, here, was.first.fewest d k less))
          | inr more ↦ (let here : count (get_or all k d) ≡ count next.factor = ap count (late d k inside more) in omega (arith, here, was.bare, no_fewer))
        ];
      };
    }

module _ (pads : List WidePad) (holes : List Drilled) (bare : ℕ) (is : bare ≡ bare_count pads holes) where
  -- no line where too few are bare
  pub too_few : 2 * bare ≤ round_count holes → (line : UnitMistake) → IsUnitMistake pads holes line → ⊥
  too_few few line scale = (let most = scale.most in omega (arith, most, scale.bare, is, few))

  -- nor where too many would be
  pub too_many : (fewest : Fewest) → IsFewest (bare_count_with pads holes) factors fewest → bare ≤ 2 * fewest.bare → (line : UnitMistake) → IsUnitMistake pads holes line → ⊥
  too_many fewest is_fewest many line scale = (
      let count = bare_count_with pads holes in
      let few = scale.few in
      let least = is_fewest.first.fewest line.factor scale.first.place scale.first.inside in
      let here : count (get_or factors scale.first.place line.factor) ≡ count line.factor = ap count (scale.first.at line.factor) in
      omega (arith, few, least, here, is_fewest.bare, scale.then, scale.bare, is, many))

-- a file has one line
pub one_scale : (pads : List WidePad) (holes : List Drilled) (a b : UnitMistake) → a.drill ≡ b.drill → IsUnitMistake pads holes a → IsUnitMistake pads holes b → a ≡ b
one_scale pads holes a b at x y =
    let count = bare_count_with pads holes in
    let same : a.factor ≡ b.factor = one_first in
    let bare : a.bare ≡ b.bare = x.bare ∙ sym y.bare in
    let then : a.then ≡ b.then = x.then ∙ (ap count same ∙ sym y.then) in
    λ i. record { drill = at i; bare = bare i; factor = same i; then = then i }
  where
    -- the first with the fewest is not before another one
    not_before : (c d : UnitMistake) (p : IsFirstFewest (bare_count_with pads holes) factors c.factor) (q : IsFirstFewest (bare_count_with pads holes) factors d.factor) → p.place < q.place → ⊥
    not_before c d p q less =
        let count = bare_count_with pads holes in
        let fewer = q.before c.factor p.place less in
        let here : count (get_or factors p.place c.factor) ≡ count c.factor = ap count (p.at c.factor) in
        let fewest = p.fewest d.factor q.place q.inside in
        let there : count (get_or factors q.place d.factor) ≡ count d.factor = ap count (q.at d.factor) in
        omega (arith, fewer, here, fewest, there)

    one_first : a.factor ≡ b.factor
    one_first = elim (cases_lt x.first.place y.first.place) [
      | inl less ↦ absurd (not_before a b x.first y.first less)
      | inr more ↦ elim (cases_lt y.first.place x.first.place) [
        | inl less ↦ absurd (not_before b a y.first x.first less)
        | inr least ↦ (
            let one : x.first.place ≡ y.first.place = omega (arith, more, least) in
            sym (x.first.at a.factor) ∙ (ap (λ (n : ℕ). get_or factors n a.factor) one ∙ y.first.at a.factor))
      ]
    ]
