use Rattle.ringcheck_files.proofs.Common.{rules, arith, ◌≡◌, ◌∙◌, ◌++◌, ◌∷◌, ℕ, List, length, pos, ap, subst, millimetres, places, below_one}
use Rattle.std.specs.Prelude.{MatchOption}
use Rattle.std.proofs.lemmas.Str.Pattern.{strip_prefix_char}
use Rattle.grid_units.proofs.TrailingZeros.{length-places}
use Rattle.ringcheck_files.proofs.SideLemmas.{behind_zero}
use Rattle.ringcheck_files.proofs.sides.push_decimals.Goals as goal

pub push_str-requires : goal.push_str-requires
push_str-requires c =
    let spelled : c.write_mm-spelled.result.bytes ≡ millimetres (pos c.args.below) = search rules in
    let split = subst (λ r. MatchOption r ((rest : List ℕ) → c.as_str.result.now ≡ 48 ∷ rest → ⊥) (λ x. c.as_str.result.now ≡ 48 ∷ x.now)) c.in-Some.is (strip_prefix_char 48 c.as_str.result.now c.strip_prefix.result c.strip_prefix.ensures.cases (omega arith)) in
    let few = ap length (behind_zero c.args.below c.requires.below _ _ (c.as_str.ensures.value ∙ spelled) split) in
    (omega arith, omega (arith, few, length-places 9 c.args.below))

pub returns-in-Some : goal.returns-in-Some
returns-in-Some c =
    let spelled : c.write_mm-spelled.result.bytes ≡ millimetres (pos c.args.below) = search rules in
    let split = subst (λ r. MatchOption r ((rest : List ℕ) → c.as_str.result.now ≡ 48 ∷ rest → ⊥) (λ x. c.as_str.result.now ≡ 48 ∷ x.now)) c.in-Some.is (strip_prefix_char 48 c.as_str.result.now c.strip_prefix.result c.strip_prefix.ensures.cases (omega arith)) in
    c.push_str.ensures.bytes ∙ ap (λ (t : List ℕ). c.args.text.now.bytes ++ t) (behind_zero c.args.below c.requires.below _ _ (c.as_str.ensures.value ∙ spelled) split)

pub returns-in_default : goal.returns-in_default
returns-in_default c =
    let spelled : c.write_mm-spelled.result.bytes ≡ millimetres (pos c.args.below) = search rules in
    let split = subst (λ r. MatchOption r ((rest : List ℕ) → c.as_str.result.now ≡ 48 ∷ rest → ⊥) (λ x. c.as_str.result.now ≡ 48 ∷ x.now)) c.in_default.is (strip_prefix_char 48 c.as_str.result.now c.strip_prefix.result c.strip_prefix.ensures.cases (omega arith)) in
    absurd (split (46 ∷ places 9 c.args.below) (c.as_str.ensures.value ∙ spelled ∙ below_one c.args.below c.requires.below))
