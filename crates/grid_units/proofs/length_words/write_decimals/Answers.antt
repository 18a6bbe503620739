use Rattle.std.proofs.Common.{rules, arith, ◌≡◌, ◌∙◌, ◌∷◌, ℕ, List, pos, ap, sym, subst, w64}
use Rattle.std.specs.Prelude.{MatchOption}
use Rattle.std.proofs.lemmas.Int.{to_z-of_z}
use Rattle.std.proofs.lemmas.Str.Pattern.{strip_prefix_char}
use Rattle.std.proofs.Output.{has_written_of_eq}
use mir.Val.{to_z, of_z}
use Rattle.grid_units.specs.Spellings.{millimetres, places}
use Rattle.grid_units.proofs.Spelled.{below_one, behind_zero}
use Rattle.grid_units.proofs.length_words.write_decimals.Goals as goal

pub returns-in-Some : goal.returns-in-Some
returns-in-Some g c =
    let fits : to_z w64 (of_z w64 c.from.result) ≡ c.from.result = search (rules, to_z-of_z) in
    let is : c.from.result ≡ pos c.args.below = search rules in
    let spelled = c.as_str.ensures.value ∙ (c.write_mm-spelled.ensures ∙ (ap millimetres (fits ∙ is) ∙ below_one c.args.below c.requires)) in
    let split = subst (λ r. MatchOption r ((rest : List ℕ) → c.as_str.result.now ≡ 48 ∷ rest → ⊥) (λ x. c.as_str.result.now ≡ 48 ∷ x.now)) c.in-Some.is (strip_prefix_char 48 c.as_str.result.now c.strip_prefix.result c.strip_prefix.ensures.cases (omega arith)) in
    λ plain ok. has_written_of_eq _ _ _ _ _ (behind_zero _ _ (sym split ∙ spelled)) (c.write_str.ensures.writes plain ok)

pub returns-in-None : goal.returns-in-None
returns-in-None g c =
    let fits : to_z w64 (of_z w64 c.from.result) ≡ c.from.result = search (rules, to_z-of_z) in
    let is : c.from.result ≡ pos c.args.below = search rules in
    let spelled = c.as_str.ensures.value ∙ (c.write_mm-spelled.ensures ∙ (ap millimetres (fits ∙ is) ∙ below_one c.args.below c.requires)) in
    let split = subst (λ r. MatchOption r ((rest : List ℕ) → c.as_str.result.now ≡ 48 ∷ rest → ⊥) (λ x. c.as_str.result.now ≡ 48 ∷ x.now)) c.in-None.is (strip_prefix_char 48 c.as_str.result.now c.strip_prefix.result c.strip_prefix.ensures.cases (omega arith)) in
    absurd (split (46 ∷ places 9 c.args.below) spelled)
