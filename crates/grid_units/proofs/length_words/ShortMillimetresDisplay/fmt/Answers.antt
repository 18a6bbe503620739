use Rattle.std.proofs.Common.{◌≡◌, ◌∙◌, ◌++◌, ◌∷◌, ◌/◌, ◌%◌, ◌^◌, ℕ, List, ap, ap₂, refl, rules, unsigned_abs, decimal, w64}
use mir.Val.{to_z, of_z}
use Rattle.std.proofs.lemmas.Int.{to_z-of_z}
use Rattle.std.proofs.Output.{has_written_append, has_written_of_eq}
use Rattle.grid_units.specs.Spellings.{fraction_text, minus, places, without_end_zeros}
use Rattle.grid_units.specs.LengthWords.{short_millimetres}
use Rattle.grid_units.proofs.length_words.ShortMillimetresDisplay.fmt.Goals as goal

pub returns-clause-writes : goal.returns-clause-writes
unfolding short_millimetres
returns-clause-writes g c = λ plain ok.
    let fits : to_z w64 (of_z w64 c.args.self.now.0) ≡ c.args.self.now.0 = search (rules, to_z-of_z) in
    let size : c.unsigned_abs-size.result ≡ unsigned_abs c.args.self.now.0 = c.unsigned_abs-size.ensures.value ∙ ap unsigned_abs fits in
    let first = c.in_ok-write.ensures.writes plain refl in
    has_written_of_eq _ _ _ _ _ (ap₂ (λ (s : List ℕ) (n : ℕ). (s ++ decimal (n / 1000000000)) ++ fraction_text (without_end_zeros (places 9 (n % 1000000000)))) (c.minus.ensures ∙ ap minus fits) size) (has_written_append _ _ _ _ _ _ first (c.write_short_decimals.ensures first.plain ok))
