use Rattle.print_text.proofs.Common.{◌∙◌, ℕ, List, ap, ap₂, map, has_written_of_eq, scale_words, size_words}
use Rattle.grid_units.specs.HoleWords.{name_of}
use Rattle.print_text.proofs.lines.UnitMistakeLineFileNames.fmt_on.Goals as goal

pub returns : goal.returns
unfolding scale_words
returns g c = record {
  writes = λ plain ok.
      let line = c.args.self.now in
      let name : List ℕ = name_of (map (λ name. name.now) c.args.page.now.0.now) line.drill in
      has_written_of_eq _ _ _ _ _
      (ap₂ (λ (file size : List ℕ). scale_words file size line.bare c.factor_word-factor.result.now line.then) c.name_of-name.ensures c.size_words-size.ensures
      ∙ ap (λ (factor : List ℕ). scale_words name (size_words line.factor) line.bare factor line.then) c.factor_word-factor.ensures)
      (c.write.ensures.writes plain ok);
}
