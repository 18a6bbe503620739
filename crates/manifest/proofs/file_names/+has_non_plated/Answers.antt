use Rattle.manifest.proofs.NamesLemmas.{short_none}
use Rattle.manifest.proofs.file_names.+has_non_plated.Goals as goal

pub returns-in_default : goal.returns-in_default
returns-in_default t c = short_none c.args.words.now c.in_default.len_below
