use Rattle.ringcheck_files.proofs.HandingOn.{read_whole}
use Rattle.ringcheck_files.proofs.reader_bytes.read_all.Goals as goal

pub returns-clause-exact : goal.returns-clause-exact
returns-clause-exact g c = read_whole (g.R.Read.remaining c.args.reader.now) c.args.limit c.new-bytes.result c.read_into.new.sink c.in_ok-read_into.field-0 c.new-bytes.ensures.items c.in_ok-read_into.ensures.exact
