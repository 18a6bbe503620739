use Rattle.print_json.proofs.Common.{document-print, input_error_value}
use Rattle.print_json.proofs.Depths.{stop_within}
use Rattle.print_json.proofs.refused.InputError.reads_back.Goals as goal

pub returns : goal.returns
returns c = document-print (input_error_value c.args.self.now) c.numbers.ensures (stop_within c.args.self.now)
