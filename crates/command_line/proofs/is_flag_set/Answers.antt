use Rattle.command_line.proofs.Common.{◌∙◌, found_of}
use Rattle.clap.proofs.WalkLemmas.{one_text-rows}
use Rattle.command_line.proofs.is_flag_set.Goals as goal

pub returns : goal.returns
returns c =
    let same = one_text-rows (found_of c.args.values.now) c.args.id.now in
    record { yes = λ e. c.get_flag.ensures.value (same ∙ e); no = λ e. c.get_flag.ensures.other (same ∙ e); none = λ e. c.get_flag.ensures.none (same ∙ e) }
