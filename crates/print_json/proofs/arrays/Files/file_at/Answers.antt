use Rattle.print_json.proofs.Common.{◌+◌, ◌∙◌, ap, get_or, List, ℕ, file_value}
use Rattle.print_json.proofs.Lists.{file_at}
use Rattle.print_json.proofs.arrays.Files.file_at.Goals as goal

pub returns : goal.returns
returns c =
    let files = c.args.self.now.files.now in
    ap (λ (name : List ℕ). file_value c.args.self.now.profile (c.args.place + 1) name (get_or files c.args.place c.index-self-place.result)) c.name_of.ensures
    ∙ file_at _ _ files c.args.place c.index-self-place.result c.requires
