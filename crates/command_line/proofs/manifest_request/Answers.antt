use Rattle.command_line.proofs.Common.{◌∙◌, ap, sym, refl, Some, codes, Bor, List, ℕ, found_of}
use Rattle.std.proofs.Common.{map}
use Rattle.clap.proofs.WalkLemmas.{raw_values-rows}
use Rattle.command_line.proofs.manifest_request.Goals as goal

pub returns : goal.returns
returns c =
    let rows = raw_values-rows (found_of c.args.values.now) (codes "file") in
    let row_of_value = ap (λ (xs : List (Bor (List ℕ))). Some (map (λ (file : Bor (List ℕ)). file.now) xs)) (sym c.in-Ok.ensures.items) in
    (refl, c.is_flag_set-why.ensures, sym c.value-profile.ensures, sym (c.in_ok-row_of_value.ensures ∙ rows) ∙ row_of_value)
