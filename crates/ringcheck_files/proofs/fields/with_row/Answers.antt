use Rattle.ringcheck_files.proofs.Common.{◌≡◌, ◌++◌, List, ℕ, map, subst, arith, Bor, length-map}
use Rattle.std.specs.Prelude.{IfOk}
use Rattle.ringcheck_files.proofs.Plain.{row_is}
use Rattle.ringcheck_files.proofs.fields.with_row.Goals as goal

pub returns : goal.returns
returns c =
    let size = length-map c.args.fields.now (λ (field : Bor (List ℕ)). field.now) in
    subst (λ (text : List ℕ). IfOk c.with_row.result (λ more. more ≡ c.args.table ++ text)) (row_is (map (λ field. field.now) c.args.fields.now) (omega (arith, c.requires.several, size)) c.requires.plain) c.with_row.ensures
