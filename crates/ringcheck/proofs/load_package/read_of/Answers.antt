use Rattle.ringcheck.proofs.Common.{◌∙◌, ap, List, ℕ, slice_get, of_file}
use Rattle.ringcheck.proofs.Outcomes.{source_at}
use Rattle.ringcheck.proofs.load_package.read_of.Goals as goal

pub returns-in-Err-File : goal.returns-in-Err-File
returns-in-Err-File g c =
    let index = c.in-Err-File.index in
    rw (c.in-Err-File.is, rw c.in-Err-File.is at c.in-Err-File.field-0-is)
    (λ all named first.
    let (it, at, is) = source_at all index first.inside in
    let same = c.name_at-name.ensures it.name (ap (λ (ns : List (List ℕ)). slice_get ns index) named ∙ is) in
    record { index = index; fault = c.in-Err-File.fault; first = first; source = it; at = at; is = ap (λ (n : List ℕ). of_file index n c.in-Err-File.fault) same })
