use Rattle.print_json.proofs.Common.{◌++◌, ℕ, List, ap₂, map, has_written_of_eq, escape_byte, value_text, report_value}
use Rattle.grid_units.specs.declared.profile.Profile.{Profile}
use Rattle.print_json.specs.Inner.Texts.{about_rest}
use Rattle.print_json.specs.Packages.{opening_in}
use Rattle.print_json.specs.Values.{object_of}
use Rattle.print_json.proofs.found.ReportJsonValue.write.Goals as goal

pub returns : goal.returns
unfolding report_value escape_byte
returns g c = λ plain ok.
    let json = c.args.self.now in
    let names : List (List ℕ) = map (λ name. name.now) json.names.now in
    has_written_of_eq _ _ _ _ _
    (ap₂ (λ (profile : Profile) (result : List ℕ). value_text (object_of (opening_in profile result ++ about_rest profile json.about.now names json.files.now json.report.now json.accepted.now)))
    c.profile-profile.ensures c.report_result-result.ensures)
    (c.write.ensures.writes plain ok)
