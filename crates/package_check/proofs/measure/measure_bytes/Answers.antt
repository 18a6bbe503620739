use Rattle.package_check.proofs.Common.{file_views_in}
use Rattle.package_check.proofs.MeasuredLemmas.{measured, refused_alike}
use Rattle.package_check.proofs.measure.measure_bytes.Goals as goal

pub returns-clause-same : goal.returns-clause-same
returns-clause-same c = refused_alike c.args.profile (file_views_in c.args.profile c.args.files.now) c.unique_answer.ensures c.measure_files.result c.measure_files.ensures

pub returns-clause-passes : goal.returns-clause-passes
returns-clause-passes c = measured c.args.profile (file_views_in c.args.profile c.args.files.now) c.measured_passes.ensures c.measure_files.result c.measure_files.ensures
