use Rattle.package_check.proofs.Common.{file_views_in}
use Rattle.package_check.proofs.package.check_bytes.Goals as goal

pub returns-in-Ok : goal.returns-in-Ok
returns-in-Ok c =
    let views = file_views_in c.args.rules.profile c.args.files.now in
    let all = c.finish.ensures in
    record {
      exact = all.exact views c.args.rules c.in-Ok.ensures;
      only = λ answer. all.only views c.args.rules answer c.in-Ok.ensures;
      places = all.places views c.args.rules c.in-Ok.ensures;
      legal = all.legal views c.args.rules c.in-Ok.ensures;
      sound = all.sound views c.args.rules c.in-Ok.ensures;
    }
