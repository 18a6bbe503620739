use Rattle.package_check.proofs.Common.{pieced_file_views}
use Rattle.package_check.proofs.package.check_pieces.Goals as goal

pub returns-in-Ok : goal.returns-in-Ok
returns-in-Ok c =
    let views = pieced_file_views c.args.rules.profile c.args.files.now in
    let all = c.finish.ensures in
    record {
      exact = all.exact views c.args.rules c.in-Ok.ensures;
      only = λ answer. all.only views c.args.rules answer c.in-Ok.ensures;
      places = all.places views c.args.rules c.in-Ok.ensures;
      legal = all.legal views c.args.rules c.in-Ok.ensures;
      sound = all.sound views c.args.rules c.in-Ok.ensures;
    }
