use Rattle.package_check.proofs.Common.{file_views_in}
use Rattle.package_check.proofs.package.read_package.Goals as goal

pub returns-in-Ok-clause-exact : goal.returns-in-Ok-clause-exact
returns-in-Ok-clause-exact c = c.board.ensures.exact c.args.keep (file_views_in c.args.profile c.args.files.now) c.in-Ok.ensures

pub returns-in-Ok-clause-flashes : goal.returns-in-Ok-clause-flashes
returns-in-Ok-clause-flashes c = c.board.ensures.flashes c.args.keep (file_views_in c.args.profile c.args.files.now) c.in-Ok.ensures

pub returns-in-Ok-clause-drawn : goal.returns-in-Ok-clause-drawn
returns-in-Ok-clause-drawn c = c.board.ensures.drawn c.args.keep (file_views_in c.args.profile c.args.files.now) c.in-Ok.ensures
