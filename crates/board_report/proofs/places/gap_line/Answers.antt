use Rattle.board_report.proofs.Common.{Option, rules, subst}
use Rattle.board.specs.NearestHoles.{IsNearestOf, IsPair}
use Rattle.board_report.proofs.HolePlacesLemmas.{no_pair}
use Rattle.board_report.proofs.places.gap_line.Goals as goal

pub returns-in-Some : goal.returns-in-Some
returns-in-Some c = record {
  pair = c.in-Some.pair;
  nearest = subst (IsNearestOf c.args.board.now.holes (IsPair c.args.board.now.holes)) c.in-Some.is c.requires;
  gap = search rules;
  first = search rules;
  second = search rules;
}

pub returns-in-None : goal.returns-in-None
returns-in-None c = no_pair c.args.board.now.holes (subst (IsNearestOf c.args.board.now.holes (IsPair c.args.board.now.holes)) c.in-None.is c.requires)
