use Rattle.ringcheck.proofs.Common.{List, ℕ, refl, subst, report_of_board}
use Rattle.drawing.specs.Pages.{IsDrawn, drawing_text}
use Rattle.package_check.proofs.BoardsLemmas.{reported_on}
use Rattle.ringcheck.proofs.checks.draw.Goals as goal

pub returns : goal.returns
returns g c all named read =
    let rules = c.args.rules in
    let board = c.args.board.now in
    let text = drawing_text c.in_ok-drawing.drawing in
    record {
      board = board;
      read = read;
      text = text;
      is = subst (λ (ns : List (List ℕ)). IsDrawn ns board c.args.outline.now rules text) named c.in_ok-drawing.ensures;
      written = c.in_ok-write.ensures.bytes;
      sound = λ required under none. c.passing_is_sound.ensures all required (report_of_board required board) (reported_on all required board (report_of_board required board) read.is.is refl) none;
      passed = refl;
    }
