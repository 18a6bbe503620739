use Rattle.board_report.proofs.Common.{List, sym, subst, Drilled, AreFoundMistakes}
use Rattle.report.specs.UnitMistakes.{AreFileRanges, AreUnitMistakes}
use Rattle.report.specs.declared.mistakes.FileRange.{FileRange}
use Rattle.board_report.proofs.UnitMistakeLinesLemmas.{all_found, searched_fit}
use Rattle.board_report.proofs.units.unit_mistakes.Goals as goal

pub unit_mistakes-requires-clause-files : goal.unit_mistakes-requires-clause-files
unit_mistakes-requires-clause-files c =
    let board = c.args.board.now in
    subst (λ (hs : List Drilled). AreFileRanges hs c.deref.result.now) (sym c.holes.ensures)
    (subst (AreFileRanges c.args.board.now.holes) (sym c.deref.ensures.value) (searched_fit board c.in_ok-searched.searched.items c.in_ok-searched.ensures))

pub all_listed-requires : goal.all_listed-requires
all_listed-requires c =
    let board = c.args.board.now in
    let pads = c.args.pads.now in
    let found = c.in_ok-found.found.items in
    let here = subst (λ (hs : List Drilled). AreUnitMistakes c.args.pads.now hs c.deref.result.now c.in_ok-found.found.items) c.holes.ensures c.in_ok-found.ensures in
    subst (AreFoundMistakes c.args.board.now) (sym c.deref-2.ensures.value)
    (all_found board c.in_ok-searched.searched.items pads found c.in_ok-searched.ensures c.requires.layer c.requires.pads
    (subst (λ (files : List FileRange). AreUnitMistakes c.args.pads.now c.args.board.now.holes files c.in_ok-found.found.items) c.deref.ensures.value here))
