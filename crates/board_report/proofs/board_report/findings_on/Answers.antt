use Rattle.board_report.proofs.Common.{◌≡◌, ◌∙◌, Bor, List, [], get_or, length, map, sym, subst, ap, arith, rules, All, All-append, wide_pad_covers, WidePad, Drilled, AreBestPads, Finding, board_findings}
use Rattle.ring_rules.specs.Findings.{gap_findings, ring_findings}
use Rattle.ring_rules.specs.WithoutFindings.{NamesPlaces}
use Rattle.board_report.proofs.board_report.findings_on.Goals as goal

pub ring_findings_from_bests-requires : goal.ring_findings_from_bests-requires
ring_findings_from_bests-requires c =
    let board = c.args.board.now in
    let bests = map (λ its. its.items) c.args.bests.now in
    let layers : map (λ (pads : Bor (List WidePad)). pads.now) c.deref.result.now ≡ board.layers =
    ap (map (λ (pads : Bor (List WidePad)). pads.now)) c.deref.ensures.value ∙ c.in_ok-layers.ensures in
    record {
      size = c.requires.bests.size ∙ ap length (sym layers);
      each = λ layer inside.
          subst (λ (hs : List Drilled). AreBestPads wide_pad_covers (get_or (map (λ (pads : Bor (List WidePad)). pads.now) c.deref.result.now) layer []) hs (get_or bests layer [])) (sym c.holes-holes.ensures)
          (subst (λ (ls : List (List WidePad)). AreBestPads wide_pad_covers (get_or ls layer []) board.holes (get_or bests layer [])) (sym layers)
          (c.requires.bests.each layer (let same = ap length layers in omega (arith, inside, same))));
    }

pub returns-clause-places : goal.returns-clause-places
returns-clause-places c =
    let board = c.args.board.now in
    let required = c.args.rules in
    let named = All-append (NamesPlaces (length board.layers) (length board.holes)) (ring_findings wide_pad_covers required.profile required.ring board.layers board.holes) (gap_findings required.gap board.holes)
    (c.findings_name_places.ensures.rings required.profile required.ring board.layers board.holes) (c.findings_name_places.ensures.gaps required.gap (length board.layers) board.holes) in
    let found : c.extend_from_slice.new.self.items ≡ board_findings c.args.rules c.args.board.now = search rules in
    subst (λ (xs : List Finding). All (NamesPlaces (length board.layers) (length board.holes)) xs) (sym found) named
