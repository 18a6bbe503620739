use Rattle.drawing.proofs.Common.{ℕ, List, ◌+◌, ◌*◌, ◌++◌, codes, refl, ap₂, has_written_append, has_written_of_eq, text_start}
use Rattle.drawing.proofs.page.write_legend.Goals as goal

pub returns : goal.returns
returns g c = λ plain ok.
    let unit = c.args.layout.now.pen.unit in
    let words = codes "<g class=\"legend\" font-size=\"1.25\" transform=\"translate(" in
    let start = c.in_ok-write_text_start.ensures plain refl in
    has_written_of_eq _ _ _ _ _ (ap₂ (λ (end : ℕ) (rest : List ℕ). text_start words (4 * unit) (end + 6 * unit) unit ++ rest) c.boxes_end-end.ensures.value c.legend.ensures)
    (has_written_append _ _ _ _ _ _ start (c.write_str.ensures.writes start.plain ok))
