use Rattle.drawing.proofs.Common.{ℕ, ◌+◌, ◌*◌, ◌/◌, ◌++◌, codes, refl, ap, has_written_append, has_written_of_eq, bar_at, length_words, text_start}
use Rattle.drawing.proofs.page.write_scale.Goals as goal

pub returns : goal.returns
returns g c = λ plain ok.
    let unit = c.args.layout.now.pen.unit in
    let bar = c.args.layout.now.bar in
    let words = codes "<text transform=\"translate(" in
    let line = c.in_ok-write_bar.ensures plain refl in
    let start = c.in_ok-write_text_start.ensures line.plain refl in
    has_written_of_eq _ _ _ _ _
    (ap (λ (end : ℕ). bar_at (3 * unit) (end + 3 * unit) bar ++ (text_start words (4 * unit + bar) (end + 17 * unit / 5) unit ++ length_words bar)) c.boxes_end-end.ensures.value)
    (has_written_append _ _ _ _ _ _ line (has_written_append _ _ _ _ _ _ start (c.write_length.ensures start.plain ok)))
