-- What is kept of the layer is what it draws.
use Rattle.ringcheck.proofs.Common.{◌∙◌, ap, ℕ, List, [], Err, err_from_is_err_and, Strict}
use Rattle.std.specs.Global.{Vec}
use Rattle.grid_units.specs.Results.{Answers, IfFault}
use Rattle.grid_units.specs.declared.fault.Fail.{Fail}
use Rattle.grid_units.specs.declared.fault.Fail.TheVariants as fails
use Rattle.pad_shapes.specs.declared.wide_pad.WidePad.{WidePad}
use Rattle.layer_image.specs.Holding.{ShowsLayerFaultIn, left_pads}
use Rattle.layer_image.specs.Kept.{KeptLayer, ReadsKeptIn}
use Rattle.layer_image.proofs.Pieces.{shown_read}
use Rattle.pad_shapes.specs.declared.drawn.Drawn.{Drawn}
use Rattle.layer_features.specs.DrawnCopper.{first_parts}
use Rattle.layer_features.specs.declared.keep.Keep.TheVariants as keep
use Rattle.ringcheck.specs.Outlining.{ReadsOutline}
use Rattle.ringcheck.proofs.outlines.read_outline.Goals as goal

-- the fault that the text shows is that of the outline
outline_shown : (text : List ℕ) (e : Fail) → IfFault (ShowsLayerFaultIn Strict text) e → Answers {T = Vec Drawn} (λ drawn. drawn.items) (ReadsOutline text) (Err e)
outline_shown text fails.Memory h = tt
outline_shown text (fails.Refused f) h = shown_read Strict text f h

-- and so is that of its end
outline_refused : (text : List ℕ) (left : List WidePad) (e : Fail) → Answers {T = KeptLayer} (λ layer. layer) (ReadsKeptIn Strict keep.RowsAndDrawn left text) (Err e) → Answers {T = Vec Drawn} (λ drawn. drawn.items) (ReadsOutline text) (Err e)
outline_refused text left fails.Memory h = tt
outline_refused text left (fails.Refused f) h = h

pub returns-in_err-feed : goal.returns-in_err-feed
returns-in_err-feed c =
    let p = err_from_is_err_and c.from_residual.result c.from_residual.ensures.1 in
    rw (p.1, p.2) (outline_shown c.args.text.now c.in_err-feed.field-0.0 (c.in_err-feed.ensures.err Strict keep.RowsAndDrawn [] [] c.in_profile-reader.ensures))

pub returns-in_err-layer : goal.returns-in_err-layer
returns-in_err-layer c =
    let p = err_from_is_err_and c.from_residual-in_err-layer.result c.from_residual-in_err-layer.ensures.1 in
    let text = c.args.text.now in
    rw (p.1, p.2) (outline_refused text (left_pads c.feed.new.self []) c.in_err-layer.field-0.0 (c.in_err-layer.ensures.exact Strict keep.RowsAndDrawn [] text (c.in_ok-feed.ensures.ok Strict keep.RowsAndDrawn [] [] c.in_profile-reader.ensures)))

pub returns : goal.returns
returns c =
    let text = c.args.text.now in
    let read = c.in_ok-layer.ensures.exact Strict keep.RowsAndDrawn [] text (c.in_ok-feed.ensures.ok Strict keep.RowsAndDrawn [] [] c.in_profile-reader.ensures) in
    (read.0, read.1, c.into_rows-features.ensures.drawn ∙ read.2.drawn ∙ ap first_parts (c.strict_layers.ensures text read.0 read.1).drawn)
