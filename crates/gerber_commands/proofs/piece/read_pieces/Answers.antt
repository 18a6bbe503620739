-- The rows before the one that fits fit not.
use Rattle.gerber_commands.proofs.Common.{◌≡◌, ◌∙◌, ◌∷◌, ap, sym, refl, None, Some, List, ℕ, option_map, Row, first_match, pieces, pieces_from_polarity, Result, Command}
use Rattle.grid_units.specs.Results.{Gives}
use Rattle.grid_units.specs.declared.item_fail.ItemFail.{ItemFail}
use Rattle.gerber_commands.specs.Pieces.{refused_format_row, format_row, unit_piece_row, define_row, macro_row, definition, macro_definition}
use Rattle.gerber_commands.proofs.piece.read_pieces.Goals as goal

after_unit : (text : List ℕ) (x : Result (List Command) ItemFail) (define macro : Row) → refused_format_row text ≡ None → format_row text ≡ None → unit_piece_row text ≡ None → define_row text ≡ define → macro_row text ≡ macro
    → Gives x (first_match (define ∷ macro ∷ pieces_from_polarity text)) → Gives x (first_match (pieces text))
after_unit text x define macro a b d e f h = rw (a, b, d, e, f) h

pub returns-in-Some-strip_prefix : goal.returns-in-Some-strip_prefix
returns-in-Some-strip_prefix c =
    after_unit c.args.text.now _ (Some (definition c.in-Some-strip_prefix.rest.now)) (macro_row c.args.text.now) (sym c.read_system.ensures ∙ c.in_default.is) (sym c.read_format.ensures ∙ c.in_default-read_format.is) (sym c.read_unit.ensures ∙ c.in_default-read_unit.is)
    (ap (option_map definition) (sym c.in-Some-strip_prefix.ensures)) refl c.read_define.ensures

pub returns-in-Some-strip_prefix-2 : goal.returns-in-Some-strip_prefix-2
returns-in-Some-strip_prefix-2 c =
    after_unit c.args.text.now _ None (Some (macro_definition c.in-Some-strip_prefix-2.rest.now)) (sym c.read_system.ensures ∙ c.in_default.is) (sym c.read_format.ensures ∙ c.in_default-read_format.is) (sym c.read_unit.ensures ∙ c.in_default-read_unit.is)
    (ap (option_map definition) (sym c.in_default-strip_prefix.ensures)) (ap (option_map macro_definition) (sym c.in-Some-strip_prefix-2.ensures)) c.read_macro.ensures

pub returns-in_default-strip_prefix-2 : goal.returns-in_default-strip_prefix-2
returns-in_default-strip_prefix-2 c =
    after_unit c.args.text.now _ None None (sym c.read_system.ensures ∙ c.in_default.is) (sym c.read_format.ensures ∙ c.in_default-read_format.is) (sym c.read_unit.ensures ∙ c.in_default-read_unit.is)
    (ap (option_map definition) (sym c.in_default-strip_prefix.ensures)) (ap (option_map macro_definition) (sym c.in_default-strip_prefix-2.ensures)) c.read_from_polarity.ensures
