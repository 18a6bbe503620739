use Rattle.gerber_text.proofs.Common.{ℕ, ◌+◌, ◌≤◌, List, inl, inr, subst, sym, ◌∙◌, ap, length, leb}
use Rattle.gerber_text.proofs.PieceLemmas.{starred}
use Rattle.gerber_text.proofs.LengthLemmas.{comment_test, attribute_test, removal_test, macro_test, name_length, are_bounded, bounded_short, short_true}
use Rattle.gerber_text.proofs.sayable_items.is_short.Goals as goal

pub returns-in_default : goal.returns-in_default
returns-in_default c =
    let d = c.args.command.now in
    short_true d (bounded_short d c.requires (are_bounded d c.in_default.not-Comment c.in_default.not-Define c.in_default.not-Macro c.in_default.not-Attribute c.in_default.not-Remove))

pub returns-in-Attribute : goal.returns-in-Attribute
returns-in-Attribute c =
    ap (λ l. leb (length l) 1048571) c.bytes-in-Attribute.ensures ∙ elim c.in-Attribute.is [
      | inl a ↦ attribute_test c.args.command.now a.0 c.in-Attribute.text a.1 c.requires
      | inr r ↦ removal_test c.args.command.now c.in-Attribute.text r c.requires
    ]

pub returns-in-Comment : goal.returns-in-Comment
returns-in-Comment c = ap (λ l. leb (length l) 1048572) c.bytes.ensures ∙ comment_test c.args.command.now c.in-Comment.text c.in-Comment.is c.requires

pub is_macro_short-requires : goal.is_macro_short-requires
is_macro_short-requires c = subst (λ (l : List ℕ). length l ≤ 127) (sym c.bytes-in-Macro.ensures) (name_length c.args.command.now c.in-Macro.name c.in-Macro.pieces c.in-Macro.is c.requires)

pub returns-in-Macro : goal.returns-in-Macro
returns-in-Macro c =
    c.is_macro_short.ensures
    ∙ ((λ i. leb (5 + (length (c.bytes-in-Macro.ensures i) + length (starred ((c.texts.ensures ∙ c.get-in-Macro.ensures) i)))) 1048576)
    ∙ macro_test c.args.command.now c.in-Macro.name c.in-Macro.pieces c.in-Macro.is c.requires)
