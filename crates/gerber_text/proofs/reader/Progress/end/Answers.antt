use Rattle.gerber_text.proofs.Common.{◌≡◌, ◌++◌, ◌+◌, ◌≤◌, Err, cond, length, refl, sym, subst, ap, arith, ◌∙◌, list_all, bytes_of, first_offset, is_blank, Ends}
use Rattle.gerber_text.proofs.FinishLemmas.{reads_ok, reads_truncated, stops_at, kept_before}
use Rattle.gerber_text.proofs.reader.Progress.end.Goals as goal

pub returns-then-self : goal.returns-then-self
returns-then-self c profile gone text h = reads_ok profile text h.items h.rest (gone ++ c.args.self.now.commands.items) h.splits h.commands (sym h.ended ∙ c.if-self.true) (omega (arith, h.offset, c.args.self.now.in_text))

pub returns : goal.returns
returns c profile gone text h =
    let self = c.args.self.now in
    let none = sym h.ended ∙ c.if-self.false in
    let blank : list_all is_blank self.item.items ≡ list_all is_blank (bytes_of h.rest) = ap (list_all is_blank) (h.pending none) in
    let byte : cond (list_all is_blank (bytes_of h.rest)) (length text) (first_offset h.rest) ≡ c.truncated_at.result =
    stops_at (list_all is_blank (bytes_of h.rest)) h.rest (length text) self.offset self.start refl h.offset (h.start none) ∙ (ap (λ t. cond t self.offset self.start) (sym blank) ∙ sym c.truncated_at.ensures) in
    let le : length text ≤ 268435456 = omega (arith, h.offset, self.in_text) in
    subst (λ e. Ends {X = Unit {0}} profile text (gone ++ self.commands.items) (Err e)) (sym c.refuse.ensures) (reads_truncated profile text h.items h.rest (gone ++ self.commands.items) (self.items + 1) c.truncated_at.result h.splits h.commands none le (omega (arith, h.count)) byte, kept_before profile self gone text h le c.truncated_at.result)
