use Rattle.gerber_text.proofs.Common.{◌≡◌, ◌<◌, ℕ, zero, suc, refl, sym, ◌∙◌, arith, ne_eqb, err_from_is_err_and}
use Rattle.std.proofs.lemmas.List.{length-take-le}
use Rattle.gerber_text.proofs.ShowsLemmas.{Refuses-first, Refuses-prefix}
use Rattle.gerber_text.proofs.reader.Progress.take_some.Goals as goal

pub returns-in_err-close-clause-err : goal.returns-in_err-close-clause-err
returns-in_err-close-clause-err c =
    let p = err_from_is_err_and c.from_residual-in_err-close.result c.from_residual-in_err-close.ensures.1 in
    rw (p.1, p.2) (Refuses-first c.args.self.now c.close.new.self.commands.items c.args.bytes.now c.in_err-close.field-0.0 c.requires.some c.in_err-close.ensures.err)

pub returns-in_err-extend-clause-err : goal.returns-in_err-extend-clause-err
returns-in_err-extend-clause-err c =
    let p = err_from_is_err_and c.from_residual-in_err-extend.result c.from_residual-in_err-extend.ensures.1 in
    rw (p.1, p.2) (Refuses-prefix c.args.self.now c.extend.new.self.commands.items c.args.bytes.now c.inside_len.result c.in_err-extend.field-0.0 c.in_err-extend.ensures.err)

positive : (n : ℕ) → (n ≡ 0 → ⊥) → 0 < n
positive zero h = absurd (h refl)
positive (suc n) h = omega arith

pub returns-in_ok-extend-clause-taken : goal.returns-in_ok-extend-clause-taken
returns-in_ok-extend-clause-taken c =
    let n = c.inside_len.result in
    let within = c.inside_len.ensures.within in
    let size = length-take-le n c.args.bytes.now within in
    let some = positive n (λ none. c.inside_len.ensures.stops c.requires.some none (ne_eqb _ _ c.if-first-end.false, sym c.is_break.ensures ∙ c.if-is_break.false)) in
    (omega (arith, size, some), omega (arith, size, within), c.in_ok-extend.ensures.offset)
