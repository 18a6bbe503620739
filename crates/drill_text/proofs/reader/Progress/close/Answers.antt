use Rattle.drill_text.proofs.Common.{◌≡◌, ◌+◌, ℕ, suc, List, [], ◌∷◌, ◌++◌, Err, length, sym, ap, subst, ◌∙◌, arith, length-append, err_from_is_err_and, Fail, IfFault, Keep, Progress, Splits, bytes_of, Kind, spelled_in, shown_by, HasReadIn, Holds, Refuses}
use Rattle.grid_units.specs.declared.fault.Fail.TheVariants.{Memory, Refused}
use Rattle.drill_text.proofs.SplitsLemmas.{Splits-close, bytes_of-push}
use Rattle.drill_text.proofs.PieceLemmas.{closed}
use Rattle.drill_text.proofs.reader.Progress.close.Goals as goal

refused : (old : Progress) (e : Fail) → ((p : Kind) (keep : Keep) (text : List ℕ) (h : Holds old p keep text) → IfFault (λ f. spelled_in p h.lines old.line.items h.commands ≡ Err f) e) → Refuses old (10 ∷ []) e
refused old Memory k = tt
refused old (Refused f) k = λ p keep text h. record { lines = h.lines ++ old.line.items ∷ []; rest = []; splits = Splits-close text h.lines old.line.items h.splits; fault = closed old text old.line.items h ∙ k p keep text h }

pub returns-clause-ok : goal.returns-clause-ok
returns-clause-ok c p keep text h =
    let old = c.args.self.now in
    let place : old.lines + 1 ≡ suc (length h.lines) = omega (arith, h.count) in
    let k = c.in_ok-parse_line.ensures p keep h.lines h.commands place h.start h.has_read in
    let line : old.line.items ≡ c.deref.result.now = sym c.deref.ensures.value in
    let lines : List (List ℕ) = h.lines ++ old.line.items ∷ [] in
    record {
      lines = lines;
      splits = subst (λ (x : List ℕ). Splits (text ++ 10 ∷ []) lines x) (sym c.clear.ensures.items) (Splits-close text h.lines old.line.items h.splits);
      commands = k.0;
      spelled = ap (shown_by p lines) c.clear.ensures.items ∙ (closed old text old.line.items h ∙ (ap (λ (x : List ℕ). spelled_in p h.lines x h.commands) line ∙ k.1));
      has_read = subst (λ (x : List ℕ). HasReadIn c.parse_line.new.reader c.parse_line.new.state c.parse_line.new.kept p keep (h.lines ++ x ∷ []) k.0) (sym line) k.2;
      count = omega (arith, h.count, length-append h.lines (old.line.items ∷ []));
      start = omega (arith, h.offset, ap length h.splits.whole, length-append (bytes_of h.lines) old.line.items, ap length (bytes_of-push h.lines old.line.items), length-append (bytes_of h.lines) (old.line.items ++ 10 ∷ []), length-append old.line.items (10 ∷ []));
      offset = omega (arith, h.offset, length-append text (10 ∷ []));
    }

pub returns-in_err-parse_line-clause-err : goal.returns-in_err-parse_line-clause-err
returns-in_err-parse_line-clause-err c =
    let old = c.args.self.now in
    let e = c.in_err-parse_line.field-0.0 in
    let p = err_from_is_err_and c.from_residual.result c.from_residual.ensures.1 in
    rw (p.1, p.2) (refused old e (λ q keep text h. subst (λ (b : List ℕ). IfFault (λ f. spelled_in q h.lines b h.commands ≡ Err f) e) c.deref.ensures.value (c.in_err-parse_line.ensures q keep h.lines h.commands (omega (arith, h.count)) h.start h.has_read)))
