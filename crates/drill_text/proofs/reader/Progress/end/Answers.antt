use Rattle.drill_text.proofs.Common.{◌≡◌, ◌≢◌, ◌+◌, ◌<◌, suc, length, vec_len, List, ℕ, [], sym, ap, subst, arith, eqb-true, eqb-false, nil_from_length, ResultsInLine, spelled_in, with_rest}
use Rattle.drill_text.proofs.SpelledLemmas.{rest_is_line, rest_results}
use Rattle.drill_text.proofs.reader.Progress.end.Goals as goal

pub returns-then-is_empty-clause-results_in : goal.returns-then-is_empty-clause-results_in
returns-then-is_empty-clause-results_in c p keep text h =
    let line = c.args.self.now.line in
    let zero : vec_len line ≡ 0 = eqb-true (vec_len line) 0 (sym c.if-is_empty.ensures) in
    let none : line.items ≡ [] = nil_from_length line.items (omega (arith, line.ok.0, zero)) in
    (h.commands, ap (λ (l : List ℕ). with_rest p h.lines l h.commands) none, h.has_read.has_read)

pub returns-clause-results_in : goal.returns-clause-results_in
returns-clause-results_in c p keep text h =
    let old = c.args.self.now in
    let line = old.line.items in
    let place : old.lines + 1 ≡ suc (length h.lines) = omega (arith, h.count) in
    let unequal : vec_len old.line ≢ 0 = eqb-false (vec_len old.line) 0 (sym c.if-is_empty.ensures) in
    let some : 0 < length line = omega (arith, old.line.ok.0, unequal) in
    let read = c.parse_line.ensures p keep h.lines h.commands place h.start h.has_read in
    rest_results c.parse_line.result c.parse_line.new.reader c.parse_line.new.state c.parse_line.new.kept p keep h.lines line (spelled_in p h.lines line h.commands) (with_rest p h.lines line h.commands) (rest_is_line p h.lines line h.commands some)
    (subst (λ (b : List ℕ). ResultsInLine c.parse_line.result c.parse_line.new.reader c.parse_line.new.state c.parse_line.new.kept p keep h.lines b (spelled_in p h.lines b h.commands)) c.deref.ensures.value read)
