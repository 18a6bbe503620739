use Rattle.drill_text.proofs.Common.{◌≡◌, false, Err, sym, ap, subst, ◌∙◌, err_from_is_err_and, list_any, Answers, fault, Truncated, DrillFile, file_of, ReadsAsBy, ReadsBy, is_finish, place_after_count}
use Rattle.drill_text.proofs.FinishLemmas.{reads_fault, reads_ended, reads_truncated}
use Rattle.drill_text.proofs.reader.Progress.finish.Goals as goal

pub returns-in_err-end : goal.returns-in_err-end
returns-in_err-end c p keep text h =
    let q = err_from_is_err_and c.from_residual.result c.from_residual.ensures.1 in
    rw (q.1, q.2) (reads_fault p keep c.args.self text c.in_err-end.field-0.0 c.args.self.in_text h (c.in_err-end.ensures.results_in p keep text h))

pub returns-then-is_finished : goal.returns-then-is_finished
returns-then-is_finished c p keep text h =
    let k = c.in_ok-end.ensures.results_in p keep text h in
    let reads = reads_ended c.args.self text h k.0 c.args.self.in_text k.1 (sym k.2.keeps.finished ∙ (sym c.is_finished.ensures ∙ c.if-is_finished.true)) in
    (k.0, reads, c.new.ensures p keep k.0 k.2)

pub returns : goal.returns
returns c p keep text h =
    let k = c.in_ok-end.ensures.results_in p keep text h in
    let same = c.in_ok-end.ensures.same in
    let self = c.args.self in
    let new = c.end.new.self in
    let none : list_any is_finish k.0 ≡ false = sym k.2.keeps.finished ∙ (sym c.is_finished.ensures ∙ c.if-is_finished.false) in
    let place : c.place_after.result ≡ place_after_count self.lines self.line.items = c.place_after.ensures ∙ (ap (λ n. place_after_count n new.line.items) same.0 ∙ ap (place_after_count self.lines) same.1) in
    subst (λ e. Answers (λ (d : DrillFile). d) (ReadsAsBy p (file_of p.plating keep) text) (Err e)) (sym c.refusal.ensures)
    (subst (λ n. ReadsBy p text (Err (fault n new.offset Truncated))) (sym place)
    (subst (λ b. ReadsBy p text (Err (fault (place_after_count self.lines self.line.items) b Truncated))) (sym same.2)
    (reads_truncated self text h k.0 self.in_text k.1 none)))
