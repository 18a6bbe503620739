use Rattle.gerber_text.proofs.Common.{err_from_is_err_and, [], Strict}
use Rattle.gerber_text.proofs.FinishLemmas.{answers_err}
use Rattle.gerber_text.proofs.TextIsSayable.{always_sayable}
use Rattle.gerber_text.proofs.SpellsTextLemmas.{only_err, always_exact, always_found, always_only}
use Rattle.gerber_text.proofs.reader.read_words.Goals as goal

pub returns-in_err-feed : goal.returns-in_err-feed
returns-in_err-feed c =
    let p = err_from_is_err_and c.from_residual.result c.from_residual.ensures.1 in
    let fails = c.in_err-feed.ensures.err Strict [] [] c.new-reader.ensures in
    let e = c.in_err-feed.field-0.0 in
    let exact = answers_err Strict c.args.bytes.now c.feed.new.self.progress.commands.items e fails.fails in
    record {
      exact = rw (p.1, p.2) exact;
      found = rw p.1 tt;
      only = λ cs s. rw (p.1, p.2) (only_err Strict c.args.bytes.now cs e exact s);
      sayable = rw p.1 tt;
    }

pub returns : goal.returns
returns c =
    let h = c.finish.ensures.exact Strict [] c.args.bytes.now (c.in_ok-feed.ensures.ok Strict [] [] c.new-reader.ensures) in
    record {
      exact = always_exact Strict c.args.bytes.now c.finish.result h;
      found = always_found Strict c.args.bytes.now c.finish.result h;
      only = always_only Strict c.args.bytes.now c.finish.result h;
      sayable = always_sayable c.args.bytes.now c.finish.result h;
    }
