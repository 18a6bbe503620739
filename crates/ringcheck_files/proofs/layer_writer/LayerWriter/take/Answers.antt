use Rattle.ringcheck_files.proofs.Common.{◌++◌, subst, err_from_is_err_and, Strict, Entries, HoldsLines, held_entries}
use Rattle.ringcheck_files.proofs.WriterLemmas.{stops}
use Rattle.ringcheck_files.proofs.layer_writer.LayerWriter.take.Goals as goal

pub returns-in_err-feed-clause-err : goal.returns-in_err-feed-clause-err
returns-in_err-feed-clause-err c text h =
    let p = err_from_is_err_and c.from_residual.result c.from_residual.ensures.1 in
    let failed = c.in_err-feed.ensures.err Strict h.gone text h.words in
    rw (p.1, p.2) (stops (text ++ c.args.piece.now) (h.gone ++ held_entries c.feed.new.self) c.in_err-feed.field-0.0 failed.fails)

pub returns-clause-ok : goal.returns-clause-ok
returns-clause-ok c text h =
    let words = c.feed.new.self in
    record {
      gone = h.gone ++ held_entries words;
      words = c.clear_commands.ensures.gone Strict h.gone (text ++ c.args.piece.now) (c.in_ok-feed.ensures.ok Strict h.gone text h.words);
      lines = subst (λ (x : Entries). HoldsLines c.add.new.self (h.gone ++ x)) c.commands.ensures.held (c.in_ok-add.ensures h.gone h.lines);
    }
