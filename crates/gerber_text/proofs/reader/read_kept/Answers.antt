use Rattle.gerber_text.proofs.Common.{ℕ, List, [], Result, Ok, Err, OnOk, IfErr, Fail, Strict, WordReader, StandsIn, FailedIn}
use Rattle.gerber_text.proofs.reader.read_kept.Goals as goal

-- a reader that was fed stands after the text or has failed
either : (K : Type 0) (r : Result (Unit {0}) Fail) (reader : WordReader) (text : List ℕ) → OnOk r (StandsIn reader Strict [] text) → IfErr r (FailedIn reader Strict [] text) → (StandsIn reader Strict [] text → K) → ((e : Fail) → FailedIn reader Strict [] text e → K) → K
either K (Ok x) reader text s f ok err = ok s
either K (Err e) reader text s f ok err = err e f

pub returns : goal.returns
returns c =
    let ok = c.feed.ensures.ok Strict [] [] c.new-reader.ensures in
    let err = c.feed.ensures.err Strict [] [] c.new-reader.ensures in
    either _ c.feed.result c.feed.new.self c.args.bytes.now ok err (c.into_kept.ensures.stands Strict c.args.bytes.now) (c.into_kept.ensures.failed Strict c.args.bytes.now)
