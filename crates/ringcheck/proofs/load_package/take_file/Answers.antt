use Rattle.ringcheck.proofs.Common.{[], append-nil, subst, sym, HasOpened, GoesOn}
use Rattle.package_check.specs.declared.open_file.OpenFile.{OpenFile}
use Rattle.ringcheck.specs.declared.load_package.FileSink.{FileSink}
use Rattle.ringcheck.proofs.LoadSteps.{hashes_none}
use Rattle.ringcheck.proofs.load_package.take_file.Goals as goal

-- no piece so far
no_piece : (file : OpenFile) → GoesOn file file []
no_piece file = λ reader index of said text h. subst (HasOpened reader index of said file) (sym (append-nil text)) h

pub returns-in_ok-end-in-Ok-None-clause-taken : goal.returns-in_ok-end-in-Ok-None-clause-taken
returns-in_ok-end-in-Ok-None-clause-taken g c =
    let entry = c.args.entry.now in
    let loaded = rw (c.in-Ok-None.is, c.in-Ok-None.field-0-is) at c.hand_file.ensures.loaded in
    let start : FileSink = record { file = c.begin-file.result; hasher = c.of-hasher.result } in
    let (goes_on, hashes_on) = loaded.2 start [] (no_piece c.begin-file.result, hashes_none c.of-hasher.result) in (
      loaded.0,
      loaded.1,
      c.in_ok-end-in-Ok-None.ensures.stands c.args.index entry.role entry.said loaded.0 entry.name (goes_on c.args.reader.now c.args.index entry.role entry.said [] c.begin-file.ensures),
      c.put.ensures loaded.0 (hashes_on _ [] c.of-hasher.ensures),
    )
