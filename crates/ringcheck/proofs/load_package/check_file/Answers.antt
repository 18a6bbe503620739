use Rattle.ringcheck.proofs.Common.{[], append-nil, subst, sym, ◌∙◌, TakesCopper, HasOpenedCopper, setting_of, FileView, Setting, CopperGoesOn}
use Rattle.package_check.proofs.FileKinds.{role_copper}
use Rattle.ringcheck.specs.declared.load_package.CheckSink.{CheckSink}
use Rattle.ringcheck.proofs.LoadSteps.{hashes_none}
use Rattle.ringcheck.proofs.load_package.check_file.Goals as goal

-- no piece so far
no_piece : (sink : CheckSink) → CopperGoesOn sink sink []
no_piece sink = λ first index layer said text h. subst (HasOpenedCopper first sink.check index layer said sink.file) (sym (append-nil text)) h

pub returns-in_ok-end-in-Ok-None-clause-taken : goal.returns-in_ok-end-in-Ok-None-clause-taken
returns-in_ok-end-in-Ok-None-clause-taken g c = λ copper.
    let entry = c.args.entry.now in
    let before = c.args.check in
    let index = c.args.index in
    let layer = c.args.layer in
    let read_in = setting_of before in
    let (bytes, held, more) = rw (c.in-Ok-None.is, c.in-Ok-None.field-0-is) at c.hand_file.ensures.loaded in
    let start : CheckSink = record { check = c.begin-file.new.self; file = c.begin-file.result; hasher = c.of-hasher.result } in
    let (goes_on, hashes_on) = more start [] (no_piece start, hashes_none c.of-hasher.result) in
    let opened = goes_on before index layer entry.said [] c.begin-file.ensures in
    let ended = c.in_ok-end-in-Ok-None.ensures in (
      (
        bytes,
        held,
        subst (λ (s : FileView). TakesCopper before c.end.new.self index layer s) (λ j. let s : FileView = record { role = sym (role_copper entry.role copper) j; name = entry.name; said = entry.said; bytes = bytes; setting = read_in } in s)
            (ended.stands before index layer entry.said bytes entry.name opened),
        c.put.ensures bytes (hashes_on _ [] c.of-hasher.ensures),
      ),
      ended.setting ∙ (λ j. let s : Setting = record { layers = opened.same_layers j; profile = (opened.same_rules j).profile } in s),
    )
