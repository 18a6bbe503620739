use Rattle.ringcheck.proofs.Common.{refl}
use Rattle.ringcheck.proofs.load_package.hand_file.Goals as goal

pub returns-in-Ok-clause-loaded : goal.returns-in-Ok-clause-loaded
returns-in-Ok-clause-loaded g c =
    let (bytes, held, short, taken) = c.in-Ok.ensures.gives in
    (bytes, (rw c.as_str-path.ensures at held, short), taken)

pub returns-in-Err-TooLong-clause-loaded : goal.returns-in-Err-TooLong-clause-loaded
returns-in-Err-TooLong-clause-loaded g c =
    let (bytes, held, long) = c.in-Err-TooLong.ensures.too_long c.in-Err-TooLong.field-0-is in
    record { bytes = bytes; loaded = rw c.as_str-path.ensures at held; long = long; is = rw c.as_str-name.ensures refl }
