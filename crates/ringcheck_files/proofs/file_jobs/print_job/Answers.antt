use Rattle.ringcheck_files.proofs.Common.{inl, refl}
use Rattle.ringcheck_files.specs.LoaderRelation.{too_long}
use Rattle.ringcheck_files.proofs.file_jobs.print_job.Goals as goal

pub returns-clause-says : goal.returns-clause-says
returns-clause-says g c =
    let (bytes, loaded, long) = c.in-Err-TooLong.ensures.too_long c.in-Err-TooLong.field-0-is in
    record { bytes = bytes; loaded = loaded; why = too_long; fault = inl (long, refl); printed = c.in_ok-refuse_file-in-Err-TooLong.ensures }
