use Rattle.ringcheck.proofs.Common.{refl, Written, texts, manifest_in, HasCause, HasRisen, RefusesTable, Holds, SaysJob, job_profile, job_style, RefusedFile, refused_file, refused_manifest}
use Rattle.ringcheck.specs.declared.refusals.Subject.TheVariants as subject
use Rattle.ringcheck.proofs.Outcomes.{file_along, files_along, halted, risen_since, table_halted, worked}
use Rattle.ringcheck.proofs.packages.run_job.Goals as goal

pub returns-in-Err-clause-says : goal.returns-in-Err-clause-says
returns-in-Err-clause-says g c =
    let has = g.L.Loader.has c.args.loader.now in
    let failed = g.L.Loader.failed in
    let job = c.args.job.now in
    let before = texts g.W.Write.contents g.E.Write.contents c.args.to.now in
    let after = texts g.W.Write.contents g.E.Write.contents c.print_no_table.new.to in
    table_halted (RefusesTable (manifest_in (job_profile job)) has c.args.name.now subject.Manifest) (HasRisen (failed c.args.loader.now) (failed c.load_table.new.loader)) (job_style job) before after
    (SaysJob job c.args.outline.now has c.args.name.now before after) (λ risen. tt)
    (λ why is printed. record { why = why; refused = refused_manifest is; printed = printed })
    c.in-Err.no_table (rw (c.in-Err.is, c.profile-profile.ensures) at c.in_ok-table.ensures.loaded) c.print_no_table.result (rw c.style.ensures at c.print_no_table.ensures)

pub returns-in-Ok-2-clause-says : goal.returns-in-Ok-2-clause-says
returns-in-Ok-2-clause-says g c =
    let has = g.L.Loader.has c.args.loader.now in
    let later = g.L.Loader.has c.load_table.new.loader in
    let job = c.args.job.now in
    let before = texts g.W.Write.contents g.E.Write.contents c.args.to.now in
    let after : Written = (g.W.Write.contents c.answer.new.out, before.1) in
    let table = c.in-Ok.table in
    let entries = table.rows.items in
    let listed = rw (c.in-Ok.is, c.profile-profile.ensures) at c.in_ok-table.ensures.loaded in
    let (files, held, holds) = rw (c.in-Ok-2.is, c.as_slice.ensures.value, c.as_slice-2.ensures.value) at c.in_ok-passes.ensures.answers in
    let has_files_along = files_along later has c.in_ok-table.ensures.keeps entries files held in
    rw c.status_of.ensures (worked has (job_profile job) c.args.name.now (Holds job c.args.outline.now c.args.name.now before.0 after.0) (job_style job) before after table.text.items entries files listed has_files_along c.in-Ok-2.passes holds refl)

pub returns : goal.returns
returns g c =
    let has = g.L.Loader.has c.args.loader.now in
    let later = g.L.Loader.has c.load_table.new.loader in
    let failed = g.L.Loader.failed in
    let job = c.args.job.now in
    let before = texts g.W.Write.contents g.E.Write.contents c.args.to.now in
    let after = texts g.W.Write.contents g.E.Write.contents c.print_halt.new.to in
    let table = c.in-Ok.table in
    let entries = table.rows.items in
    let listed = rw (c.in-Ok.is, c.profile-profile.ensures) at c.in_ok-table.ensures.loaded in
    let silent = rw c.in-Err-2.is at c.in_ok-passes.ensures.silent in
    let is = rw (c.in-Err-2.is, c.as_slice-2.ensures.value) at c.in_ok-passes.ensures.answers in
    let printed = rw (c.style-in-Err-2.ensures, silent) at c.print_halt.ensures in
    let by = halted (RefusedFile later (job_profile job) entries) (HasRisen (failed c.load_table.new.loader) (failed c.answer.new.loader)) (job_style job) before after in
    record {
      says = by (SaysJob job c.args.outline.now has c.args.name.now before after) (λ risen. tt)
          (λ why refused said. record { why = why; refused = refused_file entries (table.text.items, listed) (file_along later has c.in_ok-table.ensures.keeps (job_profile job) entries why refused); printed = said }) c.in-Err-2.halt is c.print_halt.result printed;
      cause = by (HasCause (failed c.args.loader.now) (failed c.answer.new.loader)) (risen_since (failed c.args.loader.now) (failed c.load_table.new.loader) (failed c.answer.new.loader) c.in_ok-table.ensures.counts) (λ why refused said. tt) c.in-Err-2.halt is c.print_halt.result printed;
    }
