use Rattle.ringcheck.proofs.Common.{◌+◌, arith, refl, slice_get_read, map}
use Rattle.std.specs.Prelude.{string_bytes}
use Rattle.ringcheck.proofs.CertifiedFiles.{after_line}
use Rattle.ringcheck.specs.CertificateStatus.{IsOtherAt}
use Rattle.ringcheck.proofs.certificates.print_differing_files.Goals as goal
use Rattle.ringcheck.proofs.certificates.print_differing_files.Goals.{then-branch+in_ok-write, else-branch}

pub loop-index-preserved : goal.loop-index-preserved
loop-index-preserved g c =
    let has = g.L.Loader.has c.args.loader.now in
    let k = c.loop-index.index in
    let entry = c.index-entries-index.result in
    let here = slice_get_read c.args.entries.now _ k entry refl c.loop-index-test.true c.index-entries-index.is in
    let counts = c.differs.ensures.counts in
    let counted = c.loop-index.invariant.counted in
    let keeps = c.loop-index.invariant.keeps in
    let so_far = c.loop-index.invariant.lines in
    record {
      keeps = λ n b h. keeps n b (c.differs.ensures.keeps n b h);
      counted = omega (arith, counts, counted);
      lines = elim c.if-branch.branch [
        | then-branch+in_ok-write w ↦
            let (bytes, had, why) = c.in_ok-differs.ensures.other w.if-branch.true in
            rw (w.out-is, w.any-is) (after_line (IsOtherAt has (map string_bytes c.args.written.now) c.args.entries.now) _ _ _ _ so_far (k + 1) (k, entry, refl, here, (bytes, keeps entry.file bytes (rw c.as_str.ensures at had), why)) w.in_ok-write.ensures.bytes)
        | else-branch w ↦ rw (w.out-is, w.any-is) so_far
      ];
    }
