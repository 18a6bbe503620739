use Rattle.ringcheck.proofs.Common.{◌≡◌, ◌∙◌, ◌∷◌, [], IfOk-weaker, ap, arith, false≢true, length, map, sym}
use Rattle.std.proofs.lemmas.List.{length-map}
use Rattle.std.specs.Prelude.{◌-◌, string_bytes}
use Rattle.ringcheck.proofs.CertifiedFiles.{only_line}
use Rattle.ringcheck.proofs.Folders.{all_other_along}
use Rattle.ringcheck.specs.CertificateStatus.{other_files, other_manifest}
use Rattle.ringcheck.proofs.certificates.print_differing.Goals as goal

pub returns-then-branch-clause-lines : goal.returns-then-branch-clause-lines
returns-then-branch-clause-lines g c =
    let digests = map string_bytes c.args.certified.now.digests.items in
    let size : length c.as_slice-written.result.now ≡ length digests = ap length c.as_slice-written.ensures.value ∙ sym (length-map c.args.certified.now.digests.items string_bytes) in
    let last : c.saturating_sub-last.result ≡ length digests - 1 = omega (arith, c.saturating_sub-last.ensures, size) in
    let found = rw (c.as_str-manifest.ensures.value, last, c.as_slice-written.ensures.value) at c.in_ok-differs.ensures.other c.if-branch.true in
    record {
      numbers = length digests ∷ [];
      written = only_line _ _ _ (length digests) size c.in_ok-write.ensures.bytes;
      other = λ _. (other_manifest found, omega arith);
      none = λ none. absurd (false≢true (sym none));
    }

pub returns-in-Ok-clause-lines : goal.returns-in-Ok-clause-lines
returns-in-Ok-clause-lines g c =
    let has = g.L.Loader.has c.args.loader.now in
    let between = g.L.Loader.has c.differs.new.loader in
    let later = g.L.Loader.has c.load_table.new.loader in
    let keeps = c.in_ok-differs.ensures.keeps in
    let digests = map string_bytes c.args.certified.now.digests.items in
    let entries = c.in-Ok.table.rows.items in
    let (held, short, reads) = rw (c.in-Ok.is, c.as_str-manifest.ensures.value, c.profile-profile.ensures) at c.in_ok-table.ensures.loaded in
    let listed = rw (c.as_slice.ensures.value, c.as_slice-written.ensures.value) at c.print_differing_files.ensures.lines in
    IfOk-weaker c.print_differing_files.result _ _
    (λ any lines. record {
      numbers = lines.numbers;
      written = lines.written;
      other = λ yes. (
        other_files entries (c.in-Ok.table.text.items, (keeps _ _ held, short, reads)) lines.numbers
            (all_other_along later has (λ n b h. keeps n b (c.in_ok-table.ensures.keeps n b h)) digests entries lines.numbers (lines.other yes).0),
        (lines.other yes).1,
      );
      none = lines.none;
    })
    listed
