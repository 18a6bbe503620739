use Rattle.ringcheck.proofs.Common.{◌≡◌, ◌∙◌, ap, arith, length, refl, subst, sym, slice_get_read, HasTakenHashed, LoadsKind, is_kind_of}
use Rattle.package_check.specs.Holding.{setting_of}
use Rattle.ringcheck.proofs.LoadedFiles.{halts_since, kind_passed, none_yet, reader_loaded}
use Rattle.ringcheck.proofs.load_package.take_kind.Goals as goal
use Rattle.ringcheck.proofs.load_package.take_kind.Goals.{then-is_kind+in_ok-halt+in_default, else-is_kind}

pub loop-index-init : goal.loop-index-init
loop-index-init g c = record {
  keeps = λ n b. (λ h. h, λ h. h);
  counted = omega arith;
  setting = refl;
  loaded = λ profile all keep done first read_in new h. none_yet (g.L.Loader.has c.args.loader.now) profile all c.args.copper (HasTakenHashed c.args.reader.now keep c.args.digests.now) done h;
}

pub loop-index-preserved : goal.loop-index-preserved
loop-index-preserved g c =
    let entries = c.args.entries.now in
    let has = g.L.Loader.has c.args.loader.now in
    let copper = c.args.copper in
    let k = c.loop-index.index in
    let entry = c.index-entries-index.result in
    let inv = c.loop-index.invariant in
    let here = slice_get_read entries _ k entry refl c.loop-index-test.true c.index-entries-index.is in
    elim c.if-is_kind.branch [
      | then-is_kind+in_ok-halt+in_default w ↦
          let one = w.in_ok-halt.ensures in
          let kind = sym c.is_kind.ensures ∙ w.if-is_kind.true in
          let (bytes, held, takes, hashed) = rw w.in_default.is at one.taken in
          record {
            keeps = λ n b. rw w.loader-is (λ h. (inv.keeps n b).0 ((one.keeps n b).0 h), λ h. (one.keeps n b).1 ((inv.keeps n b).1 h));
            counted = rw w.loader-is (omega (arith, one.counts, inv.counted));
            setting = ap setting_of w.reader-is ∙ (one.setting ∙ inv.setting);
            loaded = λ profile all keep done first read_in new h.
                let at = first k entry here in
                rw (w.reader-is, w.digests-is)
                (reader_loaded has profile all keep copper c.loop-index.reader w.take_file.new.reader c.loop-index.digests w.take_file.new.digests done k entry at kind (inv.setting ∙ read_in) (new k (ap (is_kind_of copper) at ∙ kind))
                (bytes, ((inv.keeps entry.file bytes).0 held.0, held.1), takes, hashed) (inv.loaded profile all keep done first read_in new h));
          }
      | else-is_kind w ↦
          let kind = sym c.is_kind.ensures ∙ w.if-is_kind.false in
          record {
            keeps = λ n b. rw w.loader-is (inv.keeps n b);
            counted = rw w.loader-is inv.counted;
            setting = ap setting_of w.reader-is ∙ inv.setting;
            loaded = λ profile all keep done first read_in new h.
                rw (w.reader-is, w.digests-is)
                (kind_passed has profile all copper (HasTakenHashed c.loop-index.reader keep c.loop-index.digests) done k entry (first k entry here) kind (inv.loaded profile all keep done first read_in new h));
          }
    ]

pub returns : goal.returns
returns g c =
    let inv = c.loop-index.invariant in
    let has = g.L.Loader.has c.args.loader.now in
    let size : c.loop-index.index ≡ length c.args.entries.now = omega (arith, c.loop-index-test.false, c.loop-index.auto.index-end) in
    record {
      keeps = inv.keeps;
      counts = inv.counted;
      setting = inv.setting;
      within = omega arith;
      ends = refl;
      loaded = subst (LoadsKind has c.args.entries.now c.args.reader.now c.loop-index.reader c.args.digests.now c.loop-index.digests c.args.copper) size inv.loaded;
    }

pub returns-in-Some : goal.returns-in-Some
returns-in-Some g c =
    let inv = c.loop-index.invariant in
    let one = c.in_ok-halt.ensures in
    let has = g.L.Loader.has in
    let failed = g.L.Loader.failed in
    let k = c.loop-index.index in
    let entry = c.index-entries-index.result in
    let (halts, same, same') = rw c.in-Some.is at one.taken in
    record {
      keeps = λ n b. (λ h. (inv.keeps n b).0 ((one.keeps n b).0 h), λ h. (one.keeps n b).1 ((inv.keeps n b).1 h));
      counts = omega (arith, one.counts, inv.counted);
      setting = one.setting ∙ inv.setting;
      within = omega (arith, c.loop-index-test.true);
      ends = (
        entry,
        slice_get_read c.args.entries.now _ k entry refl c.loop-index-test.true c.index-entries-index.is,
        halts_since (has c.loop-index.loader) (has c.args.loader.now) (λ n b. (inv.keeps n b).0) k entry (failed c.args.loader.now) (failed c.loop-index.loader) (failed c.take_file.new.loader) inv.counted c.in-Some.halt halts,
      );
      loaded = rw (same, same') inv.loaded;
    }
