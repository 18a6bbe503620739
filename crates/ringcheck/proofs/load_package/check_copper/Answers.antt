use Rattle.ringcheck.proofs.Common.{◌≡◌, ◌∙◌, ◌+◌, ℕ, ap, arith, length, refl, subst, sym, true, slice_get_read, Entry, setting_of, is_copper, HasJudgedHashed, LoadsCopperTo, is_kind_of}
use Rattle.std.proofs.lemmas.List.Sums.{count_by_more_no, count_by_more_yes}
use Rattle.ringcheck.proofs.LoadedFiles.{copper_loaded, halts_since, kind_passed, none_yet}
use Rattle.ringcheck.proofs.load_package.check_copper.Goals as goal
use Rattle.ringcheck.proofs.load_package.check_copper.Goals.{then-is_copper+in_ok-checked+in-Ok, else-is_copper}

pub loop-index-init : goal.loop-index-init
loop-index-init g c = record {
  keeps = λ n b. (λ h. h, λ h. h);
  counted = omega arith;
  setting = refl;
  number = refl;
  few = omega arith;
  loaded = λ profile rules done read_in new h. none_yet (g.L.Loader.has c.args.loader.now) profile c.args.entries.now true (HasJudgedHashed c.args.check rules c.args.digests.now) done h;
}

pub loop-index-preserved : goal.loop-index-preserved
loop-index-preserved g c =
    let entries = c.args.entries.now in
    let has = g.L.Loader.has c.args.loader.now in
    let k = c.loop-index.index in
    let entry = c.index-entries-index.result in
    let inv = c.loop-index.invariant in
    let few = inv.few in
    let at = slice_get_read entries _ k entry refl c.loop-index-test.true c.index-entries-index.is in
    elim c.if-is_copper.branch [
      | then-is_copper+in_ok-checked+in-Ok w ↦
          let one = w.in_ok-checked.ensures in
          let copper = sym c.is_copper.ensures ∙ w.if-is_copper.true in
          let ((bytes, held, takes, hashed), same_setting) = rw w.in-Ok.is at one.taken copper in
          let layer_is = w.layer-is in
          record {
            keeps = λ n b. rw w.loader-is (λ h. (inv.keeps n b).0 ((one.keeps n b).0 h), λ h. (one.keeps n b).1 ((inv.keeps n b).1 h));
            counted = rw w.loader-is (omega (arith, one.counts, inv.counted));
            setting = ap setting_of w.check-is ∙ (same_setting ∙ inv.setting);
            number = w.layer-is ∙ (ap (λ (n : ℕ). n + 1) inv.number ∙ sym (count_by_more_yes (λ (e : Entry). is_copper e.role) entries k entry c.loop-index-test.true (ap (λ (e : Entry). is_copper e.role) (sym c.index-entries-index.is) ∙ copper)));
            few = omega (arith, few, layer_is);
            loaded = λ profile rules done read_in new h.
                rw (w.check-is, w.digests-is)
                (copper_loaded has profile entries rules c.loop-index.check w.in-Ok.checked c.loop-index.digests w.check_file.new.digests done k c.loop-index.layer entry at copper (inv.setting ∙ read_in) (new k (ap (is_kind_of true) at ∙ copper)) inv.number
                (bytes, ((inv.keeps entry.file bytes).0 held.0, held.1), takes, hashed) (inv.loaded profile rules done read_in new h));
          }
      | else-is_copper w ↦
          let drill = sym c.is_copper.ensures ∙ w.if-is_copper.false in
          let layer_is = w.layer-is in
          record {
            keeps = λ n b. rw w.loader-is (inv.keeps n b);
            counted = rw w.loader-is inv.counted;
            setting = ap setting_of w.check-is ∙ inv.setting;
            number = w.layer-is ∙ (inv.number ∙ sym (count_by_more_no (λ (e : Entry). is_copper e.role) entries k entry c.loop-index-test.true (ap (λ (e : Entry). is_copper e.role) (sym c.index-entries-index.is) ∙ drill)));
            few = omega (arith, few, layer_is);
            loaded = λ profile rules done read_in new h.
                rw (w.check-is, w.digests-is)
                (kind_passed has profile entries true (HasJudgedHashed c.loop-index.check rules c.loop-index.digests) done k entry at drill (inv.loaded profile rules done read_in new h));
          }
    ]

pub returns-clause-taken : goal.returns-clause-taken
returns-clause-taken g c =
    let entries = c.args.entries.now in
    let at_end : c.loop-index.index ≡ length entries = omega (arith, c.loop-index.auto.index-end, c.loop-index-test.false) in
    subst (λ (n : ℕ). LoadsCopperTo (g.L.Loader.has c.args.loader.now) entries c.args.check c.loop-index.check c.args.digests.now c.loop-index.digests n) at_end c.loop-index.invariant.loaded

pub returns-in-Err-clause-taken : goal.returns-in-Err-clause-taken
returns-in-Err-clause-taken g c =
    let entry = c.index-entries-index.result in
    let has = g.L.Loader.has in
    let failed = g.L.Loader.failed in
    let old = c.args.loader.now in
    let between = c.loop-index.loader in
    let new = c.check_file.new.loader in
    let inv = c.loop-index.invariant in
    let k = c.loop-index.index in
    let at = slice_get_read c.args.entries.now _ k entry refl c.loop-index-test.true c.index-entries-index.is in
    let halts = rw c.in-Err.is at c.in_ok-checked.ensures.taken (sym c.is_copper.ensures ∙ c.if-is_copper.true) in (
      k,
      (entry, at, halts_since (has between) (has old) (λ n b. (inv.keeps n b).0) k entry (failed old) (failed between) (failed new) inv.counted c.in-Err.halt halts),
      c.loop-index.check,
      c.loop-index.digests,
      inv.loaded,
    )
