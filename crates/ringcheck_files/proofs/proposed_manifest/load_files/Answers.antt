use Rattle.ringcheck_files.proofs.Common.{arith, ◌≡◌, ◌≤◌, is_ok, true, rules, ◌∷◌, [], ℕ, List, take, length, get_or, Bor, subst, length-take, take_all, take_more, HasAllLoaded, HasRisenBy, count_unread, loaded_files}
use Rattle.std.proofs.lemmas.List.{length-append}
use Rattle.ringcheck_files.proofs.ManifestStatus.{loaded_before, nothing, loaded_more, unread_more}
use Rattle.ringcheck_files.proofs.proposed_manifest.load_files.Goals as goal

pub loop-name-preserved : goal.loop-name-preserved
loop-name-preserved g c =
    let inv = c.loop-name.invariant in
    let good : is_ok c.push.result ≡ true = search rules in
    let items = rw good at c.push.ensures.items in
    let names = c.args.names.now in
    let i = c.loop-name.name-index in
    let name = get_or names i nothing in
    let more = take_more names i nothing c.loop-name-test.true in
    let sum = inv.many in
    let many : length (take i names) ≡ length c.loop-name.all.items = omega (arith, length-take i names, sum) in
    let here = loaded_before (g.L.Loader.has c.loop-name.loader) (g.L.Loader.has c.args.loader.now) (λ n b. (inv.keeps n b).0) name.now _ c.in_ok-loaded.ensures.ok in
    record {
      keeps = λ n b. ((λ h. (inv.keeps n b).0 ((c.load_file.ensures.keeps n b).0 h)), (λ h. (c.load_file.ensures.keeps n b).1 ((inv.keeps n b).1 h)));
      many = rw items (omega (arith, length-append c.loop-name.all.items (c.in_ok-loaded.loaded ∷ []), sum));
      counted = rw (items, more) (unread_more (take i names) c.loop-name.all.items name c.in_ok-loaded.loaded (g.L.Loader.failed c.args.loader.now) (g.L.Loader.failed c.loop-name.loader) (g.L.Loader.failed c.load_file.new.loader) many
          c.load_file.ensures.counts inv.counted c.in_ok-loaded.ensures.unread);
      loaded = rw (items, more) (loaded_more (g.L.Loader.has c.args.loader.now) (take i names) c.loop-name.all.items name c.in_ok-loaded.loaded many inv.loaded here);
    }

pub returns : goal.returns
returns g c =
    let names = c.args.names.now in
    let i = c.loop-name.name-index in
    let sum = c.loop-name.invariant.many in
    let end : i ≤ length names = c.loop-name.auto.name-index-end in
    let stop : length names ≤ i = c.loop-name-test.false in (
      subst (λ (ns : List (Bor (List ℕ))). HasAllLoaded (g.L.Loader.has c.args.loader.now) (loaded_files ns c.loop-name.all.items)) (take_all i names stop) c.loop-name.invariant.loaded,
      omega (arith, sum, end, stop),
      subst (λ (ns : List (Bor (List ℕ))). HasRisenBy (count_unread (loaded_files ns c.loop-name.all.items)) (g.L.Loader.failed c.args.loader.now) (g.L.Loader.failed c.loop-name.loader)) (take_all i names stop) c.loop-name.invariant.counted,
    )
