use Rattle.layer_image.proofs.Common.{subst, sym, without_places, flashes_of, left_pads, without_flashes, IsKeptOf, KeptLayer}
use Rattle.layer_image.proofs.KeptLemmas.{kept_by_features}
use Rattle.layer_image.proofs.content.layer_of_features.Goals as goal

pub returns : goal.returns
returns c keep taken entries is h given =
    let copper = c.in_ok-parts.ensures keep taken (without_places entries) h.copper in
    let scanned = c.finish-scanned.ensures (without_flashes c.args.profile (flashes_of (without_places entries))) entries h.scanned in
    let parts = c.in_ok-parts.parts in
    let strict = c.strict_counts.ensures (without_flashes c.args.profile (flashes_of (without_places entries))) (without_places entries) scanned in
    let left = left_pads c.args.met.copper.kept taken in
    subst (λ (kept : KeptLayer). IsKeptOf c.args.profile keep left entries kept) (λ i. record {
      commands = c.args.commands.items;
      flashes = sym c.new.ensures.items i;
      pads = sym c.new-2.ensures.items i;
      wide_pads = parts.pads.items;
      features = parts.features.items;
      drawn = parts.drawn.items;
      counts = c.counts_in-counts.result;
      file_function = c.finish-scanned.result.file_function;
    }) (kept_by_features c.args.profile keep left entries c.args.commands.items parts c.finish-scanned.result.file_function c.counts_in-counts.result c.strict_counts.result is copper strict c.counts_in-counts.ensures.strict c.counts_in-counts.ensures.wide scanned.named given)
