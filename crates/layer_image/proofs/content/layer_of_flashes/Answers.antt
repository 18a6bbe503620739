use Rattle.layer_image.proofs.Common.{subst, sym, without_places, without_pads, IsKeptOf, KeptLayer}
use Rattle.layer_image.proofs.KeptLemmas.{kept_by_flashes}
use Rattle.layer_image.proofs.content.layer_of_flashes.Goals as goal

pub returns : goal.returns
returns c profile keep taken entries h given =
    let scanned = c.finish-scanned.ensures (without_pads profile h.kept h.plain_taken) entries h.scanned in
    let counts = c.strict_counts-counts.ensures (without_pads profile h.kept h.plain_taken) (without_places entries) scanned in
    subst (λ (kept : KeptLayer). IsKeptOf profile keep taken entries kept) (λ i. record {
      commands = c.args.commands.items;
      flashes = c.finish-scanned.result.flashes.items;
      pads = c.finish-scanned.result.pads.items;
      wide_pads = sym c.new.ensures.items i;
      features = sym c.new-2.ensures.items i;
      drawn = sym c.new-3.ensures.items i;
      counts = c.strict_counts-counts.result;
      file_function = c.finish-scanned.result.file_function;
    }) (kept_by_flashes profile keep taken h.kept h.plain_taken entries c.args.commands.items c.finish-scanned.result c.strict_counts-counts.result h.is h.same scanned counts given)
