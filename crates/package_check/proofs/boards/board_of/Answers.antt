use Rattle.package_check.proofs.Common.{◌≡◌, List, Option, ap, length, map, rules, sym, ◌∙◌, flat_map, sum_by, Kept, contents_in, drilled_in, hole_count, layer_indexes, layer_indexes_in, pads_of, shown_in, sum_of, YieldsList-from_vec, YieldsList-end, map-id, into_iter_len}
use Rattle.package_check.proofs.BoardsLemmas.{all_counted}
use Rattle.package_check.proofs.DrillSlots.{slot_holes}
use Rattle.package_check.proofs.JudgedLayers.{indexes_from}
use Rattle.package_check.proofs.boards.board_of.Goals as goal

pub new-requires : goal.new-requires
new-requires c =
    let so = c.loop-slot.invariant in
    let kept = c.loop-slot.yielded in
    ap (sum_by hole_count) so.files ∙ (all_counted (flat_map contents_in kept) ∙ sym (ap length (so.holes ∙ slot_holes kept)))

pub returns : goal.returns
returns c =
    let so = c.loop-slot.invariant in
    let kept = c.loop-slot.yielded in
    let len : into_iter_len c.into_iter-slot-iterator.result ≡ length c.args.slots.items = search rules in
    let end = YieldsList-end (YieldsList-from_vec c.args.slots.items c.into_iter-slot-iterator.ensures.into_iter_gives.0 len) kept c.loop-slot.slot-iterator c.loop-slot.yielded_by c.next.result c.next.new.self c.in-None.is c.next.ensures.steps in
    let all : kept ≡ c.args.slots.items = sym (map-id kept) ∙ end.0 in
    let contents = λ (ks : List (Option Kept)). flat_map contents_in ks in
    c.new.ensures
    ∙ (λ i. record {
      files = (so.files ∙ ap (λ (ks : List (Option Kept)). map sum_of (contents ks)) all) i;
      layers = (so.layers ∙ ap (λ (ks : List (Option Kept)). flat_map pads_of (contents ks)) all) i;
      layer_indexes = (c.in_ok-layer_indexes.ensures ∙ (ap layer_indexes_in (c.deref-2.ensures.value ∙ so.files) ∙ (indexes_from 0 (contents kept) ∙ ap (λ (ks : List (Option Kept)). layer_indexes (contents ks)) all))) i;
      holes = (so.holes ∙ (slot_holes kept ∙ ap (λ (ks : List (Option Kept)). flat_map drilled_in (contents ks)) all)) i;
      rows = map (λ one. one.rows.items) ((so.shown ∙ ap (flat_map shown_in) all) i);
      macros = map (λ one. one.macros.items) ((so.shown ∙ ap (flat_map shown_in) all) i);
      contours = map (λ one. one.contours.items) ((so.shown ∙ ap (flat_map shown_in) all) i);
      drawn = map (λ one. one.drawn.items) ((so.shown ∙ ap (flat_map shown_in) all) i);
    })
