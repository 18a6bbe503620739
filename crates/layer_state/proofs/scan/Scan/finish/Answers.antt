use Rattle.layer_state.proofs.scan.Scan.finish.Goals as goal

pub returns : goal.returns
returns c parts entries h =
    let flashes = h.met.is_state.flashes in
    record { flashes = flashes.all; pads = flashes.pads; pad_count = c.pad_count-pad_count.ensures parts _ flashes; other = flashes.others; named = h.met.named }
