use Rattle.layer_image.proofs.reader.LayerReader.clear_pads.Goals as goal

pub returns-clause-gone : goal.returns-clause-gone
returns-clause-gone c profile keep taken text h = record {
  sound = h.sound;
  same = h.same;
  same_profile = h.same_profile;
  gone = h.gone;
  words = h.words;
  none = h.none;
  content = c.clear_pads.ensures.gone profile keep taken h.gone h.content;
  kept = h.kept;
}
