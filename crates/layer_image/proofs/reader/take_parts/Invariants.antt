use Rattle.layer_image.proofs.Common.{◌≤◌, ◌-◌, ◌++◌, ℕ, List, length, take, Profile, WidePad, Keep, HasMetText}
use Rattle.layer_image.proofs.reader.take_parts.Given as goal

abbrev pub invariant-loop-taken : goal.invariant-loop-taken
invariant-loop-taken g l = record {
  within : l.taken ≤ length l.piece;
  stands : (profile : Profile) (keep : Keep) (taken : List WidePad) (text : List ℕ) → HasMetText (g.C.CommandSink.has_met profile keep taken) l.initial.words l.initial.content profile text → HasMetText (g.C.CommandSink.has_met profile keep taken) l.words l.content profile (text ++ take l.taken l.piece);
}

abbrev pub decreases-loop-taken : goal.decreases-loop-taken
decreases-loop-taken g l = length l.piece - l.taken
