use Rattle.layer_image.proofs.Common.{◌++◌, List, take, Entries, WidePad, Profile, Keep, HasMetLegal}
use Rattle.layer_image.proofs.met.MetCommandSink.take_commands.Given as goal

abbrev pub invariant-loop-entry : goal.invariant-loop-entry
invariant-loop-entry l = (profile : Profile) (keep : Keep) (taken : List WidePad) (before : Entries) → HasMetLegal profile keep taken l.initial.self before → HasMetLegal profile keep taken l.self (before ++ take l.entry-index l.entries)
