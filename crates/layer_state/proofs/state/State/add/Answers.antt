use Rattle.layer_state.proofs.StateLemmas.{at_point}
use Rattle.layer_state.proofs.state.State.add.Goals as goal

pub returns-clause-state_of : goal.returns-clause-state_of
returns-clause-state_of c action i j = at_point c.args.self.now c.set_point.new.self action c.args.x c.args.y i j (c.set_point.ensures action i j)
