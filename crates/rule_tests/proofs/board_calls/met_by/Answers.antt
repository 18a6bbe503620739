use Rattle.rule_tests.proofs.board_calls.met_by.Goals as goal

pub met_with_layer-rings-requires-clause-so_far : goal.met_with_layer-rings-requires-clause-so_far
met_with_layer-rings-requires-clause-so_far c = c.met_without_layers-none.ensures c.args.profile
