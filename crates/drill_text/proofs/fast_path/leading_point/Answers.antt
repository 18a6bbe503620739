use Rattle.drill_text.proofs.fast_path.leading_point.Goals as goal

pub returns-then-rest-bytes : goal.returns-then-rest-bytes
returns-then-rest-bytes c = (c.leading_decimal-x.result.1.now, c.leading_decimal-x.ensures c.args.settings.now, c.leading_decimal-y.ensures c.args.settings.now)
