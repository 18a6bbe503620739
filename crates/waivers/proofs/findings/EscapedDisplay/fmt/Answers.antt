use Rattle.waivers.proofs.Common.{◌∙◌, ◌++◌, ◌∷◌, [], Some, ap, arith, refl, rules, sym, has_written_append, has_written_of_eq, default_writer, escaped}
use Rattle.std.proofs.lemmas.Str.Pattern.{split_parts}
use Rattle.waivers.proofs.Quoted.{escaped_more, escaped_same}
use Rattle.waivers.proofs.findings.EscapedDisplay.fmt.Goals as goal

pub quotes-preserved : goal.quotes-preserved
quotes-preserved g c =
    let parts = split_parts 34 c.quotes.rest.now (Some (c.in-Some.before, c.in-Some.after)) c.in-Some.ensures.cases (omega arith) in (
      λ plain.
          let was = c.quotes.invariant.0 plain in (
            was.0 ++ (c.in-Some.before.now ++ 34 ∷ 34 ∷ []),
            has_written_append _ _ _ _ _ _ was.1 (c.in_ok-write.ensures.writes was.1.plain refl),
            escaped_more (escaped default_writer c.args.self.now.0.now) was.0 c.quotes.rest.now c.in-Some.before.now c.in-Some.after.now parts.0 parts.1 was.2,
          ),
      search rules,
    )

pub returns-clause-writes : goal.returns-clause-writes
returns-clause-writes g c = λ plain ok.
    let lacks = rw c.in_default.is at (split_parts 34 c.quotes.rest.now c.split_once.result c.split_once.ensures.cases (omega arith)) in
    let was = c.quotes.invariant.0 plain in
    has_written_of_eq _ _ _ _ _ (ap (λ text. was.0 ++ text) (sym (escaped_same c.quotes.rest.now lacks)) ∙ sym was.2) (has_written_append _ _ _ _ _ _ was.1 (c.write_str.ensures.writes was.1.plain ok))
