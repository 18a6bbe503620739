use Rattle.macro_shapes.proofs.Common.{◌≡◌, ◌-◌, ◌∙◌, ℕ, List, take, drop, sym, ap, None, Some, arith, option_map, lookup, state, step}
use Rattle.macro_shapes.proofs.ScanLemmas.{byte_on, sign_on, sign_fails, text_ends, slice_is, rest_is}
use Rattle.macro_shapes.proofs.expression.scan.Goals as goal

pub loop-i-preserved-in_default : goal.loop-i-preserved-in_default
loop-i-preserved-in_default c = record {
  within = omega (arith, c.loop-i.invariant.within);
  same = byte_on (lookup c.args.known.now) (state c.loop-i.reading) c.args.text.now c.loop-i.begin c.loop-i.i 0 c.loop-i.invariant.within c.loop-i-test.true (sym c.sign_of.ensures ∙ c.in_default.is) ∙ c.loop-i.invariant.same;
}

pub returns-in_err-step : goal.returns-in_err-step
returns-in_err-step c =
    let variables = lookup c.args.known.now in
    let s = state c.loop-i.reading in
    let failed : step variables s (take (c.loop-i.i - c.loop-i.begin) (drop c.loop-i.begin c.args.text.now)) c.in-Some.sign ≡ None = c.in_err-step.ensures in
    let fails = sign_fails variables s c.args.text.now c.loop-i.begin c.loop-i.i 0 c.in-Some.sign c.loop-i-test.true (sym c.sign_of.ensures ∙ c.in-Some.is)
    (ap (λ l. step variables s l c.in-Some.sign) (sym (slice_is c.args.text.now c.loop-i.begin c.loop-i.i c.loop-i.invariant.within)) ∙ failed) in
    ap (option_map _) c.from_residual.ensures ∙ (sym fails ∙ c.loop-i.invariant.same)

pub loop-i-preserved : goal.loop-i-preserved
loop-i-preserved c =
    let variables = lookup c.args.known.now in
    let s = state c.loop-i.reading in
    let gone : step variables s (take (c.loop-i.i - c.loop-i.begin) (drop c.loop-i.begin c.args.text.now)) c.in-Some.sign ≡ Some (state c.step.new.self) = c.in_ok-step.ensures in
    record {
      within = omega arith;
      same = sign_on variables s (state c.step.new.self) c.args.text.now c.loop-i.begin c.loop-i.i 0 c.in-Some.sign c.loop-i-test.true (sym c.sign_of.ensures ∙ c.in-Some.is)
          (ap (λ l. step variables s l c.in-Some.sign) (sym (slice_is c.args.text.now c.loop-i.begin c.loop-i.i c.loop-i.invariant.within)) ∙ gone)
          ∙ c.loop-i.invariant.same;
    }

pub returns : goal.returns
returns c =
    let variables = lookup c.args.known.now in
    let s = state c.loop-i.reading in
    ap (λ (last : List ℕ). Some (s, last)) (rest_is c.args.text.now c.loop-i.begin c.loop-i.i c.loop-i-test.false)
    ∙ (sym (text_ends variables s c.args.text.now c.loop-i.begin c.loop-i.i c.loop-i-test.false) ∙ c.loop-i.invariant.same)
