use Rattle.board.proofs.Common.{◌≡◌, ◌↔◌, ℕ, ℤ, pos, ◌+◌, ◌≤◌, ◌-ℤ◌, ◌≤ℤ◌, true, ap, ◌∙◌, square, square_of_cores, are_clear, IsGap}
use Rattle.board.proofs.GapsLemmas.{gap_exact, gap_same, root_of}
use Rattle.board.proofs.PassedIntegers.{on, natural}
use Rattle.board.proofs.gap.gap_between.Goals as goal

radii : (c : goal.After-less) → c.less.result ≡ pos c.length_rounded_down-cores.result -ℤ pos (c.args.a.now.radius + c.args.b.now.radius)
radii c =
    let a : c.unsigned_abs.result ≡ c.args.a.now.radius = natural c.radius.result c.args.a.now.radius c.unsigned_abs.result c.radius.type_inv c.radius.ensures.value c.unsigned_abs.ensures.value in
    let b : c.unsigned_abs-2.result ≡ c.args.b.now.radius = natural c.radius-2.result c.args.b.now.radius c.unsigned_abs-2.result c.radius-2.type_inv c.radius-2.ensures.value c.unsigned_abs-2.ensures.value in
    c.less.ensures ∙ (ap (λ (n : ℕ). pos c.length_rounded_down-cores.result -ℤ pos (n + c.unsigned_abs-2.result)) a ∙ ap (λ (n : ℕ). pos c.length_rounded_down-cores.result -ℤ pos (c.args.a.now.radius + n)) b)

cores : (c : goal.After-less) → (t : ℕ) → (square t ≤ square_of_cores c.args.a.now c.args.b.now) ↔ (t ≤ c.length_rounded_down-cores.result)
cores c = root_of c.core_distance_x.result c.core_distance_y.result _ _ c.length_rounded_down-cores.result c.core_distance_x.ensures.value c.core_distance_y.ensures.value c.length_rounded_down-cores.ensures.exact

pub returns-clause-exact : goal.returns-clause-exact
returns-clause-exact c =
    on (IsGap c.args.a.now c.args.b.now) c.less.result _ c.less.type_inv (radii c)
    (λ t. gap_exact (c.args.a.now.radius + c.args.b.now.radius) (square_of_cores c.args.a.now c.args.b.now) c.length_rounded_down-cores.result t (cores c t))

pub returns-clause-same : goal.returns-clause-same
returns-clause-same c =
    on (λ (z : ℤ). (gap : ℕ) → (are_clear gap c.args.a.now c.args.b.now ≡ true) ↔ (pos gap ≤ℤ z)) c.less.result _ c.less.type_inv (radii c)
    (λ gap. gap_same (c.args.a.now.radius + c.args.b.now.radius) (square_of_cores c.args.a.now c.args.b.now) c.length_rounded_down-cores.result gap (cores c))
