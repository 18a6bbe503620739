use Rattle.package_check.proofs.Common.{Bool, List, [], Ok, ap, subst, sym, if◌then◌else◌, err_from_is_err_and, GridRules, Answers, Profile, left_pads, ReadsKeptIn, Drilled, HasTriedIn, JudgesCopper, Judged}
use Rattle.layer_features.specs.declared.keep.Keep.TheVariants as keep
use Rattle.package_check.proofs.JudgedCopper.{rest_fault}
use Rattle.package_check.proofs.indexed_holes.IndexedHoles.judge.Goals as goal

pub returns-in_err-rest-clause-judged : goal.returns-in_err-rest-clause-judged
returns-in_err-rest-clause-judged c = λ text before.
    let p = err_from_is_err_and c.from_residual.result c.from_residual.ensures.1 in
    let old = c.args.self.now in
    rw (p.1, p.2) (rest_fault old.rules old.holes c.args.layer text (left_pads c.args.reader before.taken) c.in_err-rest.field-0.0 (c.in_err-rest.ensures.exact old.rules.profile keep.Pads before.taken text before.read))

pub returns-clause-judged : goal.returns-clause-judged
returns-clause-judged c = λ text before.
    let old = c.args.self.now in
    let mid = c.forget_where.new.self in
    let left = left_pads c.args.reader before.taken in
    let tried : HasTriedIn mid.holes mid.index c.args.layer left mid.search = subst (λ (b : Bool). HasTriedIn mid.holes mid.index c.args.layer (if b then [] else before.taken) mid.search) c.are_forgotten.ensures (c.forget_where.ensures.tried c.args.layer before.taken before.tried) in
    let read = c.in_ok-rest.ensures.exact old.rules.profile keep.Pads before.taken text before.read in
    let there = c.judge_rest-judged.ensures.judged text left (subst (λ (q : Profile). ReadsKeptIn q keep.Pads left text (Ok c.in_ok-rest.rest)) (sym (ap (λ (r : GridRules). r.profile) c.forget_where.ensures.rules)) read) tried in
    subst (λ (hs : List Drilled). Answers {T = Judged} (λ x. x) (JudgesCopper old.rules hs c.args.layer text) c.judge_rest-judged.result) c.forget_where.ensures.holes
    (subst (λ (r : GridRules). Answers {T = Judged} (λ x. x) (JudgesCopper r mid.holes c.args.layer text) c.judge_rest-judged.result) c.forget_where.ensures.rules there)
