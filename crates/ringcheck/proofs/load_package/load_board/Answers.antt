use Rattle.ringcheck.proofs.Common.{List, [], ℕ, ap, subst, ◌∙◌, IfOk-weaker, HasRisen, IsBoard, Returns, Setting, sources}
use Rattle.package_check.specs.Boards.{IsDrawnBoard, IsFlashedBoard}
use Rattle.ringcheck.specs.Inner.Loading.{IsKeptBoard}
use Rattle.ringcheck.proofs.LoadedFiles.{IsEnd, passes_end}
use Rattle.ringcheck.proofs.Outcomes.{of_read}
use Rattle.ringcheck.proofs.load_package.load_board.Given as given
use Rattle.ringcheck.proofs.load_package.load_board.Goals as goal
use Rattle.ringcheck.proofs.load_package.load_board.Goals.{After-or}

-- what came of both passes
ended : (g : given.Over) (c : After-or g) → IsEnd (g.L.Loader.has c.args.loader.now) c.args.profile c.args.entries.now c.args.keep c.take_kind-2.new.reader (HasRisen (g.L.Loader.failed c.args.loader.now) (g.L.Loader.failed c.take_kind-2.new.loader)) c.or.result
ended g c =
    let has = g.L.Loader.has in
    let failed = g.L.Loader.failed in
    let one = c.in_ok-drills.ensures in
    let two = c.in_ok-copper.ensures in
    let read_in = c.keeping-reader.ensures.setting ∙ ap (λ (n : ℕ). let s : Setting = record { layers = n; profile = c.args.profile } in s) c.layer_count.ensures in
    rw c.or.ensures (passes_end (has c.args.loader.now) (has c.take_kind.new.loader) one.keeps c.args.profile c.args.entries.now c.args.keep c.keeping-reader.result c.take_kind.new.reader c.take_kind-2.new.reader (let none : List (List ℕ) = [] in none) c.take_kind.new.digests c.take_kind-2.new.digests
    c.in_ok-drills.drills.end c.in_ok-copper.copper.end (failed c.args.loader.now) (failed c.take_kind.new.loader) (failed c.take_kind-2.new.loader) read_in one.setting c.keeping-reader.ensures.stands one.loaded two.loaded
    one.counts two.counts one.within two.within c.in_ok-drills.drills.halt c.in_ok-copper.copper.halt one.ends two.ends)

pub returns-in-Some : goal.returns-in-Some
returns-in-Some g c = rw c.in-Some.is at (ended g (goal.at.returns-in-Some g c).After-or)

pub returns : goal.returns
returns g c =
    let has = g.L.Loader.has c.args.loader.now in
    let all = c.args.entries.now in
    let (files, held, stood) = rw c.in_default.is at (ended g (goal.at.returns g c).After-or) in
    let views = sources c.args.profile all files in
    let exact = c.board.ensures.exact c.args.keep views stood in
    IfOk-weaker c.read_of.result _ _
    (of_read has c.args.profile all _ files (IsKeptBoard c.args.keep) held c.board.result
    (λ board is. record {
      is = subst (Returns IsBoard views) is exact;
      flashed = λ rows. subst (Returns IsFlashedBoard views) is (c.board.ensures.flashes c.args.keep views stood rows);
      drawn = λ drawn. subst (Returns IsDrawnBoard views) is (c.board.ensures.drawn c.args.keep views stood drawn);
    })
    (λ index fault is. subst (Returns IsBoard views) is exact)) c.read_of.ensures
