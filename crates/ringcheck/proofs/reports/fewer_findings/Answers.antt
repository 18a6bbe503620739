use Rattle.ringcheck.proofs.Common.{◌≡◌, ◌∙◌, ◌&&◌, Bool, List, [], ◌∷◌, ap, map, not, refl, subst, sym, true, AllByRecursion, GridRules, Profile, Strict, Wide, FileView, IsFewer, has_none, says_fewer, ReportFormat}
use Rattle.std.proofs.Common.{ap₂}
use Rattle.board_report.specs.BoardReport.{IsBoardReport}
use Rattle.package_check.specs.Boards.{IsFlashedBoard}
use Rattle.package_check.specs.WiderProfile.{read_in}
use Rattle.ringcheck.specs.declared.parsed_words.ReportFormat.TheVariants as format
use Rattle.ringcheck.proofs.reports.fewer_findings.Goals as goal

-- a report asks in the strict profile alone
of_strict : (form : ReportFormat) (profile : Profile) (b : Bool) → (says_fewer form profile && b) ≡ true → profile ≡ Strict
of_strict form Strict b h = refl
of_strict format.Text Wide b h = absurd cc
of_strict format.Html Wide b h = absurd cc
of_strict format.Json Wide b h = absurd cc
of_strict format.Waivers Wide b h = absurd cc

-- files that are read in the strict profile
read_strictly : (all : List FileView) → AllByRecursion (λ source. source.setting.profile ≡ Strict) all → all ≡ map (read_in Strict) all
read_strictly [] h = refl
read_strictly (s ∷ ss) h = ap₂ (λ (x : FileView) (xs : List FileView). x ∷ xs) (ap (λ (p : Profile). let t : FileView = record { role = s.role; name = s.name; said = s.said; bytes = s.bytes; setting = record { layers = s.setting.layers; profile = p } } in t) h.0) (read_strictly ss h.1)

pub returns-then-not-asks_wide : goal.returns-then-not-asks_wide
returns-then-not-asks_wide c all read flashed made =
    let options = c.args.options.now in
    let asks = sym c.asks_wide.ensures ∙ c.if-not-asks_wide.true in
    subst (λ (b : Bool). IsFewer b all c.args.report.now 0) (sym asks) refl

pub returns : goal.returns
returns c all read flashed made =
    let options = c.args.options.now in
    let report = c.args.report.now in
    let asks = sym c.asks_wide.ensures ∙ c.if-not-asks_wide.false in
    let strict = subst (λ (p : Profile). AllByRecursion (λ (source : FileView). source.setting.profile ≡ p) all) (of_strict options.format options.rules.profile (not (has_none report)) asks) read in
    let strictly = subst (λ (xs : List FileView). IsFlashedBoard xs c.args.board.now) (read_strictly all strict) flashed in
    subst (λ (b : Bool). IsFewer b all report c.in_ok-fewer.fewer) (sym asks) (c.in_ok-fewer.ensures all strictly (subst (λ (r : GridRules). IsBoardReport r c.args.board.now report) (sym made.rules) made))
