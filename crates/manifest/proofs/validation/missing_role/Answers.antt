use Rattle.manifest.proofs.Common.{◌≡◌, refl, rules, sym, tests, not, list_any, YieldsList-from_slice, any_from_yields_List}
use Rattle.manifest.specs.Manifest.{is_copper}
use Rattle.manifest.proofs.validation.missing_role.Goals as goal

pub returns-then-not-any : goal.returns-then-not-any
returns-then-not-any c =
    let copper : c.any.result ≡ list_any is_copper c.args.entries.now = any_from_yields_List is_copper _ _ _ c.any.ensures.ran (YieldsList-from_slice c.args.entries.now cc) (λ x b q k. search (rules, tests)) in
    rw (sym copper, c.if-not-any.true) refl

pub returns-then-not-any-2 : goal.returns-then-not-any-2
returns-then-not-any-2 c =
    let copper : c.any.result ≡ list_any is_copper c.args.entries.now = any_from_yields_List is_copper _ _ _ c.any.ensures.ran (YieldsList-from_slice c.args.entries.now cc) (λ x b q k. search (rules, tests)) in
    let drill : c.any-2.result ≡ list_any (λ entry. not (is_copper entry)) c.args.entries.now = any_from_yields_List (λ entry. not (is_copper entry)) _ _ _ c.any-2.ensures.ran (YieldsList-from_slice c.args.entries.now cc) (λ x b q k. search (rules, tests)) in
    rw (sym copper, c.if-not-any.false, sym drill, c.if-not-any-2.true) refl

pub returns : goal.returns
returns c =
    let copper : c.any.result ≡ list_any is_copper c.args.entries.now = any_from_yields_List is_copper _ _ _ c.any.ensures.ran (YieldsList-from_slice c.args.entries.now cc) (λ x b q k. search (rules, tests)) in
    let drill : c.any-2.result ≡ list_any (λ entry. not (is_copper entry)) c.args.entries.now = any_from_yields_List (λ entry. not (is_copper entry)) _ _ _ c.any-2.ensures.ran (YieldsList-from_slice c.args.entries.now cc) (λ x b q k. search (rules, tests)) in
    rw (sym copper, c.if-not-any.false, sym drill, c.if-not-any-2.false) refl
