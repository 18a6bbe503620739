use Rattle.package_check.proofs.Common.{◌∙◌, List, Option, Ok, Err, ap, length, subst, sym, Answers, Drilled, CheckView, is_drill_in, IsPutAt, ReadsInto, kept_at, Judges, HasReadCopper, unnamed_file, Judged}
use Rattle.manifest.specs.declared.Role.TheVariants as role
use Rattle.package_check.specs.CheckViews.{holes_of, setting_of}
use Rattle.package_check.proofs.CheckSteps.{layer_put, puts_none, same_slots}
use Rattle.package_check.proofs.checking.PackageCheck.put_file.Goals as goal

pub returns-in-Err-clause-read : goal.returns-in-Err-clause-read
returns-in-Err-clause-read c = λ said text h free.
    let old = c.args.self.now in
    let file = c.args.file in
    let e = c.in-Err.fail in
    let read = subst (λ (v : CheckView). HasReadCopper (holes_of v) file.layer said old.layers file.reading text) (sym c.self.view_is) h in
    let fault = subst (λ (v : CheckView). Answers {T = Judged} (λ one. one) (Judges v.rules v.holes file.layer (unnamed_file role.Copper said (record { layers = old.layers; profile = v.rules.profile }) text)) (Err e)) c.self.view_is (c.in-Err.ensures.judged said old.layers text read) in
    let source = unnamed_file role.Copper said (setting_of old) text in
    subst (λ (ss : List (Option Judged)). ReadsInto {X = Judged} (λ one. Judges old.rules old.holes file.layer source (Ok one)) file.index source old.slots ss (Err e)) (sym (ap (λ (v : CheckView). v.slots) c.self.view_is))
    (puts_none old.rules old.holes file.layer file.index old.layers said text old.slots e fault)

pub invariant_of-self-in-Err : goal.invariant_of-self-in-Err
invariant_of-self-in-Err c = c.self.invariant ∙ ap (λ (hs : List Drilled). length hs) (sym c.finish.ensures.holes)

pub invariant_of-self : goal.invariant_of-self
invariant_of-self c = c.self.invariant ∙ ap (λ (hs : List Drilled). length hs) (sym c.finish.ensures.holes)

pub invariant_of-self-in_err-put-in-Ok-2 : goal.invariant_of-self-in_err-put-in-Ok-2
invariant_of-self-in_err-put-in-Ok-2 c = same_slots c.self.inside.slots.items c.put.new.slots.items c.in_err-put-in-Ok-2.ensures.same ∙ (c.self.invariant ∙ ap (λ (hs : List Drilled). length hs) (sym c.finish.ensures.holes))

pub invariant_of-self-in-Ok-2 : goal.invariant_of-self-in-Ok-2
invariant_of-self-in-Ok-2 c =
    let inside = c.self.inside in
    let index = c.args.file.index in
    let free = sym (ap (λ (os : List (Option Judged)). is_drill_in (kept_at os index)) c.deref.ensures.value) ∙ (sym c.has_drill.ensures ∙ c.if-has_drill.false) in
    layer_put inside.slots.items c.put.new.slots.items index c.in-Ok.judged c.in_ok-put-in-Ok-2.ensures.put free c.in-Ok.ensures.layer ∙ (c.self.invariant ∙ ap (λ (hs : List Drilled). length hs) (sym c.finish.ensures.holes))

pub returns-in_ok-put-in-Ok-2-clause-read : goal.returns-in_ok-put-in-Ok-2-clause-read
returns-in_ok-put-in-Ok-2-clause-read c = λ said text h free.
    let old = c.args.self.now in
    let file = c.args.file in
    let one = c.in-Ok.judged in
    let read = subst (λ (v : CheckView). HasReadCopper (holes_of v) file.layer said old.layers file.reading text) (sym c.self.view_is) h in (
      one,
      subst (λ (v : CheckView). Judges v.rules v.holes file.layer (unnamed_file role.Copper said (record { layers = old.layers; profile = v.rules.profile }) text) (Ok one)) c.self.view_is (c.in-Ok.ensures.judged said old.layers text read),
      subst (λ (v : CheckView). IsPutAt file.index one v.slots c.put.new.slots.items) c.self.view_is c.in_ok-put-in-Ok-2.ensures.put,
    )
