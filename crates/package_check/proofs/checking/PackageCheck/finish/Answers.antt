use Rattle.package_check.proofs.Common.{ap, sym, ◌∙◌, Ok, Err, CheckView, left_report}
use Rattle.package_check.proofs.AnswerLemmas.{just, legal, named, passed}
use Rattle.package_check.proofs.JudgedLayers.{judged_report, judged_stop}
use Rattle.package_check.proofs.checking.PackageCheck.finish.Goals as goal

pub returns-in-Some-clause-exact : goal.returns-in-Some-clause-exact
returns-in-Some-clause-exact c sources rules all = judged_stop c.args.self sources rules all c.in-Some.fault (sym (ap (λ (v : CheckView). v.stopped) c.self.view_is) ∙ c.in-Some.is)

pub returns-in-Some-clause-only : goal.returns-in-Some-clause-only
returns-in-Some-clause-only c sources rules answer all is = just sources rules c.unique_answer.ensures (Err c.in-Some.fault) (returns-in-Some-clause-exact c sources rules all) answer is

pub returns-in-Ok-clause-exact : goal.returns-in-Ok-clause-exact
returns-in-Ok-clause-exact c sources rules all =
    judged_report c.args.self sources rules all c.unique_reading.ensures (sym (ap (λ (v : CheckView). v.stopped) c.self.view_is) ∙ c.in-None.is) c.in-Ok.report
    (c.in-Ok.ensures ∙ ap (λ (v : CheckView). left_report v.rules v.holes v.slots) c.self.view_is)

pub returns-in-Ok-clause-only : goal.returns-in-Ok-clause-only
returns-in-Ok-clause-only c sources rules answer all is = just sources rules c.unique_answer.ensures (Ok c.in-Ok.report) (returns-in-Ok-clause-exact c sources rules all) answer is

pub returns-in-Ok-clause-places : goal.returns-in-Ok-clause-places
returns-in-Ok-clause-places c sources rules all = named sources rules c.findings_name_their_places.ensures (Ok c.in-Ok.report) (returns-in-Ok-clause-exact c sources rules all)

pub returns-in-Ok-clause-legal : goal.returns-in-Ok-clause-legal
returns-in-Ok-clause-legal c sources rules all = legal sources rules (Ok c.in-Ok.report) (returns-in-Ok-clause-exact c sources rules all)

pub returns-in-Ok-clause-sound : goal.returns-in-Ok-clause-sound
returns-in-Ok-clause-sound c sources rules all = passed sources rules c.passing_is_sound.ensures (Ok c.in-Ok.report) (returns-in-Ok-clause-exact c sources rules all)
