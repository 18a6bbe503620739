use Rattle.ringcheck.proofs.Common.{None, Some, sym}
use Rattle.ringcheck.proofs.RequestLemmas.{certify_status, check_status, draw_status, explain_status, manifest_status, measure_status, report_status, rewrite_status, show_status, verify_status}
use Rattle.ringcheck.proofs.program.run.Goals as goal

pub returns-in-Ok-clause-report : goal.returns-in-Ok-clause-report
returns-in-Ok-clause-report g c zero r gap off wide profile limit waive outline format folder m words plain_r plain_gap plain_off plain_wide plain_profile plain_limit plain_waive plain_outline plain_format plain_folder plain_m =
    let (there, is) = c.in-Ok.ensures.report zero r gap off wide profile limit waive outline format folder m words plain_r plain_gap plain_off plain_wide plain_profile plain_limit plain_waive plain_outline plain_format plain_folder plain_m in
    rw (sym there) (report_status _ zero r gap off wide profile limit waive outline format m c.in-Ok.line.request _ _ _ _ _ is c.answer.ensures)

pub returns-in-Ok-clause-draw : goal.returns-in-Ok-clause-draw
returns-in-Ok-clause-draw g c rules profile outline folder m words plain_rules plain_profile plain_outline plain_folder plain_m =
    let (there, is) = c.in-Ok.ensures.draw rules profile outline folder m words plain_rules plain_profile plain_outline plain_folder plain_m in
    rw (sym there) (draw_status _ rules profile outline m c.in-Ok.line.request _ _ _ _ _ is c.answer.ensures)

pub returns-in-Ok-clause-check : goal.returns-in-Ok-clause-check
returns-in-Ok-clause-check g c r gap profile folder m words plain_r plain_gap plain_profile plain_folder plain_m =
    let (there, is) = c.in-Ok.ensures.check r gap profile folder m words plain_r plain_gap plain_profile plain_folder plain_m in
    rw (sym there) (check_status _ r gap profile m c.in-Ok.line.request _ _ _ _ _ is c.answer.ensures)

pub returns-in-Ok-clause-certify : goal.returns-in-Ok-clause-certify
returns-in-Ok-clause-certify g c r gap profile folder m words plain_r plain_gap plain_profile plain_folder plain_m =
    let (there, is) = c.in-Ok.ensures.certify r gap profile folder m words plain_r plain_gap plain_profile plain_folder plain_m in
    rw (sym there) (certify_status _ r gap profile m c.in-Ok.line.request _ _ _ _ _ is c.answer.ensures)

pub returns-in-Ok-clause-verify : goal.returns-in-Ok-clause-verify
returns-in-Ok-clause-verify g c folder name words plain_folder plain_name =
    let (there, is) = c.in-Ok.ensures.verify folder name words plain_folder plain_name in
    rw (sym there) (verify_status _ name c.in-Ok.line.request _ _ _ _ _ is c.answer.ensures)

pub returns-in-Ok-clause-measure : goal.returns-in-Ok-clause-measure
returns-in-Ok-clause-measure g c profile format folder m words plain_profile plain_format plain_folder plain_m =
    let (there, is) = c.in-Ok.ensures.measure profile format folder m words plain_profile plain_format plain_folder plain_m in
    rw (sym there) (measure_status _ profile format m c.in-Ok.line.request _ _ _ _ _ is c.answer.ensures)

pub returns-in-Ok-clause-show : goal.returns-in-Ok-clause-show
returns-in-Ok-clause-show g c k profile folder f words plain_k plain_profile plain_folder plain_f =
    let (there, is) = c.in-Ok.ensures.show k profile folder f words plain_k plain_profile plain_folder plain_f in
    rw (sym there) (show_status _ k profile f c.in-Ok.line.request _ _ _ _ _ is c.answer.ensures)

pub returns-in-Ok-clause-rewrite : goal.returns-in-Ok-clause-rewrite
returns-in-Ok-clause-rewrite g c k folder f words plain_k plain_folder plain_f =
    let (there, is) = c.in-Ok.ensures.rewrite k folder f words plain_k plain_folder plain_f in
    rw (sym there) (rewrite_status _ k f c.in-Ok.line.request _ _ _ _ _ is c.answer.ensures)

pub returns-in-Ok-clause-manifest : goal.returns-in-Ok-clause-manifest
returns-in-Ok-clause-manifest g c why profile folder fs words plain_profile plain_folder plain_fs =
    let (there, is) = c.in-Ok.ensures.manifest why profile folder fs words plain_profile plain_folder plain_fs in
    rw (sym there) (manifest_status _ why profile fs c.in-Ok.line.request _ _ _ _ _ is c.answer.ensures)

pub returns-in-Ok-clause-list : goal.returns-in-Ok-clause-list
returns-in-Ok-clause-list g c words = explain_status _ None c.in-Ok.line.request _ _ _ _ _ (c.in-Ok.ensures.list words).1 c.answer.ensures

pub returns-in-Ok-clause-explain : goal.returns-in-Ok-clause-explain
returns-in-Ok-clause-explain g c w words plain_w = explain_status _ (Some w) c.in-Ok.line.request _ _ _ _ _ (c.in-Ok.ensures.explain w words plain_w).1 c.answer.ensures
