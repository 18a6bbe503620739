use Rattle.report.specs.declared.Acceptances.{Acceptances}
use Rattle.ringcheck.proofs.reports.print_waived.Goals as goal

pub returns : goal.returns
returns g c =
    let accepted : Acceptances = record { rings = c.as_slice-3.result; gaps = c.as_slice-4.result; idle = c.as_slice-5.result } in (
      accepted,
      (
        c.in_ok-waived.waived,
        c.all.ensures,
        record { rings = c.in_ok-waived.ensures.rings; gaps = c.in_ok-waived.ensures.gaps },
        record {
          rings = rw c.as_slice-3.ensures.value (rw c.as_slice.ensures.value at c.in_ok-rings.ensures);
          gaps = rw c.as_slice-4.ensures.value (rw c.as_slice-2.ensures.value at c.in_ok-gaps.ensures);
          idle = λ names report is. rw c.as_slice-5.ensures.value (c.in_ok-idle.ensures names report is);
        },
      ),
      c.in_ok-print.ensures,
    )
