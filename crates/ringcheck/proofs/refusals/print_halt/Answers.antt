use Rattle.ringcheck.proofs.Common.{refl}
use Rattle.ringcheck.proofs.refusals.print_halt.Goals as goal

pub returns-in_ok-say-in-Unread : goal.returns-in_ok-say-in-Unread
returns-in_ok-say-in-Unread g c =
    rw c.in-Unread.is
    (refl, (record { subject = c.in-Unread.subject; path = c.in-Unread.path; is_folder = c.is_folder.result; folder = c.folder.result }, refl, refl, c.in_ok-write_unread-in-Unread.ensures, c.in_ok-say-in-Unread.ensures))
