use Rattle.waivers.proofs.Common.{arith, map, sym, has_written_of_eq, gap_fields}
use Rattle.waivers.proofs.Quoted.{record_joined}
use Rattle.waivers.proofs.printed.GapLackLineRecords.fmt_on.Goals as goal

pub returns : goal.returns
returns g c =
    let fields = gap_fields (map (λ name. name.now) c.args.page.now.0.names.now) c.args.self.now in
    record { writes = λ plain ok. has_written_of_eq _ _ _ _ _ (sym (record_joined fields (omega arith))) (c.write.ensures.writes plain ok) }
