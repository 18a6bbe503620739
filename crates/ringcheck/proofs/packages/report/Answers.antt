use Rattle.ringcheck.proofs.Common.{Some, inr, sym, IfOk-weaker, texts, word_bytes}
use Rattle.ringcheck.proofs.Outcomes.{report_outlined_along}
use Rattle.ringcheck.proofs.packages.report.Goals as goal

pub returns-in-Ok-2-clause-says : goal.returns-in-Ok-2-clause-says
returns-in-Ok-2-clause-says g c =
    let has = g.L.Loader.has c.args.loader.now in
    let later = g.L.Loader.has c.load_table.new.loader in
    let before = texts g.W.Write.contents g.E.Write.contents c.args.to.now in
    let after = texts g.W.Write.contents g.E.Write.contents c.run_outlined-in-Ok-2.new.to in
    let name = c.args.name.now in
    let (rules, drilling, limit, form) = c.in-Ok.named in
    let table = c.in-Ok-2.table in
    let waivers = table.rows.items in
    let outline = word_bytes c.args.unparsed.now.outline in
    let listed = rw c.in-Ok-2.is at c.in_ok-table-in-Some.ensures.loaded in
    rw (sym c.in-Ok.ensures, c.in-Some.is)
    (IfOk-weaker c.run_outlined-in-Ok-2.result _ _
    (λ s says. inr (inr (waivers, (table.text.items, listed), report_outlined_along later has c.in_ok-table-in-Some.ensures.keeps name rules drilling limit form (Some waivers) outline before after s says)))
    c.run_outlined-in-Ok-2.ensures.says)
