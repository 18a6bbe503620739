use Rattle.drill_text.proofs.Common.{◌≡◌, ◌≤◌, ◌+◌, ℕ, suc, List, [], ◌∷◌, ◌++◌, length, take, map, Some, Ok, Err, sym, ap, subst, ◌∙◌, refl, arith, append_assoc, length-append, take_at, err_from_is_err_and, IfFault, with_place, Coordinates, Settings, Hit, without_end_blanks, ReadsLine, Keep, Progress, HasLeadingHit, meaning, bytes_of, settings_after, rule_in, Kind, checked_by, spelled_in, Holds, Refuses}
use Rattle.drill_lines.specs.declared.command.Part.TheVariants as part
use Rattle.drill_lines.specs.declared.route.Machine.TheVariants as machine
use Rattle.drill_lines.specs.declared.route.Route.TheVariants as route
use Rattle.drill_lines.proofs.RouteLemmas.{drilling_line}
use Rattle.drill_text.proofs.ProfileLemmas.{spelled_alone}
use Rattle.drill_text.proofs.SpelledLemmas.{settings_are, lines_more}
use Rattle.drill_text.proofs.PieceLemmas.{Refuses-prefix}
use Rattle.drill_text.proofs.WholeLineLemmas.{whole_taken, whole_refused}
use Rattle.drill_text.proofs.RoundTrip.{no_breaks}
use Rattle.drill_text.proofs.reader.Progress.take_hit.Goals as goal

-- the line and its LF
prefix : (s : Settings) (point : Coordinates) (len : ℕ) (bytes : List ℕ) (h : HasLeadingHit s point len bytes) → h.line ++ 10 ∷ [] ≡ take (len + 1) bytes
prefix s point len bytes h =
    let whole : bytes ≡ (h.line ++ 10 ∷ []) ++ h.more = h.whole ∙ sym (append_assoc h.line (10 ∷ []) h.more) in
    let count : length (h.line ++ 10 ∷ []) ≡ len + 1 = omega (arith, length-append h.line (10 ∷ []), h.count) in
    sym (ap (take (len + 1)) whole ∙ take_at (h.line ++ 10 ∷ []) h.more (len + 1) count)

-- the line spells the hit in each profile, and the reader of lines stays as it is
reads_hit : (old : Progress) (point : Coordinates) (len : ℕ) (bytes : List ℕ) (leads : HasLeadingHit old.state.settings point len bytes) (p : Kind) (keep : Keep) (text : List ℕ) (h : Holds old p keep text) → old.state.settings.part ≡ part.Body → old.reader.route ≡ route.Free machine.Drilling
    → ReadsLine (Ok (Some (Hit point))) old.reader p.profile (settings_after h.commands) (map without_end_blanks h.lines) (without_end_blanks leads.line)
reads_hit old point len bytes leads p keep text h body drilling =
    let settings = settings_are old.state p h.commands h.has_read.has_read.is_state in
    drilling_line old.reader p.profile (settings_after h.commands) (map without_end_blanks h.lines) (without_end_blanks leads.line) (Some (Hit point)) h.has_read.lines drilling
    (subst (λ (s : Settings). meaning s (without_end_blanks leads.line) ≡ Ok (Some (Hit point))) settings (leads.spells body))

-- it is judged as the hit
judged : (old : Progress) (point : Coordinates) (len : ℕ) (bytes : List ℕ) (leads : HasLeadingHit old.state.settings point len bytes) (p : Kind) (keep : Keep) (text : List ℕ) (h : Holds old p keep text) → old.state.settings.part ≡ part.Body → old.reader.route ≡ route.Free machine.Drilling
    → spelled_in p h.lines leads.line h.commands ≡ with_place (old.lines + 1) old.start (checked_by (rule_in p.profile p.plating) h.commands (Some (Hit point)))
judged old point len bytes leads p keep text h body drilling =
    let short : length leads.line ≤ 1048576 = omega (arith, leads.count, leads.short) in
    let place : suc (length h.lines) ≡ old.lines + 1 = omega (arith, h.count) in
    spelled_alone p h.lines leads.line h.commands (Some (Hit point)) short (reads_hit old point len bytes leads p keep text h body drilling).0
    ∙ (ap (λ n. with_place n (length (bytes_of h.lines)) (checked_by (rule_in p.profile p.plating) h.commands (Some (Hit point)))) place ∙ ap (λ b. with_place (old.lines + 1) b (checked_by (rule_in p.profile p.plating) h.commands (Some (Hit point)))) (sym h.start))

pub returns-clause-ok : goal.returns-clause-ok
returns-clause-ok c p keep text h =
    let leads = c.requires.leads in
    let old = c.args.self.now in
    let point = c.args.point in
    let bytes = c.args.bytes.now in
    let read = reads_hit old point c.args.len bytes leads p keep text h c.requires.body c.requires.drilling in
    let k = c.in_ok-keep_hit.ensures p keep h.commands h.has_read.has_read in
    whole_taken old _ text leads.line _ k.0 h (prefix old.state.settings point c.args.len bytes leads) c.requires.empty (no_breaks leads.line leads.inside) refl (judged old point c.args.len bytes leads p keep text h c.requires.body c.requires.drilling ∙ k.1)
    (record { lines = lines_more old.reader p.profile (settings_after k.0) h.lines leads.line (read.1 (settings_after k.0) tt); has_read = k.2 }) refl refl (ap (λ n. old.offset + (n + 1)) (sym leads.count))

pub returns-in_err-keep_hit-clause-err : goal.returns-in_err-keep_hit-clause-err
returns-in_err-keep_hit-clause-err c =
    let leads = c.requires.leads in
    let old = c.args.self.now in
    let point = c.args.point in
    let bytes = c.args.bytes.now in
    let e = c.in_err-keep_hit.field-0.0 in
    let p = err_from_is_err_and c.from_residual.result c.from_residual.ensures.1 in
    rw (p.1, p.2) (Refuses-prefix old bytes (c.args.len + 1) e (subst (λ (x : List ℕ). Refuses old x e) (prefix old.state.settings point c.args.len bytes leads)
    (whole_refused old leads.line e c.requires.empty (no_breaks leads.line leads.inside) (λ q keep text h.
    subst (λ r. IfFault (λ f. r ≡ Err f) e) (sym (judged old point c.args.len bytes leads q keep text h c.requires.body c.requires.drilling)) (c.in_err-keep_hit.ensures q keep h.commands h.has_read.has_read)))))
