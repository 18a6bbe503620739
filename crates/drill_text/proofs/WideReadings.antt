-- A text that is read in the wide profile is a wide text, by its grammar, of what it is read as.
use Rattle.drill_text.proofs.Common.{◌≡◌, ◌≤◌, inl, inr, ℕ, suc, Bool, true, false, ltb, ◌||◌, List, [], ◌∷◌, ◌++◌, length, map, Option, None, Some, Ok, refl, sym, ap, subst, ◌∙◌, arith, append_assoc, codes, list_any, option_to_list, ltb-false, append-nil, flat_map-append, TooLong, ◌>>=◌, IsLegal, line_limit, and_false, last_or-more, list_any-more, bind_ok, CoordinateFormat, Coordinates, Machine, Part, Settings, DrillCommand, Wide, without_end_blanks, line_in, is_routing, machine_after, may_stand, wide_meaning, IsAlone, IsRoute, IsLater, IsRouteAfter, read_in_part, means, written_is_answered, bytes_of, part_set, part_after, settings_after, broken_rule_in, commands_by, is_finish, said_first, spelled_in, by_role, step_in, with_rest, AreWithinLimit, IsWideEntry, AreEntries, lines_of, IsText, IsWithinLimits, ReadIsWritten, ReadsBy, checked_by, Result, Reason, unwrap_or, option_map, Repeat, IsRepeated, Spells, checked_all, checked_repeat, ends_in_hit, further_hits, hit_on, repeat_after}
use Rattle.std.specs.List.{range_with_len}
use Rattle.drill_lines.specs.Inner.RouteSteps.{is_free_to_drill}
use Rattle.drill_lines.proofs.RepeatLemmas.{IsDrillingOn, is_repeated, on_drilling, repeat_more, repeat_written, route_drills}
use Rattle.drill_text.proofs.RepeatLemmas.{all_ok}
use Rattle.drill_text.proofs.RoundTrip.{part_more}
use Rattle.drill_lines.specs.declared.command.Part.TheVariants as part
use Rattle.drill_lines.specs.declared.command.DrillCommand.TheVariants as command
use Rattle.drill_lines.specs.declared.route.Machine.TheVariants as machine
use Rattle.drill_lines.specs.declared.route.Route.{Route}
use Rattle.drill_lines.specs.declared.route.Route.TheVariants as route
use Rattle.drill_lines.specs.Grammar.{IsPointText}
use Rattle.drill_lines.proofs.RouteLemmas.{IsWritten, empty_line, empty_stands, reads_on}
use Rattle.drill_text.proofs.SaidFirst.{said_is_legal}
use Rattle.drill_text.proofs.SplitsLemmas.{AllR-append}
use Rattle.drill_text.proofs.GrammarLemmas.{is_end, lines_in, same_lines, has_end}
use Rattle.drill_text.proofs.SpellsTextLemmas.{judged_ok}
use Rattle.drill_text.proofs.SpelledLemmas.{trimmed_more}
use Rattle.drill_text.proofs.ProfileLemmas.{at_ok, ending, guarded}

-- ---- entries

entries_push : (e : List (List ℕ)) (before : List DrillCommand) (entries : List (List (List ℕ))) (mid : List DrillCommand) (entry : List (List ℕ)) (cs : List DrillCommand) → AreEntries Wide e before entries mid
    → Spells Wide (e ++ lines_in entries) mid entry cs → AreEntries Wide e before (entries ++ entry ∷ []) (mid ++ cs)
entries_push e before [] mid entry cs h k = (
  cs,
  subst (λ (x : List DrillCommand). Spells Wide e x entry cs) h (subst (λ (l : List (List ℕ)). Spells Wide l mid entry cs) (append-nil e) k),
  ap (λ (x : List DrillCommand). x ++ cs) h,
)
entries_push e before (x ∷ entries) mid entry cs (spelled, is, rest) k = (
  spelled,
  is,
  entries_push (e ++ x) (before ++ spelled) entries mid entry cs rest (subst (λ (l : List (List ℕ)). Spells Wide l mid entry cs) (sym (append_assoc e x (lines_in entries))) k),
)

lines_push : (entries : List (List (List ℕ))) (entry : List (List ℕ)) → lines_in (entries ++ entry ∷ []) ≡ lines_in entries ++ entry
lines_push entries entry = flat_map-append (λ (x : List (List ℕ)). x) entries (entry ∷ []) ∙ ap (λ (l : List (List ℕ)). lines_in entries ++ l) (append-nil entry)

-- ---- lines that wait for the next of a route

record IsBegun (s : Settings) (now : Machine) (first : List ℕ) (from : Coordinates) : Type 0 where
  stands : may_stand now first ≡ true
  in_body : s.part ≡ part.Body
  start : List ℕ
  first_is : first ≡ codes "G00" ++ start
  from_is : IsPointText s start from

record IsCut (s : Settings) (third : List ℕ) (to : Coordinates) : Type 0 where
  target : List ℕ
  third_is : third ≡ codes "G01" ++ target
  to_is : IsPointText s target to

abbrev Waits : Route → Settings → Machine → List (List ℕ) → Type 0
Waits (route.Free at) s now pending = pending ≡ []
Waits (route.Started from) s now pending = (a : List ℕ) × (pending ≡ a ∷ []) × IsBegun s now (without_end_blanks a) from
Waits (route.Lowered from) s now pending = (a b : List ℕ) × (pending ≡ a ∷ b ∷ []) × IsBegun s now (without_end_blanks a) from × (without_end_blanks b ≡ codes "M15")
Waits (route.Cut from to) s now pending = (a b c : List ℕ) × (pending ≡ a ∷ b ∷ c ∷ []) × IsBegun s now (without_end_blanks a) from × (without_end_blanks b ≡ codes "M15") × IsCut s (without_end_blanks c) to

-- where the machine drills no line waits
none_waits : (r : Route) (s : Settings) (now : Machine) (pending : List (List ℕ)) → Waits r s now pending → is_free_to_drill r ≡ true → pending ≡ []
none_waits (route.Free at) s now pending w e = w
none_waits (route.Started from) s now pending w e = absurd cc
none_waits (route.Lowered from) s now pending w e = absurd cc
none_waits (route.Cut from to) s now pending w e = absurd cc

-- ---- after `M30` nothing is spelled

nothing_after : (s : Settings) (line : List ℕ) (d : DrillCommand) → read_in_part part.After s line ≡ Ok (Some d) → ⊥
unfolding read_in_part line_in
nothing_after s [] d h = absurd cc
nothing_after s (b ∷ bs) d h = absurd cc

never_after : (r : Route) (before : List DrillCommand) (now : Machine) (line : List ℕ) (d : DrillCommand) (next : Route) (pending : List (List ℕ)) → Waits r (settings_after before) now pending → IsWritten r (settings_after before) (without_end_blanks line) (Some d) next → part_after before ≡ part.After → ⊥
never_after (route.Free at) before now line d next pending w (inl (after, is, (stands, inl alone))) h =
    let s = settings_after before in
    nothing_after s (without_end_blanks line) d (ap (λ (p : Part). read_in_part p s (without_end_blanks line)) (sym h) ∙ (sym (means s (without_end_blanks line)) ∙ written_is_answered s (without_end_blanks line) (Some d) alone.0))
never_after (route.Free at) before now line d next pending w (inl (after, is, (stands, inr (inl alone)))) h = let no : part.Before ≡ part.After = sym alone.0 ∙ h in absurd cc
never_after (route.Free at) before now line d next pending w (inl (after, is, (stands, inr (inr alone)))) h = let no = alone.1 in absurd cc
never_after (route.Free at) before now line d next pending w (inr (from, start, stands, body, first_is, from_is, none, is)) h = absurd cc
never_after (route.Started from) before now line d next pending w (second_is, none, is) h = absurd cc
never_after (route.Lowered from) before now line d next pending w (to, target, third_is, to_is, none, is) h = absurd cc
never_after (route.Cut from to) before now line d next pending w k h = let no : part.Body ≡ part.After = sym w.4.in_body ∙ h in absurd cc

-- the end of the file begins the part after it
abbrev EndsPart : List DrillCommand → Type 0
EndsPart before = list_any is_finish before ≡ true → part_after before ≡ part.After

ends_more : (before : List DrillCommand) (d : DrillCommand) → EndsPart before → (part_after before ≡ part.After → ⊥) → EndsPart (before ++ d ∷ [])
ends_more before d h not_after some = by (is_finish d) refl
  where
    by : (t : Bool) → is_finish d ≡ t → part_after (before ++ d ∷ []) ≡ part.After
    by true e = ap (λ (x : DrillCommand). part_after (before ++ x ∷ [])) (is_end d e) ∙ last_or-more part_set part.Before before command.Finish
    by false e = let earlier : list_any is_finish before ≡ true = sym (ap (λ t. t || list_any is_finish before) e) ∙ (sym (list_any-more is_finish before d) ∙ some) in absurd (not_after (h earlier))

-- ---- the end

-- once the file has ended, no line waits
free_at_end : (r : Route) (before : List DrillCommand) (now : Machine) (pending : List (List ℕ)) → Waits r (settings_after before) now pending → part_after before ≡ part.After → (at : Machine) × (r ≡ route.Free at) × (pending ≡ [])
free_at_end (route.Free at) before now pending w h = (at, refl, w)
free_at_end (route.Started from) before now pending w h = let no : part.Body ≡ part.After = sym w.2.in_body ∙ h in absurd cc
free_at_end (route.Lowered from) before now pending w h = let no : part.Body ≡ part.After = sym w.3.in_body ∙ h in absurd cc
free_at_end (route.Cut from to) before now pending w h = let no : part.Body ≡ part.After = sym w.4.in_body ∙ h in absurd cc

-- lines of which none waits are those of the entries
entries_alone : (entries : List (List (List ℕ))) (pending cut all : List (List ℕ)) → cut ≡ all → all ≡ lines_in entries ++ pending → pending ≡ [] → lines_in entries ≡ cut
entries_alone entries pending cut all same is none = sym (same ∙ (is ∙ (ap (λ (p : List (List ℕ)). lines_in entries ++ p) none ∙ append-nil (lines_in entries))))

-- ---- what is said first

-- it does not end the file
unended : (format : Option CoordinateFormat) → EndsPart (said_first format)
unended None e = absurd cc
unended (Some format) e = absurd cc

module _ (format : Option CoordinateFormat) where
  -- the lines are entries that spell these commands, and lines that wait
  record IsGrouped (earlier : List (List ℕ)) (before : List DrillCommand) (r : Route) : Type 0 where
    entries : List (List (List ℕ))
    pending : List (List ℕ)
    lines : earlier ≡ lines_in entries ++ pending
    spells : AreEntries Wide [] (said_first format) entries before
    waits : Waits r (settings_after before) (machine_after (map without_end_blanks (lines_in entries))) pending

  -- a line that spells nothing yet waits
  waits_on : (earlier : List (List ℕ)) (before : List DrillCommand) (line : List ℕ) (c : Option DrillCommand) (next given : Route) → c ≡ None → next ≡ given → IsGrouped (earlier ++ line ∷ []) before given → IsGrouped (earlier ++ line ∷ []) (before ++ option_to_list c) next
  waits_on earlier before line c next given none is h =
      subst (λ (x : Option DrillCommand). IsGrouped (earlier ++ line ∷ []) (before ++ option_to_list x) next) (sym none)
      (subst (λ (cs : List DrillCommand). IsGrouped (earlier ++ line ∷ []) cs next) (sym (append-nil before)) (subst (IsGrouped (earlier ++ line ∷ []) before) (sym is) h))

  -- the last line of an entry
  closes : (earlier : List (List ℕ)) (before : List DrillCommand) (line : List ℕ) (cs : List DrillCommand) (next : Route) (after : Machine) (entries : List (List (List ℕ))) (pending : List (List ℕ)) → next ≡ route.Free after → earlier ≡ lines_in entries ++ pending → AreEntries Wide [] (said_first format) entries before
      → Spells Wide (lines_in entries) before (pending ++ line ∷ []) cs → IsGrouped (earlier ++ line ∷ []) (before ++ cs) next
  closes earlier before line cs next after entries pending is lines spells entry = subst (IsGrouped (earlier ++ line ∷ []) (before ++ cs)) (sym is) (record {
    entries = entries ++ (pending ++ line ∷ []) ∷ [];
    pending = [];
    lines = ap (λ (l : List (List ℕ)). l ++ line ∷ []) lines ∙ (append_assoc (lines_in entries) pending (line ∷ []) ∙ (sym (lines_push entries (pending ++ line ∷ [])) ∙ sym (append-nil (lines_in (entries ++ (pending ++ line ∷ []) ∷ [])))));
    spells = entries_push [] (said_first format) entries before (pending ++ line ∷ []) cs spells entry;
    waits = refl;
  })

  grouped_more : (r : Route) (earlier : List (List ℕ)) (before : List DrillCommand) (line : List ℕ) (c : Option DrillCommand) (next : Route) → IsGrouped earlier before r → IsRouteAfter r (settings_after before) (map without_end_blanks earlier)
      → IsWritten r (settings_after before) (without_end_blanks line) c next → IsGrouped (earlier ++ line ∷ []) (before ++ option_to_list c) next
  grouped_more (route.Free now) earlier before line c next g at (inl (after, is, alone)) =
      let whole : earlier ≡ lines_in g.entries = g.lines ∙ (ap (λ (p : List (List ℕ)). lines_in g.entries ++ p) g.waits ∙ append-nil (lines_in g.entries)) in
      let here : machine_after (map without_end_blanks (lines_in g.entries)) ≡ now = ap (λ (l : List (List ℕ)). machine_after (map without_end_blanks l)) (sym whole) ∙ at.1 in
      closes earlier before line (option_to_list c) next after g.entries [] is (whole ∙ sym (append-nil (lines_in g.entries))) g.spells (inl (c, subst (λ (m : Machine). IsAlone (settings_after before) m (without_end_blanks line) c) (sym here) alone, refl))
  grouped_more (route.Free now) earlier before line c next g at (inr (from, start, stands, body, first_is, from_is, none, is)) =
      let whole : earlier ≡ lines_in g.entries = g.lines ∙ (ap (λ (p : List (List ℕ)). lines_in g.entries ++ p) g.waits ∙ append-nil (lines_in g.entries)) in
      let here : machine_after (map without_end_blanks (lines_in g.entries)) ≡ now = ap (λ (l : List (List ℕ)). machine_after (map without_end_blanks l)) (sym whole) ∙ at.1 in
      waits_on earlier before line c next (route.Started from) none is (record {
        entries = g.entries;
        pending = line ∷ [];
        lines = ap (λ (l : List (List ℕ)). l ++ line ∷ []) whole;
        spells = g.spells;
        waits = (line, refl, record { stands = ap (λ (m : Machine). may_stand m (without_end_blanks line)) here ∙ stands; in_body = body; start = start; first_is = first_is; from_is = from_is });
      })
  grouped_more (route.Started from) earlier before line c next g at (second_is, none, is) =
      let a = g.waits.0 in
      let whole : earlier ≡ lines_in g.entries ++ a ∷ [] = g.lines ∙ ap (λ (p : List (List ℕ)). lines_in g.entries ++ p) g.waits.1 in
      waits_on earlier before line c next (route.Lowered from) none is (record {
        entries = g.entries;
        pending = a ∷ line ∷ [];
        lines = ap (λ (l : List (List ℕ)). l ++ line ∷ []) whole ∙ append_assoc (lines_in g.entries) (a ∷ []) (line ∷ []);
        spells = g.spells;
        waits = (a, line, refl, g.waits.2, second_is);
      })
  grouped_more (route.Lowered from) earlier before line c next g at (to, target, third_is, to_is, none, is) =
      let a = g.waits.0 in
      let b = g.waits.1 in
      let whole : earlier ≡ lines_in g.entries ++ (a ∷ b ∷ []) = g.lines ∙ ap (λ (p : List (List ℕ)). lines_in g.entries ++ p) g.waits.2 in
      waits_on earlier before line c next (route.Cut from to) none is (record {
        entries = g.entries;
        pending = a ∷ b ∷ line ∷ [];
        lines = ap (λ (l : List (List ℕ)). l ++ line ∷ []) whole ∙ append_assoc (lines_in g.entries) (a ∷ b ∷ []) (line ∷ []);
        spells = g.spells;
        waits = (a, b, line, refl, g.waits.3, g.waits.4, record { target = target; third_is = third_is; to_is = to_is });
      })
  grouped_more (route.Cut from to) earlier before line c next g at (fourth_is, some, is) =
      let x = g.waits.0 in
      let y = g.waits.1 in
      let z = g.waits.2 in
      let begun = g.waits.4 in
      let cut = g.waits.6 in
      let s = settings_after before in
      let is_route : IsRoute s (machine_after (map without_end_blanks (lines_in g.entries))) (without_end_blanks x) (without_end_blanks y) (without_end_blanks z) (without_end_blanks line) from to = record {
        stands = begun.stands;
        in_body = begun.in_body;
        start = begun.start;
        first_is = begun.first_is;
        from_is = begun.from_is;
        second_is = g.waits.5;
        target = cut.target;
        third_is = cut.third_is;
        to_is = cut.to_is;
        fourth_is = fourth_is;
      } in
      closes earlier before line (option_to_list c) next machine.Routing g.entries (x ∷ y ∷ z ∷ []) is (g.lines ∙ ap (λ (p : List (List ℕ)). lines_in g.entries ++ p) g.waits.3) g.spells
      (inl (c, subst (λ (o : Option DrillCommand). IsWideEntry (lines_in g.entries) s (x ∷ y ∷ z ∷ line ∷ []) o) (sym some) is_route, refl))

  -- ---- lines

  record IsParsed (earlier : List (List ℕ)) (before : List DrillCommand) : Type 0 where
    r : Route
    grouped : IsGrouped earlier before r
    at : IsRouteAfter r (settings_after before) (map without_end_blanks earlier)
    short : AreWithinLimit earlier
    legal : IsLegal (broken_rule_in Wide) before
    ends : EndsPart before

  later_settings : (before : List DrillCommand) (c : Option DrillCommand) → IsLater c (settings_after before) (settings_after (before ++ option_to_list c))
  later_settings before None = ap settings_after (append-nil before)
  later_settings before (Some d) = tt

  ends_after : (before : List DrillCommand) (c : Option DrillCommand) → EndsPart before → ((d : DrillCommand) → c ≡ Some d → part_after before ≡ part.After → ⊥) → EndsPart (before ++ option_to_list c)
  ends_after before None h not_after = subst EndsPart (sym (append-nil before)) h
  ends_after before (Some d) h not_after = ends_more before d h (not_after d refl)

  -- the further hits of a repeat do not end the file
  hits_end : (before start : List DrillCommand) (step : Coordinates) (ns : List ℕ) → part_after before ≡ part.Body → EndsPart before → EndsPart (before ++ map (hit_on start step) ns)
  hits_end before start step [] body h = subst EndsPart (sym (append-nil before)) h
  hits_end before start step (n ∷ ns) body h =
      let hit = hit_on start step n in
      subst EndsPart (append_assoc before (hit ∷ []) (map (hit_on start step) ns)) (hits_end (before ++ hit ∷ []) start step ns (part_more before hit ∙ body) (ends_more before hit h (λ after. absurd (let no : part.Body ≡ part.After = sym body ∙ after in cc))))

  parsed_repeat : (earlier : List (List ℕ)) (before after : List DrillCommand) (line : List ℕ) (read : Result Repeat Reason) → IsParsed earlier before → length line ≤ line_limit → repeat_after Wide earlier before line ≡ Some read → checked_repeat (broken_rule_in Wide) before read ≡ Ok after
      → IsParsed (earlier ++ line ∷ []) after
  parsed_repeat earlier before after line read h short row e =
      let s = settings_after before in
      let trimmed = without_end_blanks line in
      let b = bind_ok read (λ repeat. checked_all (broken_rule_in Wide) before (further_hits before repeat)) after e in
      let repeat = b.0 in
      let j = all_ok Wide before (further_hits before repeat) after b.2 in
      let is = is_repeated (ends_in_hit before) (map without_end_blanks earlier) s trimmed (Ok repeat) (row ∙ ap (λ (r : Result Repeat Reason). Some r) b.1) in
      let written = repeat_written s trimmed repeat is.row in
      let more = repeat_more (map without_end_blanks earlier) trimmed (written.1 ++ written.2) is.drilling written.3 in
      let none : h.grouped.pending ≡ [] = none_waits h.r s (machine_after (map without_end_blanks (lines_in h.grouped.entries))) h.grouped.pending h.grouped.waits (sym (route_drills h.r s (map without_end_blanks earlier) h.at) ∙ on_drilling (map without_end_blanks earlier) is.drilling) in
      let whole : earlier ≡ lines_in h.grouped.entries = h.grouped.lines ∙ (ap (λ (p : List (List ℕ)). lines_in h.grouped.entries ++ p) none ∙ append-nil (lines_in h.grouped.entries)) in
      let entry : IsRepeated (lines_in h.grouped.entries) before (line ∷ []) (further_hits before repeat) = (repeat, is.after, on_drilling _ (subst (λ (l : List (List ℕ)). IsDrillingOn (map without_end_blanks l)) whole is.drilling), written, refl) in
      subst (IsParsed (earlier ++ line ∷ [])) j.0 (record {
        r = route.Free machine.Drilling;
        grouped = closes earlier before line (further_hits before repeat) (route.Free machine.Drilling) machine.Drilling h.grouped.entries [] refl (whole ∙ sym (append-nil (lines_in h.grouped.entries))) h.grouped.spells (inr entry);
        at = subst (λ (l : List (List ℕ)). IsRouteAfter (route.Free machine.Drilling) (settings_after (before ++ further_hits before repeat)) l) (sym (trimmed_more earlier line)) (more.free, more.drills);
        short = AllR-append (λ l. length l ≤ line_limit) earlier (line ∷ []) h.short (short, tt);
        legal = subst (IsLegal (broken_rule_in Wide)) (sym j.0) (j.1 h.legal);
        ends = hits_end before before repeat.step (range_with_len 1 repeat.count) written.0 h.ends;
      })

  parsed_alone : (earlier : List (List ℕ)) (before after : List DrillCommand) (line : List ℕ) → IsParsed earlier before → length line ≤ line_limit → (wide_meaning (map without_end_blanks earlier) (settings_after before) (without_end_blanks line) >>= checked_by (broken_rule_in Wide) before) ≡ Ok after
      → IsParsed (earlier ++ line ∷ []) after
  parsed_alone earlier before after line h short e =
      let s = settings_after before in
      let b = bind_ok (wide_meaning (map without_end_blanks earlier) s (without_end_blanks line)) (checked_by (broken_rule_in Wide) before) after e in
      let c = b.0 in
      let j = judged_ok Wide before c after b.2 in
      let k = reads_on h.r s (map without_end_blanks earlier) (without_end_blanks line) c h.at b.1 in
      let now : List DrillCommand = before ++ option_to_list c in
      subst (IsParsed (earlier ++ line ∷ [])) j.0 (record {
        r = k.next;
        grouped = grouped_more h.r earlier before line c k.next h.grouped h.at k.written;
        at = subst (λ (l : List (List ℕ)). IsRouteAfter k.next (settings_after now) l) (sym (trimmed_more earlier line)) (k.after (settings_after now) (later_settings before c));
        short = AllR-append (λ l. length l ≤ line_limit) earlier (line ∷ []) h.short (short, tt);
        legal = subst (IsLegal (broken_rule_in Wide)) (sym j.0) (j.1 h.legal);
        ends = ends_after before c h.ends (λ d same. never_after h.r before (machine_after (map without_end_blanks (lines_in h.grouped.entries))) line d k.next h.grouped.pending h.grouped.waits (subst (λ (o : Option DrillCommand). IsWritten h.r s (without_end_blanks line) o k.next) same k.written));
      })

  parsed_more : (earlier : List (List ℕ)) (before after : List DrillCommand) (line : List ℕ) → IsParsed earlier before → step_in (by_role Wide format) earlier before line ≡ Ok after → IsParsed (earlier ++ line ∷ []) after
  unfolding step_in
  parsed_more earlier before after line h e =
      let spelt = wide_meaning (map without_end_blanks earlier) (settings_after before) (without_end_blanks line) >>= checked_by (broken_rule_in Wide) before in
      let g = guarded (ltb line_limit (length line)) TooLong (unwrap_or (option_map (checked_repeat (broken_rule_in Wide) before) (repeat_after Wide earlier before line)) spelt) after e in
      by (ltb-false _ _ g.0) (repeat_after Wide earlier before line) refl g.1
    where
      by : length line ≤ line_limit → (row : Option (Result Repeat Reason)) → repeat_after Wide earlier before line ≡ row
          → unwrap_or (option_map (checked_repeat (broken_rule_in Wide) before) row) (wide_meaning (map without_end_blanks earlier) (settings_after before) (without_end_blanks line) >>= checked_by (broken_rule_in Wide) before) ≡ Ok after → IsParsed (earlier ++ line ∷ []) after
      by short None none k = parsed_alone earlier before after line h short k
      by short (Some read) some k = parsed_repeat earlier before after line read h short some k

  line_parsed : (earlier : List (List ℕ)) (before after : List DrillCommand) (line : List ℕ) → IsParsed earlier before → spelled_in (by_role Wide format) earlier line before ≡ Ok after → IsParsed (earlier ++ line ∷ []) after
  line_parsed earlier before after line h e = parsed_more earlier before after line h (at_ok (suc (length earlier)) (length (bytes_of earlier)) (step_in (by_role Wide format) earlier before line) after e)

  lines_parsed : (earlier lines : List (List ℕ)) (before after : List DrillCommand) → IsParsed earlier before → commands_by (by_role Wide format) earlier lines before ≡ Ok after → IsParsed (earlier ++ lines) after
  lines_parsed earlier [] before after h e = let same : before ≡ after = cc in subst (IsParsed (earlier ++ [])) same (subst (λ (l : List (List ℕ)). IsParsed l before) (sym (append-nil earlier)) h)
  lines_parsed earlier (line ∷ lines) before after h e =
      let next : List (List ℕ) = earlier ++ line ∷ [] in
      let b = bind_ok (spelled_in (by_role Wide format) earlier line before) (commands_by (by_role Wide format) next lines) after e in
      subst (λ (l : List (List ℕ)). IsParsed l after) (append_assoc earlier (line ∷ []) lines) (lines_parsed next lines b.0 after (line_parsed earlier before b.0 line h b.1) b.2)

  none_parsed : IsParsed [] (said_first format)
  none_parsed = record {
    r = route.Free machine.Drilling;
    grouped = record { entries = []; pending = []; lines = refl; spells = refl; waits = refl };
    at = ((refl, refl, refl), refl);
    short = tt;
    legal = said_is_legal Wide format;
    ends = unended format;
  }

  -- an empty line after all is an entry too
  empty_entry : (lines : List (List ℕ)) (cs : List DrillCommand) → IsParsed lines cs → list_any is_finish cs ≡ true → IsParsed (lines ++ [] ∷ []) cs
  empty_entry lines cs h some =
      let f = free_at_end h.r cs (machine_after (map without_end_blanks (lines_in h.grouped.entries))) h.grouped.pending h.grouped.waits (h.ends some) in
      let s = settings_after cs in
      let at : IsRouteAfter (route.Free f.0) s (map without_end_blanks lines) = subst (λ (r : Route). IsRouteAfter r s (map without_end_blanks lines)) f.1 h.at in
      let grouped : IsGrouped lines cs (route.Free f.0) = subst (IsGrouped lines cs) f.1 h.grouped in
      let alone : IsAlone s f.0 [] None = (empty_stands f.0, inl ((0, omega arith, refl), and_false (is_routing f.0))) in
      let more = grouped_more (route.Free f.0) lines cs [] None (route.Free f.0) grouped at (inl (f.0, refl, alone)) in
      record {
        r = route.Free f.0;
        grouped = subst (λ (x : List DrillCommand). IsGrouped (lines ++ [] ∷ []) x (route.Free f.0)) (append-nil cs) more;
        at = after_empty lines s f.0 at;
        short = AllR-append (λ l. length l ≤ line_limit) lines ([] ∷ []) h.short (omega arith, tt);
        legal = h.legal;
        ends = h.ends;
      }
    where
      after_empty : (lines : List (List ℕ)) (s : Settings) (now : Machine) → IsRouteAfter (route.Free now) s (map without_end_blanks lines) → IsRouteAfter (route.Free now) s (map without_end_blanks (lines ++ [] ∷ []))
      after_empty lines s now at = subst (λ (l : List (List ℕ)). IsRouteAfter (route.Free now) s l) (sym (trimmed_more lines [])) (empty_line s (map without_end_blanks lines) now at)

  rest_parsed : (lines : List (List ℕ)) (rest : List ℕ) (before cs : List DrillCommand) → IsParsed lines before → with_rest (by_role Wide format) lines rest before ≡ Ok cs → list_any is_finish cs ≡ true → IsParsed (lines ++ rest ∷ []) cs
  rest_parsed lines [] before cs h e some = let same : before ≡ cs = cc in empty_entry lines cs (subst (IsParsed lines) same h) some
  rest_parsed lines (b ∷ bs) before cs h e some = line_parsed lines before cs (b ∷ bs) h e

  read_written : (text : List ℕ) (cs : List DrillCommand) → ReadsBy (by_role Wide format) text (Ok cs) → IsWithinLimits text × IsText Wide format text cs × IsLegal (broken_rule_in Wide) cs
  read_written text cs r =
      let k = ending (by_role Wide format) text cs r in
      let first = lines_parsed [] k.lines (said_first format) k.first none_parsed k.shown in
      let all = rest_parsed k.lines k.rest k.first cs first k.last k.ends in
      let same : lines_of text ≡ k.lines ++ k.rest ∷ [] = same_lines text k.lines k.rest k.splits in
      let f = free_at_end all.r cs (machine_after (map without_end_blanks (lines_in all.grouped.entries))) all.grouped.pending all.grouped.waits (all.ends k.ends) in
      let whole : lines_in all.grouped.entries ≡ lines_of text = entries_alone all.grouped.entries all.grouped.pending (lines_of text) (k.lines ++ k.rest ∷ []) same all.grouped.lines f.2 in (
        (k.within, subst AreWithinLimit (sym same) all.short),
        record { entries = all.grouped.entries; lines = whole; spells = all.grouped.spells; ends = has_end cs k.ends },
        all.legal,
      )

pub read_is_written : ReadIsWritten
read_is_written = read_written
