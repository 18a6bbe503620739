-- What a line spells in the wide profile, by how far a route has come: its four lines spell a slot, and every other line what it does by itself.
use Rattle.drill_lines.proofs.Common.{◌≡◌, ℕ, Bool, true, false, cond, ◌&&◌, ◌||◌, ◌⊎◌, inl, inr, List, [], ◌∷◌, ◌++◌, Option, None, Some, is_some, Result, Ok, Err, IfOk, refl, sym, ap, subst, ◌∙◌, codes, option_map, bytes_eq, Reason, BadLine, ◌>>=◌, RowOf, strip_prefix, Coordinates, Part, Settings, DrillCommand, Slot, Finish, Wide, IsPointText, meaning, ReadsLine}
use Rattle.std.proofs.Common.{unwrap_or}
use Rattle.std.specs.Prelude.{option_and_then}
use Rattle.std.specs.Option.{option_or}
use Rattle.grid_units.specs.declared.fault.Reason.TheVariants.{Routed}
use Rattle.grid_units.specs.declared.item_fail.ItemFail.{ItemFail}
use Rattle.grid_units.specs.declared.item_fail.ItemFail.TheVariants as stops
use Rattle.grid_units.specs.Results.{Gives, IsRefusedAs}
use Rattle.grid_units.proofs.LookbackLemmas.{last_set-more, last_or-more}
use Rattle.drill_lines.specs.declared.command.Part.TheVariants as part
use Rattle.grid_units.specs.declared.profile.Profile.{Profile}
use Rattle.grid_units.specs.declared.profile.Profile.TheVariants.{Strict}
use Rattle.drill_lines.specs.declared.line_reader.LineReader.{LineReader}
use Rattle.drill_lines.specs.declared.route.Machine.{Machine}
use Rattle.drill_lines.specs.declared.route.Machine.TheVariants as machine
use Rattle.drill_lines.specs.declared.route.Route.{Route}
use Rattle.drill_lines.specs.declared.route.Route.TheVariants as route
use Rattle.drill_lines.specs.HoleLines.{point_line}
use Rattle.drill_lines.specs.Meaning.{Meaning, lines_before, common_lines, header_ends, body_prefixes, line_in}
use Rattle.drill_lines.specs.Routes.{starts, lowers, cuts, raises, routed_point, route_row, point_read, last_line, last_point, machine_set, machine_after, slot_between, fourth_line, part_row, says_nothing, may_stand, wide_row, is_hole, is_routing, unless_routing, other_line, wide_meaning}
use Rattle.drill_lines.specs.Inner.RouteSteps.{Step, second_step, third_step, fourth_step, part_step, wide_step, other_step, route_step, IsFree, IsRouteAfter}
use Rattle.drill_lines.specs.LineReading.{IsRouteIn, HasReadLines, IsLater}
use Rattle.drill_lines.proofs.CutLemmas.{bytes_are, begins_so}
use Rattle.drill_lines.proofs.Rows.{ok_is}
use Rattle.drill_lines.proofs.Answered.{read_in_part, means, point_answered}
use Rattle.drill_lines.proofs.WrittenFields.{point_written}
use Rattle.drill_lines.specs.RouteGrammar.{IsAlone, IsRoute}
use Rattle.drill_lines.proofs.Written.{answers_are_written}

-- ---- a line that the strict profile reads is none of a route

-- no line is read so
abbrev IsRefused : Result (Option DrillCommand) Reason → Type 0
IsRefused read = IfOk read (λ c. ⊥)

refused : (p : Part) (s : Settings) (rest : List ℕ)
    → (IsRefused (read_in_part p s (codes "G00" ++ rest)) × IsRefused (read_in_part p s (codes "G01" ++ rest)) × IsRefused (read_in_part p s (codes "M15")))
    × (IsRefused (read_in_part p s (codes "M16")) × IsRefused (read_in_part p s (codes "M17")) × IsRefused (read_in_part p s (codes "M00")))
unfolding read_in_part line_in lines_before common_lines header_ends body_prefixes
refused part.Before s rest = ((tt, tt, tt), (tt, tt, tt))
refused part.Header s rest = ((tt, tt, tt), (tt, tt, tt))
refused part.Body s rest = ((tt, tt, tt), (tt, tt, tt))
refused part.After s rest = ((tt, tt, tt), (tt, tt, tt))

never_read : (p : Part) (s : Settings) (line : List ℕ) (c : Option DrillCommand) → s.part ≡ p → IsRefused (read_in_part p s line) → meaning s line ≡ Ok c → ⊥
never_read p s line c e none h = ok_is (λ x. ⊥) (read_in_part p s line) c none (sym (means s line ∙ ap (λ (q : Part). read_in_part q s line) e) ∙ h)

no_beginning : (word : List ℕ) (p : Part) (s : Settings) (line : List ℕ) (c : Option DrillCommand) → s.part ≡ p → ((rest : List ℕ) → IsRefused (read_in_part p s (word ++ rest))) → meaning s line ≡ Ok c → is_some (strip_prefix word line) ≡ false
no_beginning word p s line c here none h = by (strip_prefix word line) refl
  where
    by : (o : Option (List ℕ)) → strip_prefix word line ≡ o → is_some o ≡ false
    by None e = refl
    by (Some rest) e = absurd (never_read p s line c here (subst (λ (l : List ℕ). IsRefused (read_in_part p s l)) (sym (begins_so word line rest e)) (none rest)) h)

no_word : (word : List ℕ) (p : Part) (s : Settings) (line : List ℕ) (c : Option DrillCommand) → s.part ≡ p → IsRefused (read_in_part p s word) → meaning s line ≡ Ok c → bytes_eq line word ≡ false
no_word word p s line c here none h = by (bytes_eq line word) refl
  where
    by : (t : Bool) → bytes_eq line word ≡ t → t ≡ false
    by true e = absurd (never_read p s line c here (subst (λ (l : List ℕ). IsRefused (read_in_part p s l)) (sym (bytes_are line word e)) none) h)
    by false e = refl

-- a line after which no line of a route is due
abbrev pub IsApart : List ℕ → Type 0
IsApart line = (starts line ≡ false) × (lowers line ≡ false) × (cuts line ≡ false)

-- such a line, which neither raises the tool nor stops the machine
pub record IsQuiet (line : List ℕ) : Type 0 where
  pub apart : IsApart line
  pub no_raise : raises line ≡ false
  pub no_stop : bytes_eq line (codes "M00") ≡ false

pub quiet : (s : Settings) (line : List ℕ) (c : Option DrillCommand) → meaning s line ≡ Ok c → IsQuiet line
quiet s line c h = let r = refused s.part s [] in record {
  apart = (
    no_beginning (codes "G00") s.part s line c refl (λ rest. (refused s.part s rest).0.0) h,
    no_word (codes "M15") s.part s line c refl r.0.2 h,
    no_beginning (codes "G01") s.part s line c refl (λ rest. (refused s.part s rest).0.1) h,
  );
  no_raise = λ i. (no_word (codes "M16") s.part s line c refl r.1.0 h i || no_word (codes "M17") s.part s line c refl r.1.1 h i);
  no_stop = no_word (codes "M00") s.part s line c refl r.1.2 h;
}

is_none : {A : Type 0} (o : Option A) → is_some o ≡ false → o ≡ None
is_none None e = refl
is_none (Some x) e = absurd cc

no_part_row : (p : Part) (s : Settings) (line : List ℕ) (c : Option DrillCommand) → s.part ≡ p → meaning s line ≡ Ok c → part_row p s line ≡ None
unfolding read_in_part line_in lines_before
no_part_row part.Before s line c e h = ap (λ t. cond t (Some (Ok (Some Finish))) None) (no_word (codes "M30") part.Before s line c e tt h)
no_part_row part.Header s line c e h = refl
no_part_row part.Body s line c e h =
    ap (λ (o : Option (List ℕ)). option_map (λ read. read >>= λ point. Ok None) (option_and_then (point_line s) o)) (is_none (strip_prefix (codes "G00") line) (quiet s line c h).apart.0)
no_part_row part.After s line c e h = refl

no_old : (p : Part) (s : Settings) (line : List ℕ) (c : Option DrillCommand) → s.part ≡ p → meaning s line ≡ Ok c → says_nothing p line ≡ false
unfolding read_in_part line_in common_lines header_ends body_prefixes
no_old part.Before s line c e h = refl
no_old part.Header s line c e h = λ i. (no_word (codes "R,H") part.Header s line c e tt h i || no_word (codes "G93X0Y0") part.Header s line c e tt h i)
no_old part.Body s line c e h = λ i. (no_word (codes "M00") part.Body s line c e tt h i || no_word (codes "G93X0Y0") part.Body s line c e tt h i)
no_old part.After s line c e h = no_beginning (codes ";") part.After s line c e (λ rest. tt) h

-- the row of a line that may stand and says something
pub said_row : (now : Machine) (s : Settings) (line : List ℕ) → may_stand now line ≡ true → says_nothing s.part line ≡ false → wide_row now s line ≡ part_row s.part s line
said_row now s line stands says =
    ap (λ t. cond t (cond (says_nothing s.part line) (Some (Ok None)) (part_row s.part s line)) (Some (Err BadLine))) stands ∙ ap (λ t. cond t (Some (Ok None)) (part_row s.part s line)) says

-- ---- lines of older texts

pub either_is : (line a b : List ℕ) → (bytes_eq line a || bytes_eq line b) ≡ true → (line ≡ a) ⊎ (line ≡ b)
either_is line a b h = by (bytes_eq line a) refl h
  where
    by : (t : Bool) → bytes_eq line a ≡ t → (t || bytes_eq line b) ≡ true → (line ≡ a) ⊎ (line ≡ b)
    by true e k = inl (bytes_are line a e)
    by false e k = inr (bytes_are line b k)

either_apart : (line a b : List ℕ) → IsApart a → IsApart b → (bytes_eq line a || bytes_eq line b) ≡ true → IsApart line
either_apart line a b first second h = elim (either_is line a b h) [ inl e ↦ subst IsApart (sym e) first | inr e ↦ subst IsApart (sym e) second ]

pub old_apart : (p : Part) (line : List ℕ) → says_nothing p line ≡ true → IsApart line
old_apart part.Before line h = absurd cc
old_apart part.Header line h = either_apart line (codes "R,H") (codes "G93X0Y0") (refl, refl, refl) (refl, refl, refl) h
old_apart part.Body line h = either_apart line (codes "M00") (codes "G93X0Y0") (refl, refl, refl) (refl, refl, refl) h
old_apart part.After line h = by (strip_prefix (codes ";") line) refl h
  where
    by : (o : Option (List ℕ)) → strip_prefix (codes ";") line ≡ o → is_some o ≡ true → IsApart line
    by None e k = absurd cc
    by (Some rest) e k = subst IsApart (sym (begins_so (codes ";") line rest e)) (refl, refl, refl)

-- ---- one more line

last_is : (e : List (List ℕ)) (line : List ℕ) → last_line (e ++ line ∷ []) ≡ line
last_is e line = last_or-more Some [] e line

last_point_more : (word : List ℕ) (s : Settings) (e : List (List ℕ)) (line : List ℕ) → last_point word s (e ++ line ∷ []) ≡ option_or (point_read (routed_point word s line)) (last_point word s e)
last_point_more word s e line = last_set-more (λ l. point_read (routed_point word s l)) e line

-- what the machine does after one more line
abbrev pub next_machine : Machine → List ℕ → Machine
next_machine now line = unwrap_or (machine_set line) now

pub machine_more : (e : List (List ℕ)) (line : List ℕ) → machine_after (e ++ line ∷ []) ≡ next_machine (machine_after e) line
machine_more e line = last_or-more machine_set machine.Drilling e line

pub free_more : (e : List (List ℕ)) (line : List ℕ) → IsApart line → IsFree (e ++ line ∷ [])
free_more e line apart = subst IsApart (sym (last_is e line)) apart

-- what a line spells, by what the last one before it is
pub meaning_by : (s : Settings) (e : List (List ℕ)) (line : List ℕ) (a b c : Bool) → starts (last_line e) ≡ a → lowers (last_line e) ≡ b → cuts (last_line e) ≡ c
    → wide_meaning e s line ≡ cond a (cond (lowers line) (Ok None) (Err Routed)) (cond b (unwrap_or (route_row (codes "G01") s line) (Err Routed)) (cond c (fourth_line e s line) (other_line (machine_after e) s line)))
unfolding wide_meaning
meaning_by s e line a b c p q r = λ i. cond (p i) (cond (lowers line) (Ok None) (Err Routed)) (cond (q i) (unwrap_or (route_row (codes "G01") s line) (Err Routed)) (cond (r i) (fourth_line e s line) (other_line (machine_after e) s line)))

-- what a line spells where no line of a route is due
pub free_meaning : (s : Settings) (e : List (List ℕ)) (line : List ℕ) (now : Machine) → IsFree e → machine_after e ≡ now → wide_meaning e s line ≡ other_line now s line
free_meaning s e line now free h = meaning_by s e line false false false free.0 free.1 free.2 ∙ ap (λ (now : Machine). other_line now s line) h

-- a line that the strict profile reads spells the same, where it may stand, unless it drills while the machine routes
pub alone_read : (s : Settings) (e : List (List ℕ)) (line : List ℕ) (c : Option DrillCommand) → IsFree e → may_stand (machine_after e) line ≡ true → meaning s line ≡ Ok c → (is_routing (machine_after e) && is_hole c) ≡ false
    → (wide_meaning e s line ≡ Ok c) × IsFree (e ++ line ∷ [])
alone_read s e line c free stands reads drills =
    let now = machine_after e in
    let none : wide_row now s line ≡ None = said_row now s line stands (no_old s.part s line c refl reads) ∙ no_part_row s.part s line c refl reads in
    let same : wide_meaning e s line ≡ Ok c =
    free_meaning s e line now free refl
    ∙ (ap (λ (row : RowOf (Option DrillCommand)). unwrap_or row (meaning s line >>= unless_routing now)) none
    ∙ (ap (λ (m : Meaning). m >>= unless_routing now) reads ∙ ap (λ t. cond t (Err Routed) (Ok c)) drills)) in
    (same, free_more e line (quiet s line c reads).apart)

-- a line that the strict profile reads spells the same in the wide one where the machine drills, and leaves it so
pub strict_line : (s : Settings) (e : List (List ℕ)) (line : List ℕ) (c : Option DrillCommand) → IsFree e → machine_after e ≡ machine.Drilling → meaning s line ≡ Ok c
    → (wide_meaning e s line ≡ Ok c) × (IsFree (e ++ line ∷ []) × (machine_after (e ++ line ∷ []) ≡ machine.Drilling))
strict_line s e line c free h reads =
    let k = alone_read s e line c free (ap (λ (now : Machine). may_stand now line) h) reads (ap (λ (now : Machine). is_routing now && is_hole c) h) in
    let q = quiet s line c reads in
    (k.0, (k.1, machine_more e line ∙ (ap (λ (now : Machine). next_machine now line) h ∙ on (raises line) (bytes_eq line (codes "G05")) (bytes_eq line (codes "M00")) q.no_raise q.no_stop)))
  where
    on : (t u v : Bool) → t ≡ false → v ≡ false → unwrap_or (cond t (Some machine.Routing) (cond u (Some machine.Drilling) (cond v (Some machine.Stopped) None))) machine.Drilling ≡ machine.Drilling
    on true u v a b = absurd cc
    on false true v a b = refl
    on false false true a b = absurd cc
    on false false false a b = refl

-- ---- steps

-- a step answers what the line spells, and the route that it leaves is the one after the line
abbrev pub FollowsTo : Result Step Reason → Meaning → Settings → List (List ℕ) → List ℕ → Type 0
FollowsTo (Ok step) spelled s e line = (spelled ≡ Ok step.0) × ((later : Settings) → IsLater step.0 s later → IsRouteAfter step.1 later (e ++ line ∷ []))
FollowsTo (Err why) spelled s e line = spelled ≡ Err why

abbrev pub Follows : Result Step Reason → Settings → List (List ℕ) → List ℕ → Type 0
Follows step s e line = FollowsTo step (wide_meaning e s line) s e line

-- a word and a point, and what stands after the word
pub word_and_point : (word : List ℕ) (s : Settings) (line : List ℕ) (p : Coordinates) → routed_point word s line ≡ Some (Ok p) → (rest : List ℕ) × (line ≡ word ++ rest) × IsPointText s rest p
word_and_point word s line p h = by (strip_prefix word line) refl h
  where
    by : (o : Option (List ℕ)) → strip_prefix word line ≡ o → option_and_then (point_line s) o ≡ Some (Ok p) → (rest : List ℕ) × (line ≡ word ++ rest) × IsPointText s rest p
    by None e k = absurd cc
    by (Some rest) e k = (rest, begins_so word line rest e, point_written s rest p k)

started : (s : Settings) (e : List (List ℕ)) (line : List ℕ) (from : Coordinates) → routed_point (codes "G00") s line ≡ Some (Ok from) → IsRouteAfter (route.Started from) s (e ++ line ∷ [])
started s e line from h =
    let w = word_and_point (codes "G00") s line from h in
    (ap starts (last_is e line ∙ w.1), last_point_more (codes "G00") s e line ∙ ap (λ (o : RowOf Coordinates). option_or (point_read o) (last_point (codes "G00") s e)) h)

pub free_follows : (s : Settings) (e : List (List ℕ)) (line : List ℕ) (now : Machine) → IsFree e → machine_after e ≡ now → Follows (route_step (route.Free now) s line) s e line
unfolding route_step
free_follows s e line now free h =
    subst (λ (m : Meaning). FollowsTo (unwrap_or (wide_step now next s line) (meaning s line >>= other_step now next)) m s e line) (sym (free_meaning s e line now free h)) (stand (may_stand now line))
  where
    next : Machine
    next = next_machine now line

    leaves : machine_after (e ++ line ∷ []) ≡ next
    leaves = machine_more e line ∙ ap (λ (now : Machine). next_machine now line) h

    read : (c : Option DrillCommand) → IsApart line → (t : Bool) → FollowsTo (cond t (Err Routed) (Ok c) >>= λ c. Ok (c, route.Free next)) (cond t (Err Routed) (Ok c)) s e line
    read c apart true = refl
    read c apart false = (refl, λ later k. (free_more e line apart, leaves))

    other : (m : Meaning) → meaning s line ≡ m → FollowsTo (m >>= other_step now next) (m >>= unless_routing now) s e line
    other (Ok c) reads = read c (quiet s line c reads).apart (is_routing now && is_hole c)
    other (Err why) reads = refl

    tail : FollowsTo (meaning s line >>= other_step now next) (meaning s line >>= unless_routing now) s e line
    tail = other (meaning s line) refl

    ends : (t : Bool) → bytes_eq line (codes "M30") ≡ t → FollowsTo (unwrap_or (cond t (Some (Ok (Some Finish, route.Free next))) None) (meaning s line >>= other_step now next)) (unwrap_or (cond t (Some (Ok (Some Finish))) None) (meaning s line >>= unless_routing now)) s e line
    ends true k = (refl, λ later x. (free_more e line (subst IsApart (sym (bytes_are line (codes "M30") k)) (refl, refl, refl)), leaves))
    ends false k = tail

    begins : (o : RowOf Coordinates) → routed_point (codes "G00") s line ≡ o → FollowsTo (unwrap_or (option_map (λ read. read >>= λ from. Ok (None, route.Started from)) o) (meaning s line >>= other_step now next)) (unwrap_or (option_map (λ read. read >>= λ point. Ok None) o) (meaning s line >>= unless_routing now)) s e line
    begins None k = tail
    begins (Some (Ok from)) k = (refl, λ later x. subst (λ (l : Settings). IsRouteAfter (route.Started from) l (e ++ line ∷ [])) (sym x) (started s e line from k))
    begins (Some (Err why)) k = refl

    by : (p : Part) → FollowsTo (unwrap_or (part_step next p s line) (meaning s line >>= other_step now next)) (unwrap_or (part_row p s line) (meaning s line >>= unless_routing now)) s e line
    by part.Before = ends (bytes_eq line (codes "M30")) refl
    by part.Header = tail
    by part.Body = begins (routed_point (codes "G00") s line) refl
    by part.After = tail

    says : (t : Bool) → says_nothing s.part line ≡ t
        → FollowsTo (unwrap_or (cond t (Some (Ok (None, route.Free next))) (part_step next s.part s line)) (meaning s line >>= other_step now next)) (unwrap_or (cond t (Some (Ok None)) (part_row s.part s line)) (meaning s line >>= unless_routing now)) s e line
    says true k = (refl, λ later x. (free_more e line (old_apart s.part line k), leaves))
    says false k = by s.part

    stand : (t : Bool)
        → FollowsTo (unwrap_or (cond t (cond (says_nothing s.part line) (Some (Ok (None, route.Free next))) (part_step next s.part s line)) (Some (Err BadLine))) (meaning s line >>= other_step now next)) (unwrap_or (cond t (cond (says_nothing s.part line) (Some (Ok None)) (part_row s.part s line)) (Some (Err BadLine))) (meaning s line >>= unless_routing now)) s e line
    stand true = says (says_nothing s.part line) refl
    stand false = refl

pub started_step : (s : Settings) (e : List (List ℕ)) (line : List ℕ) (from : Coordinates) → IsRouteAfter (route.Started from) s e → Follows (second_step from line) s e line
started_step s e line from h = subst (λ (m : Meaning). FollowsTo (second_step from line) m s e line) (sym (meaning_by s e line true (lowers (last_line e)) (cuts (last_line e)) h.0 refl refl)) (by (lowers line) refl)
  where
    by : (t : Bool) → lowers line ≡ t → FollowsTo (cond t (Ok (None, route.Lowered from)) (Err Routed)) (cond t (Ok None) (Err Routed)) s e line
    by true k =
        let is = bytes_are line (codes "M15") k in
        let point : last_point (codes "G00") s (e ++ line ∷ []) ≡ Some from =
        last_point_more (codes "G00") s e line ∙ (ap (λ (l : List ℕ). option_or (point_read (routed_point (codes "G00") s l)) (last_point (codes "G00") s e)) is ∙ h.1) in
        (refl, λ later x. subst (λ (l : Settings). IsRouteAfter (route.Lowered from) l (e ++ line ∷ [])) (sym x) (last_is e line ∙ is, point))
    by false k = refl

pub lowered_step : (s : Settings) (e : List (List ℕ)) (line : List ℕ) (from : Coordinates) → IsRouteAfter (route.Lowered from) s e → Follows (third_step from s line) s e line
lowered_step s e line from h = subst (λ (m : Meaning). FollowsTo (third_step from s line) m s e line) (sym (meaning_by s e line false true (cuts (last_line e)) (ap starts h.0) (ap lowers h.0) refl)) (by (routed_point (codes "G01") s line) refl)
  where
    by : (o : RowOf Coordinates) → routed_point (codes "G01") s line ≡ o → FollowsTo (unwrap_or (option_map (λ read. read >>= λ to. Ok (None, route.Cut from to)) o) (Err Routed)) (unwrap_or (option_map (λ read. read >>= λ point. Ok None) o) (Err Routed)) s e line
    by None k = refl
    by (Some (Err why)) k = refl
    by (Some (Ok to)) k =
        let w = word_and_point (codes "G01") s line to k in
        let first : last_point (codes "G00") s (e ++ line ∷ []) ≡ Some from =
        last_point_more (codes "G00") s e line ∙ (ap (λ (l : List ℕ). option_or (point_read (routed_point (codes "G00") s l)) (last_point (codes "G00") s e)) w.1 ∙ h.1) in
        let second : last_point (codes "G01") s (e ++ line ∷ []) ≡ Some to =
        last_point_more (codes "G01") s e line ∙ ap (λ (o : RowOf Coordinates). option_or (point_read o) (last_point (codes "G01") s e)) k in
        let is = last_is e line ∙ w.1 in
        (refl, λ later x. subst (λ (l : Settings). IsRouteAfter (route.Cut from to) l (e ++ line ∷ [])) (sym x) (ap starts is, ap lowers is, ap cuts is, first, second))

pub cut_step : (s : Settings) (e : List (List ℕ)) (line : List ℕ) (from to : Coordinates) → IsRouteAfter (route.Cut from to) s e → Follows (fourth_step from to line) s e line
cut_step s e line from to h = subst (λ (m : Meaning). FollowsTo (fourth_step from to line) m s e line) (sym (meaning_by s e line false false true h.0 h.1 h.2 ∙ slot)) (by (raises line) refl)
  where
    slot : fourth_line e s line ≡ cond (raises line) (Ok (Some (Slot from to))) (Err Routed)
    slot = λ i. cond (raises line) (slot_between (h.3 i) (h.4 i)) (Err Routed)

    by : (t : Bool) → raises line ≡ t → FollowsTo (cond t (Ok (Some (Slot from to), route.Free machine.Routing)) (Err Routed)) (cond t (Ok (Some (Slot from to))) (Err Routed)) s e line
    by true k = (
      refl,
      λ later x. (
        free_more e line (either_apart line (codes "M16") (codes "M17") (refl, refl, refl) (refl, refl, refl) k),
        machine_more e line ∙ ap (λ t. unwrap_or (cond t (Some machine.Routing) (cond (bytes_eq line (codes "G05")) (Some machine.Drilling) (cond (bytes_eq line (codes "M00")) (Some machine.Stopped) None))) (machine_after e)) k,
      ),
    )
    by false k = refl

pub route_follows : (r : Route) (s : Settings) (e : List (List ℕ)) (line : List ℕ) → IsRouteAfter r s e → Follows (route_step r s line) s e line
unfolding route_step
route_follows (route.Free now) s e line h = free_follows s e line now h.0 h.1
route_follows (route.Started from) s e line h = started_step s e line from h
route_follows (route.Lowered from) s e line h = lowered_step s e line from h
route_follows (route.Cut from to) s e line h = cut_step s e line from to h

-- ---- a reader of lines

-- where no line of a route is due and the machine drills, a line spells what it does in the strict profile, and the reader stays
pub drilling_line : (reader : LineReader) (profile : Profile) (s : Settings) (e : List (List ℕ)) (line : List ℕ) (c : Option DrillCommand) → HasReadLines reader profile s e → reader.route ≡ route.Free machine.Drilling → meaning s line ≡ Ok c → ReadsLine (Ok c) reader profile s e line
drilling_line reader Strict s e line c h at reads = (reads, λ later x. record { in_profile = h.in_profile; route = at })
drilling_line reader Wide s e line c h at reads =
    let before : IsRouteAfter (route.Free machine.Drilling) s e = subst (λ (r : Route). IsRouteAfter r s e) at h.route in
    let k = strict_line s e line c before.0 before.1 reads in
    (k.0, λ later x. record { in_profile = h.in_profile; route = subst (λ (r : Route). IsRouteAfter r later (e ++ line ∷ [])) (sym at) (k.1.0, k.1.1) })

-- at the start of a file no line of a route is due
pub starts_free : (p : Profile) (s : Settings) → IsRouteIn p (route.Free machine.Drilling) s []
starts_free Strict s = refl
starts_free Wide s = ((refl, refl, refl), refl)

pub step_taken : (r : Route) (s : Settings) (e : List (List ℕ)) (line : List ℕ) (step : Step) → IsRouteAfter r s e → route_step r s line ≡ Ok step
    → (wide_meaning e s line ≡ Ok step.0) × ((later : Settings) → IsLater step.0 s later → IsRouteAfter step.1 later (e ++ line ∷ []))
step_taken r s e line step h k = subst (λ (x : Result Step Reason). Follows x s e line) k (route_follows r s e line h)

pub step_refused : (r : Route) (s : Settings) (e : List (List ℕ)) (line : List ℕ) (f : ItemFail) → IsRouteAfter r s e → IsRefusedAs f (route_step r s line) → IsRefusedAs f (wide_meaning e s line)
step_refused r s e line stops.Memory h k = tt
step_refused r s e line (stops.Refused why) h k = subst (λ (x : Result Step Reason). Follows x s e line) k (route_follows r s e line h)

-- what a reader answers in the strict profile is what the line spells by itself
pub strict_answers : (reader : LineReader) (profile : Profile) (s : Settings) (e : List (List ℕ)) (line : List ℕ) (result : Result (Option DrillCommand) ItemFail) → reader.profile ≡ Strict → HasReadLines reader profile s e → Gives result (meaning s line) → ReadsLine result reader profile s e line
strict_answers reader Strict s e line (Ok c) is h k = (k, λ later x. record { in_profile = h.in_profile; route = h.route })
strict_answers reader Strict s e line (Err f) is h k = k
strict_answers reader Wide s e line result is h k = let no : Strict ≡ Wide = sym is ∙ h.in_profile in absurd cc

-- and in the wide one what it answers there
pub wide_answers : (old new : LineReader) (profile : Profile) (s : Settings) (e : List (List ℕ)) (line : List ℕ) (result : Result (Option DrillCommand) ItemFail) → old.profile ≡ Wide → HasReadLines old profile s e → (HasReadLines old Wide s e → ReadsLine result new Wide s e line) → ReadsLine result new profile s e line
wide_answers old new Wide s e line result is h k = k h
wide_answers old new Strict s e line result is h k = let no : Wide ≡ Strict = sym is ∙ h.in_profile in absurd cc

-- ---- what lines spell, and only these

-- `M30` before `M48` ends the file
pub early_end_read : (s : Settings) (e : List (List ℕ)) (line : List ℕ) → IsFree e → may_stand (machine_after e) line ≡ true → s.part ≡ part.Before → line ≡ codes "M30" → (wide_meaning e s line ≡ Ok (Some Finish)) × IsFree (e ++ line ∷ [])
early_end_read s e line free stands before is =
    let now = machine_after e in
    let finish : RowOf (Option DrillCommand) = Some (Ok (Some Finish)) in
    let row : wide_row now s line ≡ finish = said_row now s line stands (ap (λ (p : Part). says_nothing p line) before) ∙ (ap (λ (p : Part). part_row p s line) before ∙ ap (part_row part.Before s) is) in (
      free_meaning s e line now free refl ∙ ap (λ (row : RowOf (Option DrillCommand)). unwrap_or row (meaning s line >>= unless_routing now)) row,
      free_more e line (subst IsApart (sym is) (refl, refl, refl)),
    )

-- words of older texts say nothing
pub old_read : (s : Settings) (e : List (List ℕ)) (line : List ℕ) → IsFree e → may_stand (machine_after e) line ≡ true → says_nothing s.part line ≡ true → (wide_meaning e s line ≡ Ok None) × IsFree (e ++ line ∷ [])
old_read s e line free stands says =
    let now = machine_after e in
    let rest = meaning s line >>= unless_routing now in (
      free_meaning s e line now free refl
          ∙ (ap (λ t. unwrap_or (cond t (cond (says_nothing s.part line) (Some (Ok None)) (part_row s.part s line)) (Some (Err BadLine))) rest) stands
          ∙ ap (λ t. unwrap_or (cond t (Some (Ok None)) (part_row s.part s line)) rest) says),
      free_more e line (old_apart s.part line says),
    )

-- an empty line changes nothing where no line of a route is due
pub empty_line : (s : Settings) (e : List (List ℕ)) (now : Machine) → IsRouteAfter (route.Free now) s e → IsRouteAfter (route.Free now) s (e ++ [] ∷ [])
empty_line s e now at = (free_more e [] (refl, refl, refl), machine_more e [] ∙ at.1)

pub empty_stands : (now : Machine) → may_stand now [] ≡ true
empty_stands machine.Drilling = refl
empty_stands machine.Routing = refl
empty_stands machine.Stopped = refl

-- what each of the four lines of a route spells
pub record SpellsRoute (s : Settings) (e : List (List ℕ)) (first second third fourth : List ℕ) (from to : Coordinates) : Type 0 where
  pub one : wide_meaning e s first ≡ Ok None
  pub two : wide_meaning (e ++ first ∷ []) s second ≡ Ok None
  pub three : wide_meaning ((e ++ first ∷ []) ++ second ∷ []) s third ≡ Ok None
  pub four : wide_meaning (((e ++ first ∷ []) ++ second ∷ []) ++ third ∷ []) s fourth ≡ Ok (Some (Slot from to))
  pub free : IsFree ((((e ++ first ∷ []) ++ second ∷ []) ++ third ∷ []) ++ fourth ∷ [])

pub route_read : (s : Settings) (e : List (List ℕ)) (first second third fourth : List ℕ) (from to : Coordinates) → IsFree e → IsRoute s (machine_after e) first second third fourth from to → SpellsRoute s e first second third fourth from to
unfolding route_step
route_read s e first second third fourth from to free r =
    let e1 : List (List ℕ) = e ++ first ∷ [] in
    let e2 : List (List ℕ) = e1 ++ second ∷ [] in
    let e3 : List (List ℕ) = e2 ++ third ∷ [] in
    let from_read : routed_point (codes "G00") s first ≡ Some (Ok from) = ap (routed_point (codes "G00") s) r.first_is ∙ point_answered s r.start from r.from_is in
    let to_read : routed_point (codes "G01") s third ≡ Some (Ok to) = ap (routed_point (codes "G01") s) r.third_is ∙ point_answered s r.target to r.to_is in
    let now = machine_after e in
    let next = next_machine now first in
    let other : Result Step Reason = meaning s first >>= other_step now next in
    let says : says_nothing s.part first ≡ false = ap (λ (p : Part). says_nothing p first) r.in_body ∙ ap (says_nothing part.Body) r.first_is in
    let begins : route_step (route.Free now) s first ≡ Ok (None, route.Started from) =
    ap (λ t. unwrap_or (cond t (cond (says_nothing s.part first) (Some (Ok (None, route.Free next))) (part_step next s.part s first)) (Some (Err BadLine))) other) r.stands
    ∙ (ap (λ t. unwrap_or (cond t (Some (Ok (None, route.Free next))) (part_step next s.part s first)) other) says
    ∙ (ap (λ (p : Part). unwrap_or (part_step next p s first) other) r.in_body
    ∙ ap (λ (o : RowOf Coordinates). unwrap_or (option_map (λ read. read >>= λ point. Ok (None, route.Started point)) o) other) from_read)) in
    let a = subst (λ (x : Result Step Reason). Follows x s e first) begins (free_follows s e first now free refl) in
    let b = subst (λ (x : Result Step Reason). Follows x s e1 second) (ap (second_step from) r.second_is) (started_step s e1 second from (a.1 s refl)) in
    let turns : third_step from s third ≡ Ok (None, route.Cut from to) = ap (λ (o : RowOf Coordinates). unwrap_or (option_map (λ read. read >>= λ point. Ok (None, route.Cut from point)) o) (Err Routed)) to_read in
    let c = subst (λ (x : Result Step Reason). Follows x s e2 third) turns (lowered_step s e2 third from (b.1 s refl)) in
    let raising : raises fourth ≡ true = elim r.fourth_is [ inl is ↦ ap raises is | inr is ↦ ap raises is ] in
    let ends : fourth_step from to fourth ≡ Ok (Some (Slot from to), route.Free machine.Routing) = ap (λ t. cond t (Ok (Some (Slot from to), route.Free machine.Routing)) (Err Routed)) raising in
    let d = subst (λ (x : Result Step Reason). Follows x s e3 fourth) ends (cut_step s e3 fourth from to (c.1 s refl)) in
    record { one = a.0; two = b.0; three = c.0; four = d.0; free = (d.1 s tt).0 }

-- ---- and only these

-- what a line that is read is, by how far the route has come
abbrev pub IsWritten : Route → Settings → List ℕ → Option DrillCommand → Route → Type 0
IsWritten (route.Free now) s line c next = ((after : Machine) × (next ≡ route.Free after) × IsAlone s now line c)
    ⊎ ((from : Coordinates) × (start : List ℕ) × (may_stand now line ≡ true) × (s.part ≡ part.Body) × (line ≡ codes "G00" ++ start) × IsPointText s start from × (c ≡ None) × (next ≡ route.Started from))
IsWritten (route.Started from) s line c next = (line ≡ codes "M15") × (c ≡ None) × (next ≡ route.Lowered from)
IsWritten (route.Lowered from) s line c next = (to : Coordinates) × (target : List ℕ) × (line ≡ codes "G01" ++ target) × IsPointText s target to × (c ≡ None) × (next ≡ route.Cut from to)
IsWritten (route.Cut from to) s line c next = ((line ≡ codes "M16") ⊎ (line ≡ codes "M17")) × (c ≡ Some (Slot from to)) × (next ≡ route.Free machine.Routing)

-- a step that answers is one of a line so written
abbrev StepWritten : Route → Settings → List ℕ → Result Step Reason → Type 0
StepWritten r s line (Ok step) = IsWritten r s line step.0 step.1
StepWritten r s line (Err why) = Unit {0}

free_written : (now : Machine) (s : Settings) (line : List ℕ) → StepWritten (route.Free now) s line (route_step (route.Free now) s line)
unfolding route_step
free_written now s line = stand (may_stand now line) refl
  where
    next : Machine
    next = next_machine now line

    other : (c : Option DrillCommand) → may_stand now line ≡ true → meaning s line ≡ Ok c → (t : Bool) → (is_routing now && is_hole c) ≡ t → StepWritten (route.Free now) s line (cond t (Err Routed) (Ok c) >>= λ c. Ok (c, route.Free next))
    other c stands reads true e = tt
    other c stands reads false e = inl (next, refl, (stands, inl (answers_are_written s line c reads, e)))

    tail : may_stand now line ≡ true → (m : Meaning) → meaning s line ≡ m → StepWritten (route.Free now) s line (m >>= other_step now next)
    tail stands (Ok c) reads = other c stands reads (is_routing now && is_hole c) refl
    tail stands (Err why) reads = tt

    ends : may_stand now line ≡ true → (t : Bool) → bytes_eq line (codes "M30") ≡ t → s.part ≡ part.Before → StepWritten (route.Free now) s line (unwrap_or (cond t (Some (Ok (Some Finish, route.Free next))) None) (meaning s line >>= other_step now next))
    ends stands true e before = inl (next, refl, (stands, inr (inl (before, bytes_are line (codes "M30") e, refl))))
    ends stands false e before = tail stands (meaning s line) refl

    begins : may_stand now line ≡ true → (o : RowOf Coordinates) → routed_point (codes "G00") s line ≡ o → s.part ≡ part.Body → StepWritten (route.Free now) s line (unwrap_or (option_map (λ read. read >>= λ from. Ok (None, route.Started from)) o) (meaning s line >>= other_step now next))
    begins stands None e body = tail stands (meaning s line) refl
    begins stands (Some (Ok from)) e body = let w = word_and_point (codes "G00") s line from e in inr (from, w.0, stands, body, w.1, w.2, refl, refl)
    begins stands (Some (Err why)) e body = tt

    by : may_stand now line ≡ true → (p : Part) → s.part ≡ p → StepWritten (route.Free now) s line (unwrap_or (part_step next p s line) (meaning s line >>= other_step now next))
    by stands part.Before e = ends stands (bytes_eq line (codes "M30")) refl e
    by stands part.Header e = tail stands (meaning s line) refl
    by stands part.Body e = begins stands (routed_point (codes "G00") s line) refl e
    by stands part.After e = tail stands (meaning s line) refl

    says : may_stand now line ≡ true → (t : Bool) → says_nothing s.part line ≡ t → StepWritten (route.Free now) s line (unwrap_or (cond t (Some (Ok (None, route.Free next))) (part_step next s.part s line)) (meaning s line >>= other_step now next))
    says stands true e = inl (next, refl, (stands, inr (inr (e, refl))))
    says stands false e = by stands s.part refl

    stand : (t : Bool) → may_stand now line ≡ t → StepWritten (route.Free now) s line (unwrap_or (cond t (cond (says_nothing s.part line) (Some (Ok (None, route.Free next))) (part_step next s.part s line)) (Some (Err BadLine))) (meaning s line >>= other_step now next))
    stand true e = says e (says_nothing s.part line) refl
    stand false e = tt

step_written : (r : Route) (s : Settings) (line : List ℕ) → StepWritten r s line (route_step r s line)
unfolding route_step
step_written (route.Free now) s line = free_written now s line
step_written (route.Started from) s line = by (lowers line) refl
  where
    by : (t : Bool) → lowers line ≡ t → StepWritten (route.Started from) s line (cond t (Ok (None, route.Lowered from)) (Err Routed))
    by true e = (bytes_are line (codes "M15") e, refl, refl)
    by false e = tt
step_written (route.Lowered from) s line = by (routed_point (codes "G01") s line) refl
  where
    by : (o : RowOf Coordinates) → routed_point (codes "G01") s line ≡ o → StepWritten (route.Lowered from) s line (unwrap_or (option_map (λ read. read >>= λ to. Ok (None, route.Cut from to)) o) (Err Routed))
    by None e = tt
    by (Some (Ok to)) e = let w = word_and_point (codes "G01") s line to e in (to, w.0, w.1, w.2, refl, refl)
    by (Some (Err why)) e = tt
step_written (route.Cut from to) s line = by (raises line) refl
  where
    by : (t : Bool) → raises line ≡ t → StepWritten (route.Cut from to) s line (cond t (Ok (Some (Slot from to), route.Free machine.Routing)) (Err Routed))
    by true e = (either_is line (codes "M16") (codes "M17") e, refl, refl)
    by false e = tt

-- how far the route has come after a line that is read, and how the line is written
pub record ReadsOn (r : Route) (s : Settings) (e : List (List ℕ)) (line : List ℕ) (c : Option DrillCommand) : Type 0 where
  pub next : Route
  pub written : IsWritten r s line c next
  pub after : (later : Settings) → IsLater c s later → IsRouteAfter next later (e ++ line ∷ [])

pub reads_on : (r : Route) (s : Settings) (e : List (List ℕ)) (line : List ℕ) (c : Option DrillCommand) → IsRouteAfter r s e → wide_meaning e s line ≡ Ok c → ReadsOn r s e line c
reads_on r s e line c h reads = by (route_step r s line) (route_follows r s e line h) (step_written r s line)
  where
    by : (step : Result Step Reason) → Follows step s e line → StepWritten r s line step → ReadsOn r s e line c
    by (Err why) follows written = absurd (never why (sym follows ∙ reads))
      where
        never : (why : Reason) → Err why ≡ Ok c → ⊥
        never why k = absurd cc
    by (Ok step) follows written =
        let same : step.0 ≡ c = one (sym follows.0 ∙ reads) in record {
          next = step.1;
          written = subst (λ (x : Option DrillCommand). IsWritten r s line x step.1) same written;
          after = subst (λ (x : Option DrillCommand). (later : Settings) → IsLater x s later → IsRouteAfter step.1 later (e ++ line ∷ [])) same follows.1;
        }
      where
        one : (let spelled : Meaning = Ok step.0 in spelled ≡ Ok c) → step.0 ≡ c
        one k = cc
