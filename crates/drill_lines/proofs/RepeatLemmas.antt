-- A line that repeats a hit is so written; it spells nothing by itself, and the reader of lines stays as it is.
use Rattle.drill_lines.proofs.Common.{◌≡◌, ◌≤◌, inl, inr, ℕ, suc, Bool, true, false, cond, not, ◌||◌, ◌&&◌, eqb, leb, List, [], ◌∷◌, ◌++◌, length, drop, ℤ, Option, None, Some, is_some, Result, Ok, Err, refl, sym, ap, subst, ◌∙◌, arith, append_assoc, codes, take_while, list_all, prefix_len, le-leb, leb-true, nat_tests, option_map, Reason, BadNumber, ◌>>=◌, both, RowOf, strip_prefix, is_digit, is_digits, value, both_true, Coordinates, Part, Settings, DrillCommand, Wide, IsCoordinate, meaning}
use Rattle.std.proofs.Common.{unwrap_or}
use Rattle.std.specs.Prelude.{option_and_then}
use Rattle.grid_units.proofs.ListLemmas.{take_while_append, drop_run_append}
use Rattle.grid_units.proofs.ResultLemmas.{bind_ok, both_ok}
use Rattle.grid_units.specs.declared.fault.Reason.TheVariants.{Repeat as Repeated}
use Rattle.grid_units.specs.declared.profile.Profile.{Profile}
use Rattle.grid_units.specs.declared.profile.Profile.TheVariants.{Strict}
use Rattle.drill_lines.specs.declared.command.Part.TheVariants as part
use Rattle.drill_lines.specs.declared.command.Repeat.{Repeat}
use Rattle.drill_lines.specs.declared.line_reader.LineReader.{LineReader}
use Rattle.drill_lines.specs.declared.route.Machine.{Machine}
use Rattle.drill_lines.specs.declared.route.Machine.TheVariants as machine
use Rattle.drill_lines.specs.declared.route.Route.{Route}
use Rattle.drill_lines.specs.declared.route.Route.TheVariants as route
use Rattle.drill_lines.specs.HoleLines.{point_line}
use Rattle.drill_lines.specs.Inner.RouteSteps.{IsFree, IsRouteAfter, is_free_to_drill}
use Rattle.drill_lines.specs.Laws.{RepeatsAreWritten, SpelledRepeatsNone}
use Rattle.drill_lines.specs.LineReading.{HasReadLines}
use Rattle.drill_lines.specs.Meaning.{Meaning, body_prefixes, line_in}
use Rattle.drill_lines.specs.Repeats.{IsRepeatLine, IsStepText, drills_on, is_drilling, no_step, repeat_count, repeat_fields, repeat_in, repeat_of, repeat_row, step_row}
use Rattle.drill_lines.specs.Routes.{cuts, last_line, lowers, machine_after, other_line, part_row, says_nothing, starts, unless_routing, wide_meaning}
use Rattle.drill_lines.proofs.Answered.{means, point_answered, read_in_part}
use Rattle.drill_lines.proofs.CutLemmas.{begins_so, passed, run_and_rest}
use Rattle.drill_lines.proofs.RouteLemmas.{IsApart, free_meaning, free_more, machine_more, next_machine}
use Rattle.drill_lines.proofs.WrittenFields.{point_written}

-- ---- where lines may repeat a hit

-- no line of a route is due, and the machine drills
pub record IsDrillingOn (earlier : List (List ℕ)) : Type 0 where
  pub free : IsFree earlier
  pub drills : machine_after earlier ≡ machine.Drilling

pub drilling_on : (earlier : List (List ℕ)) → drills_on earlier ≡ true → IsDrillingOn earlier
drilling_on earlier h = by (starts (last_line earlier)) (lowers (last_line earlier)) (cuts (last_line earlier)) (machine_after earlier) refl refl refl refl h
  where
    by : (t u v : Bool) (now : Machine) → starts (last_line earlier) ≡ t → lowers (last_line earlier) ≡ u → cuts (last_line earlier) ≡ v → machine_after earlier ≡ now → (not (t || (u || v)) && is_drilling now) ≡ true → IsDrillingOn earlier
    by true u v now a b c d e = absurd cc
    by false true v now a b c d e = absurd cc
    by false false true now a b c d e = absurd cc
    by false false false machine.Drilling a b c d e = record { free = (a, b, c); drills = d }
    by false false false machine.Routing a b c d e = absurd cc
    by false false false machine.Stopped a b c d e = absurd cc

pub on_drilling : (earlier : List (List ℕ)) → IsDrillingOn earlier → drills_on earlier ≡ true
on_drilling earlier h = λ i. not (h.free.0 i || (h.free.1 i || h.free.2 i)) && is_drilling (h.drills i)

-- a reader knows it by its route
pub route_drills : (r : Route) (s : Settings) (earlier : List (List ℕ)) → IsRouteAfter r s earlier → drills_on earlier ≡ is_free_to_drill r
route_drills (route.Free now) s earlier h = λ i. not (h.0.0 i || (h.0.1 i || h.0.2 i)) && is_drilling (h.1 i)
route_drills (route.Started from) s earlier h = ap (λ t. not (t || (lowers (last_line earlier) || cuts (last_line earlier))) && is_drilling (machine_after earlier)) h.0
route_drills (route.Lowered from) s earlier h = ap (λ (l : List ℕ). not (starts l || (lowers l || cuts l)) && is_drilling (machine_after earlier)) h.0
route_drills (route.Cut from to) s earlier h = λ i. not (h.0 i || (h.1 i || h.2 i)) && is_drilling (machine_after earlier)

-- ---- a line that repeats a hit

-- it stands in the body, and begins with `R`
pub record BeginsRepeat (s : Settings) (line : List ℕ) (read : Result Repeat Reason) : Type 0 where
  pub in_body : s.part ≡ part.Body
  pub rest : List ℕ
  pub begins : line ≡ codes "R" ++ rest
  pub fields : repeat_fields s (take_while is_digit rest) (drop (prefix_len is_digit rest) rest) ≡ Some read

pub begins_repeat : (s : Settings) (line : List ℕ) (read : Result Repeat Reason) → repeat_row s.part s line ≡ Some read → BeginsRepeat s line read
unfolding repeat_row
begins_repeat s line read h = by s.part refl h
  where
    stripped : s.part ≡ part.Body → (o : Option (List ℕ)) → strip_prefix (codes "R") line ≡ o → option_and_then (λ rest. repeat_fields s (take_while is_digit rest) (drop (prefix_len is_digit rest) rest)) o ≡ Some read → BeginsRepeat s line read
    stripped body None e k = absurd cc
    stripped body (Some rest) e k = record { in_body = body; rest = rest; begins = begins_so (codes "R") line rest e; fields = k }

    by : (p : Part) → s.part ≡ p → repeat_row p s line ≡ Some read → BeginsRepeat s line read
    by part.Before e k = absurd cc
    by part.Header e k = absurd cc
    by part.Body e k = stripped e (strip_prefix (codes "R") line) refl k
    by part.After e k = absurd cc

-- by itself it is refused
refused_in : (p : Part) (s : Settings) (rest : List ℕ) → p ≡ part.Body → read_in_part p s (codes "R" ++ rest) ≡ Err Repeated
unfolding read_in_part line_in body_prefixes
refused_in part.Body s rest e = refl
refused_in part.Before s rest e = absurd cc
refused_in part.Header s rest e = absurd cc
refused_in part.After s rest e = absurd cc

pub repeat_refused : (s : Settings) (line rest : List ℕ) → s.part ≡ part.Body → line ≡ codes "R" ++ rest → meaning s line ≡ Err Repeated
repeat_refused s line rest body is = means s line ∙ (ap (read_in_part s.part s) is ∙ refused_in s.part s rest body)

-- in the wide profile too, where it may stand
no_wide_row : (p : Part) (s : Settings) (rest : List ℕ) → p ≡ part.Body → cond (says_nothing p (codes "R" ++ rest)) (Some (Ok None)) (part_row p s (codes "R" ++ rest)) ≡ None
no_wide_row part.Body s rest e = refl
no_wide_row part.Before s rest e = absurd cc
no_wide_row part.Header s rest e = absurd cc
no_wide_row part.After s rest e = absurd cc

pub wide_refused : (s : Settings) (earlier : List (List ℕ)) (line rest : List ℕ) → IsDrillingOn earlier → s.part ≡ part.Body → line ≡ codes "R" ++ rest → wide_meaning earlier s line ≡ Err Repeated
wide_refused s earlier line rest drilling body is =
    free_meaning s earlier line machine.Drilling drilling.free drilling.drills
    ∙ (ap (other_line machine.Drilling s) is
    ∙ (ap (λ (row : RowOf (Option DrillCommand)). unwrap_or row (meaning s (codes "R" ++ rest) >>= unless_routing machine.Drilling)) (no_wide_row s.part s rest body)
    ∙ ap (λ (m : Meaning). m >>= unless_routing machine.Drilling) (repeat_refused s (codes "R" ++ rest) rest body refl)))

-- a line that spells something by itself, or nothing, repeats no hit
pub none_repeated : SpelledRepeatsNone
none_repeated Strict after_hit earlier s line spelled h = refl
none_repeated Wide after_hit earlier s line spelled h = by (after_hit && drills_on earlier) (repeat_row s.part s line) refl refl
  where
    by : (t : Bool) (row : RowOf Repeat) → (after_hit && drills_on earlier) ≡ t → repeat_row s.part s line ≡ row → cond t row None ≡ None
    by false row e k = refl
    by true None e k = refl
    by true (Some read) e k =
        let b = begins_repeat s line read k in
        let no : Ok spelled ≡ Err Repeated = sym h ∙ wide_refused s earlier line b.rest (drilling_on earlier (both_true after_hit (drills_on earlier) e).1) b.in_body b.begins in
        absurd cc

-- nor does an empty line
pub none_empty : (after_hit : Bool) (earlier : List (List ℕ)) (s : Settings) → repeat_in Wide after_hit earlier s [] ≡ None
unfolding repeat_row
none_empty after_hit earlier s = by (after_hit && drills_on earlier) s.part
  where
    row : (p : Part) → repeat_row p s [] ≡ None
    row part.Before = refl
    row part.Header = refl
    row part.Body = refl
    row part.After = refl

    by : (t : Bool) (p : Part) → cond t (repeat_row p s []) None ≡ None
    by true p = row p
    by false p = refl

-- ---- a reader of lines

-- a line that repeats a hit stands in the wide profile, where the machine drills
pub record IsRepeated (after_hit : Bool) (earlier : List (List ℕ)) (s : Settings) (line : List ℕ) (read : Result Repeat Reason) : Type 0 where
  pub after : after_hit ≡ true
  pub drilling : IsDrillingOn earlier
  pub row : repeat_row s.part s line ≡ Some read

pub is_repeated : (after_hit : Bool) (earlier : List (List ℕ)) (s : Settings) (line : List ℕ) (read : Result Repeat Reason) → repeat_in Wide after_hit earlier s line ≡ Some read → IsRepeated after_hit earlier s line read
is_repeated after_hit earlier s line read h = by (after_hit && drills_on earlier) refl h
  where
    by : (t : Bool) → (after_hit && drills_on earlier) ≡ t → cond t (repeat_row s.part s line) None ≡ Some read → IsRepeated after_hit earlier s line read
    by true e k = let b = both_true after_hit (drills_on earlier) e in record { after = b.0; drilling = drilling_on earlier b.1; row = k }
    by false e k = absurd cc

-- after it no line of a route is due, and the machine drills still
pub repeat_more : (earlier : List (List ℕ)) (line rest : List ℕ) → IsDrillingOn earlier → line ≡ codes "R" ++ rest → IsDrillingOn (earlier ++ line ∷ [])
repeat_more earlier line rest drilling is = record {
  free = free_more earlier line (subst IsApart (sym is) (refl, refl, refl));
  drills = machine_more earlier line ∙ ((λ i. next_machine (drilling.drills i) (is i)) ∙ refl);
}

pub repeat_stays : (reader : LineReader) (profile : Profile) (after_hit : Bool) (s later : Settings) (earlier : List (List ℕ)) (line : List ℕ) (read : Result Repeat Reason)
    → HasReadLines reader profile s earlier → repeat_in profile after_hit earlier s line ≡ Some read → HasReadLines reader profile later (earlier ++ line ∷ [])
repeat_stays reader Strict after_hit s later earlier line read h k = absurd cc
repeat_stays reader Wide after_hit s later earlier line read h k =
    let r = is_repeated after_hit earlier s line read k in
    let b = begins_repeat s line read r.row in
    record { in_profile = h.in_profile; route = stays reader.route h.route (repeat_more earlier line b.rest r.drilling b.begins) (sym (route_drills reader.route s earlier h.route) ∙ on_drilling earlier r.drilling) }
  where
    stays : (r : Route) → IsRouteAfter r s earlier → IsDrillingOn (earlier ++ line ∷ []) → is_free_to_drill r ≡ true → IsRouteAfter r later (earlier ++ line ∷ [])
    stays (route.Free machine.Drilling) at more e = (more.free, more.drills)
    stays (route.Free machine.Routing) at more e = absurd cc
    stays (route.Free machine.Stopped) at more e = absurd cc
    stays (route.Started from) at more e = absurd cc
    stays (route.Lowered from) at more e = absurd cc
    stays (route.Cut from to) at more e = absurd cc

-- what a reader answers of a line that repeats a hit: by its route where it reads in the wide profile
pub wide_repeat : (reader : LineReader) (profile : Profile) (after_hit : Bool) (s : Settings) (earlier : List (List ℕ)) (line : List ℕ) (t : Bool) → HasReadLines reader profile s earlier → reader.profile ≡ Wide → is_free_to_drill reader.route ≡ t → repeat_in profile after_hit earlier s line ≡ cond (after_hit && t) (repeat_row s.part s line) None
wide_repeat reader Strict after_hit s earlier line t h is e = let no : Wide ≡ Strict = sym is ∙ h.in_profile in absurd cc
wide_repeat reader Wide after_hit s earlier line t h is e = ap (λ u. cond (after_hit && u) (repeat_row s.part s line) None) (route_drills reader.route s earlier h.route ∙ e)

pub strict_repeat : (reader : LineReader) (profile : Profile) (after_hit : Bool) (s : Settings) (earlier : List (List ℕ)) (line : List ℕ) → HasReadLines reader profile s earlier → reader.profile ≡ Strict → repeat_in profile after_hit earlier s line ≡ None
strict_repeat reader Strict after_hit s earlier line h is = refl
strict_repeat reader Wide after_hit s earlier line h is = let no : Strict ≡ Wide = sym is ∙ h.in_profile in absurd cc

-- ---- the grammar

count_is : (digits : List ℕ) (n : ℕ) → repeat_count digits ≡ Ok n → (is_digits digits ≡ true) × (n ≡ value digits) × (1 ≤ n) × (n ≤ 10000)
unfolding repeat_count
count_is digits n h =
    let v = value digits in
    let t = passed (is_digits digits && (leb 1 v && leb v 10000)) (Ok v) BadNumber n h in
    let same : v ≡ n = let k : Ok v ≡ Ok n = t.1 in cc in
    let b = both_true (is_digits digits) (leb 1 v && leb v 10000) t.0 in
    let c = both_true (leb 1 v) (leb v 10000) b.1 in
    (b.0, sym same, subst (λ k. 1 ≤ k) same (leb-true 1 v c.0), subst (λ k. k ≤ 10000) same (leb-true v 10000 c.1))

count_read : (digits : List ℕ) (n : ℕ) → is_digits digits ≡ true → n ≡ value digits → 1 ≤ n → n ≤ 10000 → repeat_count digits ≡ Ok n
unfolding repeat_count
count_read digits n all is low high =
    let v = value digits in
    let a : leb 1 v ≡ true = ap (leb 1) (sym is) ∙ le-leb 1 n low in
    let b : leb v 10000 ≡ true = ap (λ k. leb k 10000) (sym is) ∙ le-leb n 10000 high in
    (λ i. cond (all i && (a i && b i)) (Ok v) (Err BadNumber)) ∙ ap (λ k. Ok k) (sym is)

no_bytes : (n : ℕ) → eqb (suc n) 0 ≡ false
no_bytes n = grind (arith, nat_tests)

some_step : (s : Settings) (b : ℕ) (bs : List ℕ) → step_row s (b ∷ bs) ≡ point_line s (b ∷ bs)
some_step s b bs = ap (λ t. cond t (Some (Ok no_step)) (point_line s (b ∷ bs))) (no_bytes (length bs))

step_written : (s : Settings) (text : List ℕ) (step : Coordinates) → step_row s text ≡ Some (Ok step) → IsStepText s text step
step_written s [] step h = inl (refl, cc)
step_written s (b ∷ bs) step h = inr (point_written s (b ∷ bs) step (sym (some_step s b bs) ∙ h))

no_empty_point : (s : Settings) → point_line s [] ≡ None
unfolding point_line
no_empty_point s = refl

step_answered : (s : Settings) (text : List ℕ) (step : Coordinates) → IsStepText s text step → step_row s text ≡ Some (Ok step)
step_answered s text step (inl h) = ap (step_row s) h.0 ∙ ap (λ (p : Coordinates). Some (Ok p)) (sym h.1)
step_answered s [] step (inr h) = let no : None ≡ Some (Ok step) = sym (no_empty_point s) ∙ point_answered s [] step h in absurd cc
step_answered s (b ∷ bs) step (inr h) = some_step s b bs ∙ point_answered s (b ∷ bs) step h

-- a step does not go on with the digits before it
step_ends : (s : Settings) (text : List ℕ) (step : Coordinates) → IsStepText s text step → prefix_len is_digit text ≡ 0
step_ends s text step (inl h) = ap (prefix_len is_digit) h.0
step_ends s text step (inr (x, y, is, x_is, y_is, some)) = ap (prefix_len is_digit) is ∙ by x y step.x step.y x_is y_is some
  where
    by : (x y : List ℕ) (v w : Option ℤ) → IsCoordinate s (codes "X") x v → IsCoordinate s (codes "Y") y w → (is_some v || is_some w) ≡ true → prefix_len is_digit (x ++ y) ≡ 0
    by x y (Some v) w h k e = ap (λ (t : List ℕ). prefix_len is_digit (t ++ y)) h.1
    by x y None (Some w) h k e = ap (λ (t : List ℕ). prefix_len is_digit (t ++ y)) h ∙ ap (prefix_len is_digit) k.1
    by x y None None h k e = absurd cc

fields_written : (s : Settings) (digits text : List ℕ) (repeat : Repeat) → repeat_fields s digits text ≡ Some (Ok repeat) → (repeat_count digits ≡ Ok repeat.count) × (step_row s text ≡ Some (Ok repeat.step))
unfolding repeat_fields
fields_written s digits text repeat h = by (step_row s text) h
  where
    by : (row : RowOf Coordinates) → option_map (repeat_of digits) row ≡ Some (Ok repeat) → (repeat_count digits ≡ Ok repeat.count) × (row ≡ Some (Ok repeat.step))
    by None e = absurd cc
    by (Some read) e =
        let read_is : repeat_of digits read ≡ Ok repeat = cc in
        let b = bind_ok (both (repeat_count digits) read) (λ r. Ok (record { count = r.0; step = r.1 })) repeat read_is in
        let c = both_ok (repeat_count digits) read b.0 b.1 in
        let same : (let q : Repeat = record { count = b.0.0; step = b.0.1 } in q ≡ repeat) = cc in
        (c.0 ∙ ap (λ (q : Repeat). Ok q.count) same, ap (λ r. Some r) (c.1 ∙ ap (λ (q : Repeat). Ok q.step) same))

pub repeat_written : (s : Settings) (line : List ℕ) (repeat : Repeat) → repeat_row s.part s line ≡ Some (Ok repeat) → IsRepeatLine s line repeat
repeat_written s line repeat h =
    let b = begins_repeat s line (Ok repeat) h in
    let digits = take_while is_digit b.rest in
    let text = drop (prefix_len is_digit b.rest) b.rest in
    let f = fields_written s digits text repeat b.fields in
    let n = count_is digits repeat.count f.0 in
    (b.in_body, digits, text, b.begins ∙ ap (λ (l : List ℕ). 82 ∷ l) (sym (run_and_rest is_digit b.rest)), n.0, n.1, n.2, n.3, step_written s text repeat.step f.1)

body_row : (s : Settings) (rest : List ℕ) → repeat_row part.Body s (codes "R" ++ rest) ≡ repeat_fields s (take_while is_digit rest) (drop (prefix_len is_digit rest) rest)
unfolding repeat_row
body_row s rest = refl

pub repeat_answered : (s : Settings) (line : List ℕ) (repeat : Repeat) → IsRepeatLine s line repeat → repeat_row s.part s line ≡ Some (Ok repeat)
unfolding repeat_fields
repeat_answered s line repeat (body, digits, text, is, all, count_eq, low, high, step_is) =
    let d : list_all is_digit digits ≡ true = (both_true (not (eqb (length digits) 0)) (list_all is_digit digits) all).1 in
    let ends = step_ends s text repeat.step step_is in
    (λ i. repeat_row (body i) s ((is ∙ append_assoc (codes "R") digits text) i))
    ∙ (body_row s (digits ++ text)
    ∙ ((λ i. repeat_fields s (take_while_append is_digit digits text d ends i) (drop_run_append is_digit digits text d ends i))
    ∙ ((λ i. option_map (repeat_of digits) (step_answered s text repeat.step step_is i))
    ∙ (λ i. Some (both (count_read digits repeat.count all count_eq low high i) (Ok repeat.step) >>= λ r. Ok (record { count = r.0; step = r.1 }))))))

pub repeats_are_written : RepeatsAreWritten
repeats_are_written s line repeat = (repeat_written s line repeat, repeat_answered s line repeat)
