-- What the rows answer for a line is so written.
use Rattle.drill_lines.proofs.Common.{◌≡◌, ◌≢◌, ℕ, Bool, true, false, cond, ◌&&◌, eqb, List, [], ◌∷◌, ◌++◌, Option, Some, None, Result, Ok, Err, IfOk, refl, sym, ap, subst, arith, codes, AllByRecursion, option_map, eqb-true, Reason, BadLine, Inch, Millimetre, first_match_or, strip_prefix, literal_row, Part, Settings, DrillCommand, Comment, Start, HeaderEnd, UnitCode, Finish, runs_of, has_run, one_command, begins_comment, fixed_lines, IsLine}
use Rattle.std.specs.List.{Contains}
use Rattle.std.proofs.lemmas.List.Elements.{Contains-append_right}
use Rattle.grid_units.specs.declared.fault.Reason.TheVariants.{OldFormat}
use Rattle.drill_lines.specs.declared.command.Part.TheVariants as part
use Rattle.drill_lines.specs.Header.{unit_line}
use Rattle.drill_lines.specs.Tools.{tool_line, pick_line}
use Rattle.drill_lines.specs.HoleLines.{hole_line}
use Rattle.drill_lines.specs.Meaning.{lines_before, common_lines, common_rows, header_ends, header_rows, hole_row, body_prefixes, body_rows, line_in, meaning}
use Rattle.drill_lines.specs.Grammar.{shared_lines}
use Rattle.drill_lines.specs.Laws.{AnswersAreWritten}
use Rattle.drill_lines.proofs.Rows.{RowHas, first_match_has, beginning_has, literal_has, stripped_has, either_has, ok_is}
use Rattle.drill_lines.proofs.WrittenFields.{SpellsOne, unit_spelled, pick_spelled, tool_spelled, hole_spelled}

-- the line is written for what is read, if it is read
abbrev Spells : Settings → List ℕ → Result (Option DrillCommand) Reason → Type 0
Spells s line r = IfOk r (IsLine s line)

one_spelled : (s : Settings) (line : List ℕ) (r : Result DrillCommand Reason) → SpellsOne s line r → Spells s line (one_command r)
one_spelled s line (Ok c) h = h
one_spelled s line (Err r) h = tt

-- a line of a table of fixed lines
listed : (s : Settings) (p : Part) (line form : List ℕ) (c : Option DrillCommand) → s.part ≡ p → Contains (([], None) ∷ fixed_lines p) (form, c) → line ≡ form → Contains (([], None) ∷ fixed_lines s.part) (line, c)
listed s p line form c e h l = subst (λ q. Contains (([], None) ∷ fixed_lines q) (line, c)) (sym e) (subst (λ (x : List ℕ). Contains (([], None) ∷ fixed_lines p) (x, c)) (sym l) h)

-- the lines that the header and the body share
common_spelled : (s : Settings) (line : List ℕ) → ((form : List ℕ) (c : Option DrillCommand) → Contains shared_lines (form, c) → line ≡ form → Contains (([], None) ∷ fixed_lines s.part) (line, c)) → AllByRecursion (RowHas (Spells s line)) (common_rows line)
unfolding common_lines
common_spelled s line at = (
  literal_has (Spells s line) common_lines line (
    at (codes "M71") (Some (UnitCode Millimetre)) (0, omega arith, refl),
    (
      at (codes "M72") (Some (UnitCode Inch)) (1, omega arith, refl),
      (
        at (codes "G90") None (2, omega arith, refl),
        (at (codes "G05") None (3, omega arith, refl), (at (codes "FMAT,2") None (4, omega arith, refl), (at (codes "VER,1") None (5, omega arith, refl), (at (codes "ICI,OFF") None (6, omega arith, refl), ((λ _. tt), ((λ _. tt), ((λ _. tt), tt))))))),
      ),
    ),
  ),
  (beginning_has (Spells s line) ((codes "G93", Err OldFormat) ∷ []) line (tt, tt), tt),
)

before_spelled : (s : Settings) (line : List ℕ) → s.part ≡ part.Before → Spells s line (first_match_or OldFormat (literal_row lines_before line ∷ []))
unfolding lines_before
before_spelled s line e = first_match_has (Spells s line) OldFormat (literal_row lines_before line ∷ []) tt (literal_has (Spells s line) lines_before line (listed s part.Before line (codes "%") None e (2, omega arith, refl), (listed s part.Before line (codes "M48") (Some Start) e (1, omega arith, refl), tt)), tt)

header_spelled : (s : Settings) (line : List ℕ) → s.part ≡ part.Header → Spells s line (first_match_or BadLine (header_rows line))
unfolding header_ends
header_spelled s line e =
    let read : (word : List ℕ) (f : List ℕ → Result DrillCommand Reason) → ((rest : List ℕ) → line ≡ word ++ rest → SpellsOne s line (f rest)) → RowHas (Spells s line) (option_map (λ rest. one_command (f rest)) (strip_prefix word line)) =
    λ word f h. stripped_has (Spells s line) word (λ rest. one_command (f rest)) line (λ rest l. one_spelled s line (f rest) (h rest l)) in
    first_match_has (Spells s line) BadLine (header_rows line) tt (
      literal_has (Spells s line) header_ends line (listed s part.Header line (codes "%") (Some HeaderEnd) e (1, omega arith, refl), (listed s part.Header line (codes "M95") (Some HeaderEnd) e (2, omega arith, refl), tt)),
      (
        read (codes "INCH") (unit_line Inch) (λ rest l. unit_spelled s line (codes "INCH") Inch rest e (0, omega arith, refl) l),
        (
          read (codes "METRIC") (unit_line Millimetre) (λ rest l. unit_spelled s line (codes "METRIC") Millimetre rest e (1, omega arith, refl) l),
          (
            read (codes "T") tool_line (λ rest l. tool_spelled s line rest e l),
            common_spelled s line (λ form c h. listed s part.Header line form c e (Contains-append_right (([], None) ∷ (codes "%", Some HeaderEnd) ∷ (codes "M95", Some HeaderEnd) ∷ []) shared_lines (form, c) h)),
          ),
        ),
      ),
    )

drilled_spelled : (s : Settings) (line : List ℕ) → s.part ≡ part.Body → RowHas (Spells s line) (hole_row s line)
drilled_spelled s [] e = tt
drilled_spelled s (b ∷ bs) e = by (eqb b 88) (eqb b 89) refl refl
  where
    by : (t u : Bool) → eqb b 88 ≡ t → eqb b 89 ≡ u → RowHas (Spells s (b ∷ bs)) (cond (t && true) (Some (one_command (hole_line s (b ∷ bs)))) (cond (u && true) (Some (one_command (hole_line s (b ∷ bs)))) None))
    by true u x y = one_spelled s (b ∷ bs) (hole_line s (b ∷ bs)) (hole_spelled s (b ∷ bs) e (subst (λ c. has_run (runs_of (c ∷ bs)).0 ≡ true) (sym (eqb-true b 88 x)) refl))
    by false true x y = one_spelled s (b ∷ bs) (hole_line s (b ∷ bs)) (hole_spelled s (b ∷ bs) e (subst (λ c. has_run (runs_of (c ∷ bs)).0 ≡ true) (sym (eqb-true b 89 y)) refl))
    by false false x y = tt

body_spelled : (s : Settings) (line : List ℕ) → s.part ≡ part.Body → Spells s line (first_match_or BadLine (body_rows s line))
unfolding body_prefixes
body_spelled s line e =
    first_match_has (Spells s line) BadLine (body_rows s line) tt (
      drilled_spelled s line e,
      (
        stripped_has (Spells s line) (codes "T") (λ rest. one_command (pick_line rest)) line (λ rest l. one_spelled s line (pick_line rest) (pick_spelled s line rest e l)),
        (
          literal_has (Spells s line) ((codes "M30", Ok (Some Finish)) ∷ []) line (listed s part.Body line (codes "M30") (Some Finish) e (1, omega arith, refl), tt),
          (
            beginning_has (Spells s line) body_prefixes line (tt, (tt, (tt, (tt, (tt, (tt, (tt, (tt, (tt, (tt, (tt, tt))))))))))),
            common_spelled s line (λ form c h. listed s part.Body line form c e (Contains-append_right (([], None) ∷ (codes "M30", Some Finish) ∷ []) shared_lines (form, c) h)),
          ),
        ),
      ),
    )

part_spelled : (p : Part) (s : Settings) (line : List ℕ) → s.part ≡ p → Spells s line (line_in p s line)
unfolding line_in
part_spelled part.Before s line e = before_spelled s line e
part_spelled part.Header s line e = header_spelled s line e
part_spelled part.Body s line e = body_spelled s line e
part_spelled part.After s line e = tt

-- a comment stands before the end, and begins with `;`
comment_begins : (p : Part) (b : ℕ) → begins_comment p b ≡ true → (p ≢ part.After) × (b ≡ 59)
comment_begins part.Before b h = (λ e. absurd cc, eqb-true b 59 h)
comment_begins part.Header b h = (λ e. absurd cc, eqb-true b 59 h)
comment_begins part.Body b h = (λ e. absurd cc, eqb-true b 59 h)
comment_begins part.After b h = absurd cc

line_spelled : (s : Settings) (line : List ℕ) → Spells s line (meaning s line)
unfolding meaning
line_spelled s [] = (0, omega arith, refl)
line_spelled s (b ∷ bs) =
    either_has (Spells s (b ∷ bs)) (begins_comment s.part b) (Ok (Some (Comment bs))) (line_in s.part s (b ∷ bs))
    (λ h. let k = comment_begins s.part b h in (k.0, ap (λ c. c ∷ bs) k.1))
    (λ _. part_spelled s.part s (b ∷ bs) refl)

pub answers_are_written : AnswersAreWritten
answers_are_written s line spelled h = ok_is (IsLine s line) (meaning s line) spelled (line_spelled s line) h
