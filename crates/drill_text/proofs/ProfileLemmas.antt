-- What lines and texts spell in a profile.
use Rattle.drill_text.proofs.Common.{◌≡◌, ℕ, suc, ◌<◌, ◌≤◌, ◌⊎◌, inl, inr, Bool, true, false, cond, ltb, List, [], ◌∷◌, ◌++◌, length, map, Option, Result, Ok, Err, refl, sym, ap, subst, ◌∙◌, append_assoc, list_any, append-nil, take_all, lt-ltb, le-ltb, ltb-true, ltb-false, Reason, TooLong, Truncated, Fault, ◌>>=◌, fault, with_place, bind_ok, bind_err, bind_assoc, bind_cong, bind_Ok, guard_ok, guard_err, line_limit, text_limit, DrillCommand, without_end_blanks, meaning_in, bytes_of, Splits, settings_after, rule_in, Kind, ReadsBy, checked_by, commands_by, commands_at_end, is_finish, place_after, said_first, shown_by, spelled_in, step_in, with_rest, None, Some, unwrap_or, option_map, ends_in_hit, Repeat, checked_repeat, repeat_after}
use Rattle.drill_lines.proofs.RepeatLemmas.{none_repeated}

-- ---- tests

pub at_ok : {A : Type 0} (place byte : ℕ) (r : Result A Reason) (x : A) → with_place place byte r ≡ Ok x → r ≡ Ok x
at_ok place byte (Ok y) x e = let same : y ≡ x = cc in ap (λ z. Ok z) same
at_ok place byte (Err r) x e = absurd cc

-- what is guarded by a test that a refusal fails
pub guarded : {A E : Type 0} (t : Bool) (d : E) (r : Result A E) (x : A) → cond t (Err d) r ≡ Ok x → (t ≡ false) × (r ≡ Ok x)
guarded true d r x e = absurd cc
guarded false d r x e = (refl, e)

-- a text whose end is among its commands
with_end : (t : Bool) (f : Fault) (new cs : List DrillCommand) → cond t (Ok new) (Err f) ≡ Ok cs → (t ≡ true) × (new ≡ cs)
with_end true f new cs e = (refl, cc)
with_end false f new cs e = absurd cc

-- ---- lines

-- after lines that spell commands, the rest may be too long
checks_rest : List (List ℕ) → List ℕ → List DrillCommand → Result (List DrillCommand) Fault
checks_rest lines rest commands = cond (ltb line_limit (length rest)) (Err (fault (suc (length lines)) (length (bytes_of lines)) TooLong)) (Ok commands)

pub commands_by-append : (kind : Kind) (earlier lines more : List (List ℕ)) (before : List DrillCommand) → commands_by kind earlier (lines ++ more) before ≡ (commands_by kind earlier lines before >>= commands_by kind (earlier ++ lines) more)
commands_by-append kind earlier [] more before = ap (λ (e : List (List ℕ)). commands_by kind e more before) (sym (append-nil earlier))
commands_by-append kind earlier (x ∷ lines) more before =
    let next : List (List ℕ) = earlier ++ x ∷ [] in
    let last = commands_by kind (earlier ++ x ∷ lines) more in
    let rest : (commands : List DrillCommand) → commands_by kind next (lines ++ more) commands ≡ (commands_by kind next lines commands >>= last) = λ commands.
    commands_by-append kind next lines more commands ∙ ap (λ (e : List (List ℕ)). commands_by kind next lines commands >>= commands_by kind e more) (append_assoc earlier (x ∷ []) lines) in
    let first = spelled_in kind earlier x before in
    bind_cong first (commands_by kind next (lines ++ more)) (λ commands. commands_by kind next lines commands >>= last) rest
    ∙ sym (bind_assoc first (commands_by kind next lines) last)

pub commands_by-push : (kind : Kind) (earlier lines : List (List ℕ)) (line : List ℕ) (before : List DrillCommand)
    → commands_by kind earlier (lines ++ line ∷ []) before ≡ (commands_by kind earlier lines before >>= spelled_in kind (earlier ++ lines) line)
commands_by-push kind earlier lines line before =
    commands_by-append kind earlier lines (line ∷ []) before
    ∙ bind_cong (commands_by kind earlier lines before) (commands_by kind (earlier ++ lines) (line ∷ [])) (spelled_in kind (earlier ++ lines) line) (λ commands. bind_Ok (spelled_in kind (earlier ++ lines) line commands))

pub shown_by_ok : (kind : Kind) (lines : List (List ℕ)) (rest : List ℕ) (cs : List DrillCommand) → shown_by kind lines rest ≡ Ok cs → (commands_by kind [] lines (said_first kind.format) ≡ Ok cs) × (length rest ≤ line_limit)
unfolding checks_rest
shown_by_ok kind lines rest cs e =
    let b = bind_ok (commands_by kind [] lines (said_first kind.format)) (checks_rest lines rest) cs e in
    let g = guard_ok (ltb line_limit (length rest)) (fault (suc (length lines)) (length (bytes_of lines)) TooLong) b.0 cs b.2 in
    (b.1 ∙ ap (λ (x : List DrillCommand). Ok x) g.1, ltb-false _ _ g.0)

pub show_by_ok : (kind : Kind) (lines : List (List ℕ)) (rest : List ℕ) (cs : List DrillCommand) → commands_by kind [] lines (said_first kind.format) ≡ Ok cs → length rest ≤ line_limit → shown_by kind lines rest ≡ Ok cs
show_by_ok kind lines rest cs e le = rw (e, le-ltb _ _ le) refl

pub show_by_long : (kind : Kind) (lines : List (List ℕ)) (rest : List ℕ) (cs : List DrillCommand) → commands_by kind [] lines (said_first kind.format) ≡ Ok cs → line_limit < length rest → shown_by kind lines rest ≡ Err (fault (suc (length lines)) (length (bytes_of lines)) TooLong)
show_by_long kind lines rest cs e lt = rw (e, lt-ltb _ _ lt) refl

pub show_by_err : (kind : Kind) (lines : List (List ℕ)) (rest : List ℕ) (f : Fault) → commands_by kind [] lines (said_first kind.format) ≡ Err f → shown_by kind lines rest ≡ Err f
show_by_err kind lines rest f e = rw e refl

pub shown_by_err : (kind : Kind) (lines : List (List ℕ)) (rest : List ℕ) (f : Fault) → shown_by kind lines rest ≡ Err f
    → (commands_by kind [] lines (said_first kind.format) ≡ Err f) ⊎ ((cs : List DrillCommand) × (commands_by kind [] lines (said_first kind.format) ≡ Ok cs) × (line_limit < length rest) × (fault (suc (length lines)) (length (bytes_of lines)) TooLong ≡ f))
unfolding checks_rest
shown_by_err kind lines rest f e =
    elim (bind_err (commands_by kind [] lines (said_first kind.format)) (checks_rest lines rest) f e) [
      | inl h ↦ inl h
      | inr h ↦ (let g = guard_err (ltb line_limit (length rest)) (fault (suc (length lines)) (length (bytes_of lines)) TooLong) f h.0 h.2 in inr (h.0, h.1, ltb-true _ _ g.0, g.1))
    ]

rest_shows : (place byte : ℕ) (r : Result (List DrillCommand) Fault) → (r >>= λ commands. cond (ltb line_limit 0) (Err (fault place byte TooLong)) (Ok commands)) ≡ r
rest_shows place byte (Ok x) = refl
rest_shows place byte (Err x) = refl

-- the lines and one more, with nothing after it
pub show_by_push : (kind : Kind) (lines : List (List ℕ)) (line : List ℕ) (cs : List DrillCommand) → commands_by kind [] lines (said_first kind.format) ≡ Ok cs → shown_by kind (lines ++ line ∷ []) [] ≡ spelled_in kind lines line cs
show_by_push kind lines line cs e =
    rest_shows (suc (length (lines ++ line ∷ []))) (length (bytes_of (lines ++ line ∷ []))) (commands_by kind [] (lines ++ line ∷ []) (said_first kind.format))
    ∙ (commands_by-push kind [] lines line (said_first kind.format) ∙ ap (λ r. r >>= spelled_in kind lines line) e)

pub show_by_push_err : (kind : Kind) (lines : List (List ℕ)) (line : List ℕ) (f : Fault) → commands_by kind [] lines (said_first kind.format) ≡ Err f → shown_by kind (lines ++ line ∷ []) [] ≡ Err f
show_by_push_err kind lines line f e = show_by_err kind (lines ++ line ∷ []) [] f (commands_by-push kind [] lines line (said_first kind.format) ∙ ap (λ r. r >>= spelled_in kind lines line) e)

-- a line that is too long is a fault
pub too_long : (kind : Kind) (lines : List (List ℕ)) (line : List ℕ) (before : List DrillCommand) → line_limit < length line → spelled_in kind lines line before ≡ Err (fault (suc (length lines)) (length (bytes_of lines)) TooLong)
unfolding step_in
too_long kind lines line before lt = rw (lt-ltb _ _ lt) refl

-- a line that spells this is judged so
pub spelled_in_is : (kind : Kind) (earlier : List (List ℕ)) (line : List ℕ) (before : List DrillCommand) (r : Result (Option DrillCommand) Reason) → length line ≤ line_limit → repeat_after kind.profile earlier before line ≡ None
    → meaning_in kind.profile (map without_end_blanks earlier) (settings_after before) (without_end_blanks line) ≡ r → spelled_in kind earlier line before ≡ with_place (suc (length earlier)) (length (bytes_of earlier)) (r >>= checked_by (rule_in kind.profile kind.plating) before)
unfolding step_in
spelled_in_is kind earlier line before r le none e =
    let rule = rule_in kind.profile kind.plating in
    rw (le-ltb _ _ le) (λ i. with_place (suc (length earlier)) (length (bytes_of earlier)) (unwrap_or (option_map (checked_repeat rule before) (none i)) (e i >>= checked_by rule before)))

-- one that spells a command by itself, or nothing, repeats no hit
pub spelled_alone : (kind : Kind) (earlier : List (List ℕ)) (line : List ℕ) (before : List DrillCommand) (c : Option DrillCommand) → length line ≤ line_limit
    → meaning_in kind.profile (map without_end_blanks earlier) (settings_after before) (without_end_blanks line) ≡ Ok c → spelled_in kind earlier line before ≡ with_place (suc (length earlier)) (length (bytes_of earlier)) (checked_by (rule_in kind.profile kind.plating) before c)
spelled_alone kind earlier line before c le e =
    spelled_in_is kind earlier line before (Ok c) le (none_repeated kind.profile (ends_in_hit before) (map without_end_blanks earlier) (settings_after before) (without_end_blanks line) c e) e

-- one that repeats a hit is judged so
pub spelled_repeat : (kind : Kind) (earlier : List (List ℕ)) (line : List ℕ) (before : List DrillCommand) (read : Result Repeat Reason) → length line ≤ line_limit
    → repeat_after kind.profile earlier before line ≡ Some read → spelled_in kind earlier line before ≡ with_place (suc (length earlier)) (length (bytes_of earlier)) (checked_repeat (rule_in kind.profile kind.plating) before read)
unfolding step_in
spelled_repeat kind earlier line before read le e =
    let rule = rule_in kind.profile kind.plating in
    let spelt = meaning_in kind.profile (map without_end_blanks earlier) (settings_after before) (without_end_blanks line) in
    rw (le-ltb _ _ le) (ap (λ row. with_place (suc (length earlier)) (length (bytes_of earlier)) (unwrap_or (option_map (checked_repeat rule before) row) (spelt >>= checked_by rule before))) e)

-- ---- texts

ends_by : Kind → ℕ → List (List ℕ) → List ℕ → List DrillCommand → Result (List DrillCommand) Fault
ends_by kind len lines rest cs = cond (ltb text_limit len) (Err (fault (suc (length lines)) text_limit TooLong)) (with_rest kind lines rest cs >>= commands_at_end len lines rest)

-- How a text ends that is read as commands: its lines spell the first of them, and the rest the others.
pub record Ending (kind : Kind) (text : List ℕ) (cs : List DrillCommand) : Type 0 where
  pub lines : List (List ℕ)
  pub rest : List ℕ
  pub first : List DrillCommand
  pub splits : Splits text lines rest
  pub shown : commands_by kind [] lines (said_first kind.format) ≡ Ok first
  pub short : length rest ≤ line_limit
  pub within : length text ≤ text_limit
  pub last : with_rest kind lines rest first ≡ Ok cs
  pub ends : list_any is_finish cs ≡ true

pub ending : (kind : Kind) (text : List ℕ) (cs : List DrillCommand) → ReadsBy kind text (Ok cs) → Ending kind text cs
unfolding ends_by
ending kind text cs r =
    let lines = r.lines in
    let rest = r.rest in
    let len = length text in
    let b = bind_ok (shown_by kind lines rest) (ends_by kind len lines rest) cs (sym r.answer_is) in
    let g = guarded (ltb text_limit len) (fault (suc (length lines)) text_limit TooLong) (with_rest kind lines rest b.0 >>= commands_at_end len lines rest) cs b.2 in
    let c = bind_ok (with_rest kind lines rest b.0) (commands_at_end len lines rest) cs g.1 in
    let e = with_end (list_any is_finish c.0) (fault (place_after lines rest) len Truncated) c.0 cs c.2 in
    let shown = shown_by_ok kind lines rest b.0 b.1 in
    let le : length text ≤ text_limit = ltb-false _ _ g.0 in
    record {
      lines = lines;
      rest = rest;
      first = b.0;
      splits = subst (λ (t : List ℕ). Splits t lines rest) (take_all text_limit text le) r.splits;
      shown = shown.0;
      short = shown.1;
      within = le;
      last = c.1 ∙ ap (λ (l : List DrillCommand). Ok l) e.1;
      ends = sym (ap (list_any is_finish) e.1) ∙ e.0;
    }

-- a text that ends so is read as these commands
pub ended_so : (kind : Kind) (text : List ℕ) (cs : List DrillCommand) → Ending kind text cs → ReadsBy kind text (Ok cs)
unfolding ends_by
ended_so kind text cs e =
    let lines = e.lines in
    let rest = e.rest in
    let len = length text in
    record {
      lines = lines;
      rest = rest;
      splits = subst (λ (t : List ℕ). Splits t lines rest) (sym (take_all text_limit text e.within)) e.splits;
      answer_is = sym (ap (λ s. s >>= ends_by kind len lines rest) (show_by_ok kind lines rest e.first e.shown e.short)
          ∙ (ap (λ t. cond t (Err (fault (suc (length lines)) text_limit TooLong)) (with_rest kind lines rest e.first >>= commands_at_end len lines rest)) (le-ltb _ _ e.within)
          ∙ (ap (λ s. s >>= commands_at_end len lines rest) e.last ∙ ap (λ t. cond t (Ok cs) (Err (fault (place_after lines rest) len Truncated))) e.ends)));
    }

-- a text that ends alike in another kind of file is read as the same commands in it
pub read_alike : (from to : Kind) (text : List ℕ) (cs : List DrillCommand) (e : Ending from text cs) → commands_by to [] e.lines (said_first to.format) ≡ Ok e.first → with_rest to e.lines e.rest e.first ≡ Ok cs → ReadsBy to text (Ok cs)
read_alike from to text cs e first last = ended_so to text cs (record { lines = e.lines; rest = e.rest; first = e.first; splits = e.splits; shown = first; short = e.short; within = e.within; last = last; ends = e.ends })
