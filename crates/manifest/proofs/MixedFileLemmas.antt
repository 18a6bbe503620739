-- Drill files with both plated and unplated holes: what is proposed for them, and that it is what a check reads.
use Rattle.manifest.proofs.Common.{◌≡◌, ◌≢◌, ◌∙◌, ◌==◌, ℕ, Bool, true, false, List, [], ◌∷◌, length, take, Option, Some, None, Result, Ok, Err, arith, refl, sym, ap, if◌then◌else◌, is_ok, false≢true, nat_tests, Answers, IfFault, Fault, Profile, Strict, Wide, function_of, kind_of, Decision, decision, lacks_layers, layers_of_function, decision_in, is_mixed_reason, is_mixed_role, is_mixed_text, lines_and_rest, mixed_by_function, mixed_decision, with_byte, ProposedRole, Mixed, Undecided}
use Rattle.std.proofs.Common.{append-nil}
use Rattle.grid_units.specs.Limits.{text_limit}
use Rattle.grid_units.specs.declared.fault.Fail.{Fail}
use Rattle.grid_units.specs.declared.fault.Fail.TheVariants.{Memory, Refused}
use Rattle.drill_lines.specs.declared.command.DrillCommand.{DrillCommand}
use Rattle.drill_text.specs.Lines.{Splits}
use Rattle.drill_text.specs.Outcome.{DrillFile, file_of}
use Rattle.drill_text.specs.Profiles.{ReadsAsBy, ReadsBy, ShowsBy, mixed_in, read_by}
use Rattle.drill_text.specs.declared.kept.Keep.TheVariants.{Holes}
use Rattle.drill_text.specs.declared.platings.PlatingKind.TheVariants as plating
use Rattle.drill_text.proofs.FaultsStay.{shown_is_read_in}
use Rattle.drill_text.proofs.UniqueReading.{one_read_in}
use Rattle.manifest.specs.declared.model.ProposalReason.TheVariants as because
use Rattle.manifest.proofs.DecisionCases.{of_kind}

-- ---- what is proposed

-- what holds of the role that a file has by itself in a profile
pub in_profile : (Q : ProposedRole → Type 0) (profile : Profile) (name text : List ℕ) → Q (decision name text).0 → Q Undecided → Q (Mixed None)
    → ((f : List ℕ) → function_of text ≡ Some f → Q (Mixed (layers_of_function f))) → Q (decision_in profile name text).0
in_profile Q Strict name text alone undecided bare named = alone
in_profile Q Wide name text alone undecided bare named = by (is_mixed_reason (decision name text).1)
  where
    lacking : (b : Bool) (f : List ℕ) → Q (Mixed (layers_of_function f)) → Q (if b then (let x : Decision = (Undecided, because.UnclearLayers) in x) else (Mixed (layers_of_function f), because.MixedTools)).0
    lacking true f q = undecided
    lacking false f q = q

    by_function : (o : Option (List ℕ)) → function_of text ≡ o → Q (mixed_by_function o).0
    by_function None e = bare
    by_function (Some f) e = lacking (lacks_layers f) f (named f e)

    read : (b : Bool) → Q (if b then mixed_by_function (function_of text) else (Undecided, because.UnreadMixed)).0
    read true = by_function (function_of text) refl
    read false = undecided

    by : (b : Bool) → Q (if b then mixed_decision text else decision name text).0
    by true = read (is_mixed_text text)
    by false = alone

-- ---- how a text is cut

grown : (b : ℕ) (text : List ℕ) (p : List (List ℕ) × List ℕ) → b ≢ 10 → Splits text p.0 p.1 → Splits (b ∷ text) (with_byte b p).0 (with_byte b p).1
grown b text ([], rest) other s = record { whole = ap (λ (t : List ℕ). b ∷ t) s.whole; each = tt; partial = (other, s.partial) }
grown b text (line ∷ lines, rest) other s = record { whole = ap (λ (t : List ℕ). b ∷ t) s.whole; each = ((other, s.each.0), s.each.1); partial = s.partial }

cut_is : (text : List ℕ) → Splits text (lines_and_rest text).0 (lines_and_rest text).1
cut_is [] = record { whole = refl; each = tt; partial = tt }
cut_is (b ∷ bs) = by (b == 10) refl (cut_is bs)
  where
    by : (t : Bool) → (b == 10) ≡ t → Splits bs (lines_and_rest bs).0 (lines_and_rest bs).1
        → Splits (b ∷ bs) (if t then ([] ∷ (lines_and_rest bs).0, (lines_and_rest bs).1) else with_byte b (lines_and_rest bs)).0 (if t then ([] ∷ (lines_and_rest bs).0, (lines_and_rest bs).1) else with_byte b (lines_and_rest bs)).1
    by true e s =
        let same : b ≡ 10 = grind (arith, nat_tests) in
        record { whole = λ i. same i ∷ s.whole i; each = (tt, s.each); partial = s.partial }
    by false e s = grown b bs (lines_and_rest bs) (λ same. false≢true (sym e ∙ ap (λ (n : ℕ). n == 10) same)) s

-- ---- what is read

is_read : (text : List ℕ) → ReadsBy (mixed_in Wide) text (read_by (mixed_in Wide) (length text) (lines_and_rest (take text_limit text)).0 (lines_and_rest (take text_limit text)).1)
is_read text = record {
  lines = (lines_and_rest (take text_limit text)).0;
  rest = (lines_and_rest (take text_limit text)).1;
  splits = cut_is (take text_limit text);
  answer_is = refl;
}

-- whether a text is read as a mixed file is what its one reading says
decided : (text : List ℕ) (a : Result (List DrillCommand) Fault) → ReadsBy (mixed_in Wide) text a → is_ok a ≡ is_mixed_text text
decided text a h = ap is_ok (one_read_in (mixed_in Wide) text a _ h (is_read text))

pub yes : (text : List ℕ) (d : DrillFile) → ReadsAsBy (mixed_in Wide) (file_of plating.Mixed Holes) text (Ok d) → true ≡ is_mixed_text text
yes text d (commands, reads, same) = decided text (Ok commands) reads

pub no : (text : List ℕ) (f : Fault) → ReadsBy (mixed_in Wide) text (Err f) → false ≡ is_mixed_text text
no text f reads = decided text (Err f) reads

-- a fault that a text shows is that of the whole text
pub refused : (text : List ℕ) (e : Fail) → IfFault (λ f. ShowsBy (mixed_in Wide) text (Err f)) e → Answers {T = DrillFile} (λ drill. drill) (ReadsAsBy (mixed_in Wide) (file_of plating.Mixed Holes) text) (Err e)
refused text Memory h = tt
refused text (Refused f) h = rw append-nil at (shown_is_read_in (mixed_in Wide) text [] f h)

-- ---- laws

-- by itself, in no profile, no file is mixed
pub never_alone : (name text : List ℕ) → is_mixed_role (decision name text).0 ≡ false
never_alone name text = of_kind (λ r. is_mixed_role r ≡ false) refl refl (λ place h. refl) refl refl (kind_of text) name text (λ f e. (refl, refl))

must_be_read : (name text : List ℕ) → is_mixed_role (decision_in Wide name text).0 ≡ true → is_mixed_text text ≡ true
must_be_read name text h = by (is_mixed_reason (decision name text).1) h
  where
    read : (b : Bool) → is_mixed_role (if b then mixed_by_function (function_of text) else (Undecided, because.UnreadMixed)).0 ≡ true → b ≡ true
    read true k = refl
    read false k = absurd (false≢true k)

    by : (b : Bool) → is_mixed_role (if b then mixed_decision text else decision name text).0 ≡ true → is_mixed_text text ≡ true
    by true k = read (is_mixed_text text) k
    by false k = absurd (false≢true (sym (never_alone name text) ∙ k))

found : (text : List ℕ) (a : Result (List DrillCommand) Fault) → ReadsBy (mixed_in Wide) text a → is_ok a ≡ true → (commands : List DrillCommand) × ReadsBy (mixed_in Wide) text (Ok commands)
found text (Ok commands) reads e = (commands, reads)
found text (Err f) reads e = absurd (false≢true e)

pub mixed_is_read : (name text : List ℕ) → is_mixed_role (decision_in Wide name text).0 ≡ true → (commands : List DrillCommand) × ReadsBy (mixed_in Wide) text (Ok commands)
mixed_is_read name text h = found text _ (is_read text) (must_be_read name text h)
