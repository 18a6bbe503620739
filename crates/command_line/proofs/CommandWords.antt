-- What the program makes of the words of each command without flags: they are taken, and give the rows of their values.
use Rattle.command_line.proofs.Common.{◌≡◌, true, refl, [], ◌∷◌, Option, Some, None, codes, option_map, clap_on_literals, both, Text, fault_of, is_plain_if_some, is_plain_word, ringcheck_app}
use Rattle.clap.specs.Words.{is_simple, is_simple_and_free}
use Rattle.clap.specs.declared.error.kind.ErrorKind.TheVariants.{DisplayVersion}
use Rattle.command_line.specs.ProgramArgs.{are_plain_rules, certify_words, check_words, draw_words, explain_words, measure_words, rewrite_words, rules_words, show_words, verify_words}
use Rattle.command_line.proofs.GivenOptions.{Options, rows_of}
use Rattle.command_line.proofs.NamedCommand.{IsCommand, answer, command_answer}

pub is_plain_command : is_simple ringcheck_app ≡ true
unfolding clap_on_literals
is_plain_command = refl

pub is_free_command : is_simple_and_free ringcheck_app ≡ true
unfolding clap_on_literals
is_free_command = refl

pub version_fault : fault_of ringcheck_app (codes "--version" ∷ []) ≡ DisplayVersion ∷ []
unfolding clap_on_literals
version_fault = refl

-- ---- `check` and `certify`

abbrev under_rules : Text → Text → Option Text → Option Text → Options
under_rules r g f i = (codes "ring", Some r) ∷ (codes "gap", Some g) ∷ (codes "profile", f) ∷ (codes "in", i) ∷ []

abbrev pub rules_options : Text → Text → Option Text → Option Text → Text → Options
rules_options r g f i m = (codes "ring", Some r) ∷ (codes "gap", Some g) ∷ (codes "profile", f) ∷ (codes "in", i) ∷ (codes "manifest", Some m) ∷ []

rules_answer : (name r g : Text) (f i : Option Text) (m : Text) → IsCommand name (under_rules r g f i) (codes "manifest") m
    → is_plain_word r ≡ true → is_plain_word g ≡ true → is_plain_if_some f ≡ true → is_plain_if_some i ≡ true → is_plain_word m ≡ true
    → answer (rules_words name r g f i m) ≡ (true, Some (name, rows_of (rules_options r g f i m)))
rules_answer name r g f i m is p q t u s = command_answer name (under_rules r g f i) (codes "manifest") m is (p, (q, (t, (u, tt)))) s

pub check_answer : (r g : Text) (f i : Option Text) (m : Text) → is_plain_word r ≡ true → is_plain_word g ≡ true → is_plain_if_some f ≡ true → is_plain_if_some i ≡ true → is_plain_word m ≡ true
    → answer (check_words r g f i m) ≡ (true, Some (codes "check", rows_of (rules_options r g f i m)))
unfolding clap_on_literals
check_answer r g f i m = rules_answer (codes "check") r g f i m (record { named = (λ rest. refl, λ rest. refl); options = (refl, (refl, (refl, (refl, tt)))); end = refl; defaults = refl })

pub certify_answer : (r g : Text) (f i : Option Text) (m : Text) → is_plain_word r ≡ true → is_plain_word g ≡ true → is_plain_if_some f ≡ true → is_plain_if_some i ≡ true → is_plain_word m ≡ true
    → answer (certify_words r g f i m) ≡ (true, Some (codes "certify", rows_of (rules_options r g f i m)))
unfolding clap_on_literals
certify_answer r g f i m = rules_answer (codes "certify") r g f i m (record { named = (λ rest. refl, λ rest. refl); options = (refl, (refl, (refl, (refl, tt)))); end = refl; defaults = refl })

-- ---- `verify`

abbrev pub verify_options : Option Text → Text → Options
verify_options i c = (codes "in", i) ∷ (codes "certificate", Some c) ∷ []

pub verify_answer : (i : Option Text) (c : Text) → is_plain_if_some i ≡ true → is_plain_word c ≡ true → answer (verify_words i c) ≡ (true, Some (codes "verify", rows_of (verify_options i c)))
unfolding clap_on_literals
verify_answer i c u s =
    command_answer (codes "verify") ((codes "in", i) ∷ []) (codes "certificate") c (record { named = (λ rest. refl, λ rest. refl); options = (refl, tt); end = refl; defaults = refl }) (u, tt) s

-- ---- `measure`

abbrev pub measure_options : Option Text → Option Text → Option Text → Text → Options
measure_options p o i m = (codes "profile", p) ∷ (codes "format", o) ∷ (codes "in", i) ∷ (codes "manifest", Some m) ∷ []

pub measure_answer : (p o i : Option Text) (m : Text) → is_plain_if_some p ≡ true → is_plain_if_some o ≡ true → is_plain_if_some i ≡ true → is_plain_word m ≡ true
    → answer (measure_words p o i m) ≡ (true, Some (codes "measure", rows_of (measure_options p o i m)))
unfolding clap_on_literals
measure_answer p o i m q t u s =
    command_answer (codes "measure") ((codes "profile", p) ∷ (codes "format", o) ∷ (codes "in", i) ∷ []) (codes "manifest") m
    (record { named = (λ rest. refl, λ rest. refl); options = (refl, (refl, (refl, tt))); end = refl; defaults = refl }) (q, (t, (u, tt))) s

-- ---- `draw`

abbrev given : Option (Text × Text) → Option Text → Option Text → Option Text → Options
given o f l i = (codes "ring", option_map (λ rules. rules.0) o) ∷ (codes "gap", option_map (λ rules. rules.1) o) ∷ (codes "profile", f) ∷ (codes "outline", l) ∷ (codes "in", i) ∷ []

abbrev pub draw_options : Option (Text × Text) → Option Text → Option Text → Option Text → Text → Options
draw_options o f l i m =
    (codes "ring", option_map (λ rules. rules.0) o) ∷ (codes "gap", option_map (λ rules. rules.1) o) ∷ (codes "profile", f) ∷ (codes "outline", l) ∷ (codes "in", i) ∷ (codes "manifest", Some m) ∷ []

is_draw : (o : Option (Text × Text)) (f l i : Option Text) (m : Text) → IsCommand (codes "draw") (given o f l i) (codes "manifest") m
unfolding clap_on_literals
is_draw o f l i m = record { named = (λ rest. refl, λ rest. refl); options = (refl, (refl, (refl, (refl, (refl, tt))))); end = refl; defaults = refl }

pub draw_answer : (o : Option (Text × Text)) (f l i : Option Text) (m : Text) → are_plain_rules o ≡ true → is_plain_if_some f ≡ true → is_plain_if_some l ≡ true → is_plain_if_some i ≡ true → is_plain_word m ≡ true
    → answer (draw_words o f l i m) ≡ (true, Some (codes "draw", rows_of (draw_options o f l i m)))
draw_answer None f l i m p y t u s = command_answer (codes "draw") (given None f l i) (codes "manifest") m (is_draw None f l i m) (refl, (refl, (y, (t, (u, tt))))) s
draw_answer (Some (r, g)) f l i m p y t u s =
    let k = both (is_plain_word r) (is_plain_word g) p in
    command_answer (codes "draw") (given (Some (r, g)) f l i) (codes "manifest") m (is_draw (Some (r, g)) f l i m) (k.0, (k.1, (y, (t, (u, tt))))) s

-- ---- `show` and `rewrite`

abbrev pub show_options : Text → Option Text → Option Text → Text → Options
show_options k p i f = (codes "kind", Some k) ∷ (codes "profile", p) ∷ (codes "in", i) ∷ (codes "file", Some f) ∷ []

pub show_answer : (k : Text) (p i : Option Text) (f : Text) → is_plain_word k ≡ true → is_plain_if_some p ≡ true → is_plain_if_some i ≡ true → is_plain_word f ≡ true
    → answer (show_words k p i f) ≡ (true, Some (codes "show", rows_of (show_options k p i f)))
unfolding clap_on_literals
show_answer k p i f q t u s =
    command_answer (codes "show") ((codes "kind", Some k) ∷ (codes "profile", p) ∷ (codes "in", i) ∷ []) (codes "file") f
    (record { named = (λ rest. refl, λ rest. refl); options = (refl, (refl, (refl, tt))); end = refl; defaults = refl }) (q, (t, (u, tt))) s

abbrev pub rewrite_options : Text → Option Text → Text → Options
rewrite_options k i f = (codes "kind", Some k) ∷ (codes "in", i) ∷ (codes "file", Some f) ∷ []

pub rewrite_answer : (k : Text) (i : Option Text) (f : Text) → is_plain_word k ≡ true → is_plain_if_some i ≡ true → is_plain_word f ≡ true
    → answer (rewrite_words k i f) ≡ (true, Some (codes "rewrite", rows_of (rewrite_options k i f)))
unfolding clap_on_literals
rewrite_answer k i f p u q =
    command_answer (codes "rewrite") ((codes "kind", Some k) ∷ (codes "in", i) ∷ []) (codes "file") f
    (record { named = (λ rest. refl, λ rest. refl); options = (refl, (refl, tt)); end = refl; defaults = refl }) (p, (u, tt)) q

-- ---- `explain`

abbrev pub word_options : Option Text → Options
word_options o = (codes "word", o) ∷ []

pub explain_answer : (o : Option Text) → is_plain_if_some o ≡ true → answer (explain_words o) ≡ (true, Some (codes "explain", rows_of (word_options o)))
unfolding clap_on_literals
explain_answer None p = refl
explain_answer (Some w) p = command_answer (codes "explain") [] (codes "word") w (record { named = (λ rest. refl, λ rest. refl); options = tt; end = refl; defaults = refl }) tt p
