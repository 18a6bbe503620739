-- What the program makes of a command's name and the words after it, from what the command makes of these words.
use Rattle.command_line.proofs.Common.{◌≡◌, ◌∙◌, ◌++◌, true, false, ap, sym, List, [], ◌∷◌, Option, Some, Bool, append-nil, append_assoc, find, unwrap_or, Shape, Walk, idle, nothing_held, App, Row, Text, subcommand_of, is_plain_word, ringcheck_app}
use Rattle.std.proofs.Common.{◌&&◌}
use Rattle.std.specs.Prelude.{is_some}
use Rattle.clap.specs.Simple.{built, entered, label_of, names_of}
use Rattle.clap.specs.Takes.{entered_passes, walk_passes}
use Rattle.clap.specs.Walk.{answers_to, walked}
use Rattle.clap.specs.Words.{takes}
use Rattle.command_line.proofs.GivenOptions.{ArePlain, Options, rows_of, words_of}
use Rattle.command_line.proofs.OptionWords.{HasEnd, HasNoDefaults, HasOptions, end_passes, options_read, reading, turns}

abbrev pub program : App
program = built ringcheck_app

-- the command of a name, as the program's command is built
abbrev pub command_of : Text → Shape
command_of name = unwrap_or (find (λ (s : Shape). answers_to name (label_of s)) program.subs) program.top

-- whether the program takes some words, and the command that it finds in them, with its rows
abbrev pub answer : List Text → Bool × Option (Text × List Row)
answer words = (takes ringcheck_app words, subcommand_of ringcheck_app words)

-- where the program's walk stands after a command's name and these words
abbrev pub stopped : Text → List Text → Walk
stopped name words = record { held = nothing_held; waiting = idle; position = 1; is_trailing = false; stopped = Some (name, words) }

abbrev program_turns : Walk → List Text → Walk × Bool
program_turns w words = turns program.top (names_of program) w words

-- the program takes every word after the name, and leaves it to the command
stays_stopped : (name : Text) (words rest : List Text) → program_turns (stopped name words) rest ≡ (stopped name (words ++ rest), true)
unfolding walk_passes walked
stays_stopped name words [] = ap (λ (ws : List Text). (stopped name ws, true)) (sym (append-nil words))
stays_stopped name words (w ∷ rest) = rw append_assoc at (stays_stopped name (words ++ w ∷ []) rest)

-- the answer where the program's walk ends, and its words passed or did not
abbrev answer_at : Walk × Bool → Bool × Option (Text × List Row)
answer_at t =
    let command = entered program t.0.stopped in
    (entered_passes program t.0.stopped && end_passes program.top t (is_some command), command)

-- the program has a command by this name, to which it leaves the words after the name
abbrev pub IsNamed : Text → Type 0
IsNamed name =
    ((rest : List Text) → answer (name ∷ rest) ≡ answer_at (program_turns (stopped name []) rest))
    × ((rest : List Text) → answer_at (stopped name rest, true) ≡ ((reading (command_of name) rest).0 && true, Some (name, (reading (command_of name) rest).1)))

pub is_answer : (name : Text) → IsNamed name → (rest : List Text) (rows : List Row) → reading (command_of name) rest ≡ (true, rows) → answer (name ∷ rest) ≡ (true, Some (name, rows))
is_answer name named rest rows read = named.0 rest ∙ ap answer_at (stays_stopped name [] rest) ∙ named.1 rest ∙ (λ i. ((read i).0 && true, Some (name, (read i).1)))

-- the program has a command by this name, with these options in a row and this argument
pub record IsCommand (name : Text) (os : Options) (id value : Text) : Type 0 where
  pub named : IsNamed name
  pub options : HasOptions (command_of name) [] os
  pub end : HasEnd (command_of name) os id value
  pub defaults : HasNoDefaults (command_of name)

-- the words of such a command are taken, and give just the rows of the values
pub command_answer : (name : Text) (os : Options) (id value : Text) → IsCommand name os id value → ArePlain os → is_plain_word value ≡ true
    → answer (name ∷ words_of os (value ∷ [])) ≡ (true, Some (name, rows_of (os ++ (id, Some value) ∷ [])))
command_answer name os id value is plain p =
    is_answer name is.named (words_of os (value ∷ [])) (rows_of (os ++ (id, Some value) ∷ [])) (options_read (command_of name) os id value is.options is.end is.defaults plain p)
