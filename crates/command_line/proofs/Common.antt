-- Names that proofs of this crate cite, passed on from one place. Declares nothing.
pub use Rattle.std.proofs.Common.{Bool, Bor, List, None, Option, Some, [], ap, append-nil, append_assoc, ap₂, codes, cond, false, option_map, refl, sym, true, ℕ, ◌++◌, ◌∙◌, ◌∷◌, ◌≡◌}
pub use Rattle.std.proofs.lemmas.Bool.{false≢true}
pub use Rattle.std.proofs.lemmas.Result.{IfOk-weaker}
pub use Rattle.std.proofs.lemmas.Slice.Eq.{bytes_eq-Decides}
pub use Rattle.std.specs.List.{find, fold, list_any}
pub use Rattle.std.specs.Option.{option_map_or, unwrap_or}
pub use Rattle.std.specs.Str.{bytes_eq}
unfoldable pub use Rattle.clap.proofs.OnLiterals.{clap_on_literals}
pub use Rattle.clap.proofs.WalkLemmas.{both}
pub use Rattle.clap.specs.Facts.{explicit_source}
pub use Rattle.clap.specs.Simple.{Shape}
pub use Rattle.clap.specs.Takes.{is_given}
pub use Rattle.clap.specs.Walk.{Walk, has_row, idle, nothing_held, with_default}
pub use Rattle.clap.specs.Words.{App, Row, Rule, Text, fault_of, first_of, found_of, rule_of, subcommand_of, with_rule, with_subcommand}
pub use Rattle.command_line.specs.ProgramArgs.{IsLineOf, flag_words, is_plain_if_some, is_plain_word, option_words, ringcheck_app}
