use Rattle.picture.proofs.Common.{◌∙◌, ◌++◌, [], refl, sym, ap, has_written_append, has_written_of_eq, writes_in_calls_nil, escaped_name, escaped_after}
use mathlib.Core.List.{append_assoc}
use Rattle.std.specs.Char.{encode_utf8}
use Rattle.std.specs.Str.Iter.{chars_rest}
use Rattle.picture.proofs.EscapesLemmas.{no_more_characters, one_more_character}
use Rattle.picture.proofs.names.EscapedDisplay.fmt.Goals as goal

pub loop-character-init : goal.loop-character-init
loop-character-init g c = λ plain. (
  [],
  0,
  0,
  record { wrote = writes_in_calls_nil _ _; plain = plain },
  ap (λ it. escaped_name (chars_rest it)) c.into_iter-character-iterator.ensures.into_iter_gives ∙ ap escaped_name c.chars-character-items.ensures.rest,
)

pub loop-character-preserved : goal.loop-character-preserved
loop-character-preserved g c = λ plain.
    let now = c.loop-character.invariant plain in
    let rest = chars_rest c.next.new.self in
    let text = escaped_name (encode_utf8 c.in-Some.character) in
    let more = one_more_character now.1 now.2 c.in-Some.character rest in (
      now.0 ++ text,
      more.0,
      more.1,
      has_written_append _ _ _ _ _ _ now.3 (c.in_ok-write_character.ensures now.3.plain refl),
      append_assoc now.0 text (escaped_after more.0 more.1 rest)
          ∙ ap (λ t. now.0 ++ t) (sym more.2)
          ∙ ap (λ t. now.0 ++ escaped_after now.1 now.2 t) (sym c.in-Some.ensures.steps.0)
          ∙ now.4,
    )

pub returns-clause-writes : goal.returns-clause-writes
returns-clause-writes g c = λ plain ok.
    let now = c.loop-character.invariant plain in
    has_written_of_eq _ _ _ _ _ (no_more_characters now.0 (escaped_name c.args.self.now.0.now) now.1 now.2 (chars_rest c.loop-character.character-iterator) c.in-None.ensures.steps.0.0 now.4) now.3
