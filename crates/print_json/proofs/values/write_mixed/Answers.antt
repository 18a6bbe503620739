-- The quotation mark after the name stands with what follows it.
use Rattle.print_json.proofs.Common.{◌++◌, ◌∷◌, [], List, ℕ, append_assoc, codes, sym, has_written_of_eq, escape, escape_byte, value_text, mixed_value, span_value}
use Rattle.std.specs.Fmt.{decimal}
use Rattle.print_json.proofs.values.write_mixed.Goals as goal

pub returns : goal.returns
unfolding mixed_value escape_byte
returns g c = λ plain ok.
    let file = c.args.file.now in
    let rest : List ℕ =
    codes ",\"round\":"
    ++ (decimal c.args.round ++ (codes ",\"slots\":" ++ (decimal c.args.slots ++ (codes ",\"unplated\":" ++ (decimal c.args.unplated ++ (codes ",\"span\":" ++ (value_text (span_value c.args.span) ++ 125 ∷ []))))))) in
    has_written_of_eq _ _ _ _ _ (simp append_assoc (λ i. codes "{\"number\":" ++ (decimal file.number ++ (codes ",\"role\":\"mixed\",\"name\":\"" ++ sym (append_assoc (escape file.name.now) (34 ∷ []) rest) i)))) (c.write.ensures.writes plain ok)
