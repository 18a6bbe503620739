use Rattle.gerber_text.proofs.Common.{◌≡◌, ℕ, List, [], ◌∷◌, ◌++◌, length, refl, sym, ap, subst, ◌∙◌, arith, eqb-false, length-append, nil_from_length, IsUnfinished, OffsetByte, Splits, offset_bytes, bytes_of, err_from_is_err_and}
use Rattle.gerber_text.proofs.ShowsLemmas.{running_ok, show_ok, out_of_memory}
use Rattle.gerber_text.proofs.SplitsLemmas.{Splits-grow, IsUnfinished-one}
use Rattle.gerber_text.proofs.ReaderStepLemmas.{offset_bytes-push, length-bytes_of}
use Rattle.gerber_text.proofs.reader.Progress.begin.Goals as goal

pub returns-clause-ok : goal.returns-clause-ok
returns-clause-ok c profile gone text h =
    let b = c.args.byte in
    let m : OffsetByte = (length text, b) in
    let none = sym h.ended ∙ c.requires.running in
    let is = h.pending none in
    let item_empty : c.args.self.now.item.items ≡ [] = nil_from_length _ (omega (arith, c.args.self.now.item.ok.0, c.requires.fresh)) in
    let rest_empty : h.rest ≡ [] = nil_from_length h.rest (sym (length-bytes_of h.rest) ∙ (ap length (sym is) ∙ ap length item_empty)) in
    let one : h.rest ++ m ∷ [] ≡ m ∷ [] = ap (λ (r : List OffsetByte). r ++ m ∷ []) rest_empty in
    let before = running_ok profile h.items h.rest _ none h.commands in
    let grown = Splits-grow (offset_bytes text) h.items h.rest (m ∷ []) h.splits (λ _. subst (λ (r : List OffsetByte). IsUnfinished (bytes_of r)) (sym one) (IsUnfinished-one b (eqb-false b 42 c.requires.inside.0))) in
    record {
      items = h.items;
      rest = m ∷ [];
      splits = subst (λ (r : List OffsetByte). Splits (offset_bytes (text ++ b ∷ [])) h.items r) one (subst (λ (ms : List OffsetByte). Splits ms h.items (h.rest ++ m ∷ [])) (sym (offset_bytes-push text b c.requires.inside.1)) grown);
      commands = show_ok profile h.items (m ∷ []) _ none before.0 (omega arith);
      profile_is = h.profile_is;
      latest = h.latest;
      count = h.count;
      pending = λ _. c.in_ok-push.ensures.items ∙ ap (λ (x : List ℕ). x ++ b ∷ []) item_empty;
      start = λ _ _. h.offset;
      offset = omega (arith, h.offset, length-append text (b ∷ []));
      ended = h.ended;
    }

pub returns-in_err-push-clause-err : goal.returns-in_err-push-clause-err
returns-in_err-push-clause-err c =
    let p = err_from_is_err_and c.from_residual.result c.from_residual.ensures.1 in
    rw (p.1, p.2) (out_of_memory c.args.self.now c.args.self.now.commands.items (c.args.byte ∷ []) refl)
