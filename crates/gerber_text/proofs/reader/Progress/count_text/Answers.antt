-- The command is gone, and the last operation is that before it.
use Rattle.gerber_text.proofs.Common.{◌≡◌, ◌+◌, ◌≤◌, Ok, ℕ, List, [], ◌∷◌, ◌++◌, length, take, drop, option_or, refl, sym, ap, ◌∙◌, arith, length-append, length-take, nil_from_length, Command, item_limit, text_command, Entries, latest_action, item_entries, spelled_in}
use Rattle.gerber_text.proofs.LeadingTextLemmas.{no_action, text_item}
use Rattle.gerber_text.proofs.ReaderStepLemmas.{length-bytes_of}
use Rattle.gerber_text.proofs.LatestLemmas.{counted_gone, latest_on}
use Rattle.gerber_text.proofs.Items.{takes, spelled_ok}
use Rattle.gerber_text.proofs.reader.Progress.count_text.Goals as goal

pub returns-clause-ok : goal.returns-clause-ok
returns-clause-ok c none_held profile gone text h =
    let self = c.args.self.now in
    let bytes = c.args.bytes.now in
    let found = c.args.item in
    let f = text_item bytes found c.requires.begins in
    let before = gone ++ self.commands.items in
    let item : List ℕ = take found.len bytes in
    let what = text_command found.kind (take found.text_len (drop 3 bytes)) in
    let whats : List Command = what ∷ [] in
    let none = sym h.ended ∙ c.requires.running in
    let no_item : self.item.items ≡ [] = nil_from_length _ (omega (arith, self.item.ok.0, c.requires.fresh)) in
    let no_rest : h.rest ≡ [] = nil_from_length h.rest (sym (length-bytes_of h.rest) ∙ (ap length (sym (h.pending none)) ∙ ap length no_item)) in
    let size : length item ≡ found.len = omega (arith, length-take found.len bytes, c.requires.within) in
    let short : length item ≤ item_limit = omega (arith, size, c.requires.begins.short) in
    let k = takes profile text item h.items h.rest (self.items + 1) before h.splits no_rest none h.commands f.one f.kept short (omega (arith, h.count)) in
    let added = item_entries (self.items + 1) self.offset whats in
    let after = (gone ++ added) ++ self.commands.items in
    let gone_on : before ++ added ≡ after = counted_gone gone self.commands.items added none_held in
    let said : spelled_in profile (self.items + 1) (length text) item before ≡ Ok after = spelled_ok profile (self.items + 1) (length text) item before whats short (f.parses profile (latest_action before)) ∙ (ap (λ b. Ok (before ++ item_entries (self.items + 1) b whats)) (sym h.offset) ∙ ap (λ (x : Entries). Ok x) gone_on) in
    record {
      items = h.items ++ k.last ∷ [];
      rest = [];
      splits = k.splits;
      commands = k.shows ∙ said;
      profile_is = h.profile_is;
      latest = latest_on before after added what self.latest self.latest (sym gone_on) refl h.latest (ap (λ o. option_or o self.latest) (sym (no_action found.kind _)));
      count = ap (λ n. n + 1) h.count ∙ sym k.count;
      pending = λ _. no_item;
      start = λ _ lt. absurd (omega arith);
      offset = omega (arith, h.offset, length-append text item, size);
      ended = c.requires.running ∙ sym (k.ends ∙ f.goes_on);
    }
