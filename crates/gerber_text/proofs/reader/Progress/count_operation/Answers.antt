use Rattle.gerber_text.proofs.Common.{◌≡◌, ◌+◌, ◌≤◌, Some, Ok, ℕ, List, [], ◌∷◌, ◌++◌, length, take, refl, sym, ap, ◌∙◌, arith, length-append, length-take, nil_from_length, Command, Operate, item_limit, operation_commands, Entries, latest_action, item_entries, spelled_in}
use Rattle.gerber_text.proofs.ReaderStepLemmas.{length-bytes_of}
use Rattle.gerber_text.proofs.LatestLemmas.{counted_gone, latest_on, last_operation}
use Rattle.gerber_text.proofs.Items.{takes, spelled_ok}
use Rattle.gerber_text.proofs.reader.Progress.count_operation.Goals as goal

pub returns-clause-ok : goal.returns-clause-ok
returns-clause-ok c none_held profile gone text h =
    let self = c.args.self.now in
    let operation = c.args.operation.now in
    let begins = c.requires.begins in
    let before = gone ++ self.commands.items in
    let item : List ℕ = take operation.len c.args.bytes.now in
    let whats : List Command = operation_commands operation in
    let what = Operate operation.action operation.x operation.y operation.i operation.j in
    let none = sym h.ended ∙ c.requires.running in
    let no_item : self.item.items ≡ [] = nil_from_length _ (omega (arith, self.item.ok.0, c.requires.fresh)) in
    let no_rest : h.rest ≡ [] = nil_from_length h.rest (sym (length-bytes_of h.rest) ∙ (ap length (sym (h.pending none)) ∙ ap length no_item)) in
    let size : length item ≡ operation.len = omega (arith, length-take operation.len c.args.bytes.now, begins.within) in
    let short : length item ≤ item_limit = omega (arith, size, begins.short) in
    let k = takes profile text item h.items h.rest (self.items + 1) before h.splits no_rest none h.commands begins.one begins.kept short (omega (arith, h.count)) in
    let added = item_entries (self.items + 1) self.offset whats in
    let after = (gone ++ added) ++ self.commands.items in
    let gone_on : before ++ added ≡ after = counted_gone gone self.commands.items added none_held in
    let said : spelled_in profile (self.items + 1) (length text) item before ≡ Ok after = spelled_ok profile (self.items + 1) (length text) item before whats short (begins.parses profile (latest_action before)) ∙ (ap (λ b. Ok (before ++ item_entries (self.items + 1) b whats)) (sym h.offset) ∙ ap (λ (x : Entries). Ok x) gone_on) in
    record {
      items = h.items ++ k.last ∷ [];
      rest = [];
      splits = k.splits;
      commands = k.shows ∙ said;
      profile_is = h.profile_is;
      latest = latest_on before after added what self.latest (Some operation.action) (sym gone_on) (last_operation (self.items + 1) self.offset operation.mode what) h.latest refl;
      count = ap (λ n. n + 1) h.count ∙ sym k.count;
      pending = λ _. no_item;
      start = λ _ lt. absurd (omega arith);
      offset = omega (arith, h.offset, length-append text item, size);
      ended = c.requires.running ∙ sym (k.ends ∙ begins.goes_on);
    }
