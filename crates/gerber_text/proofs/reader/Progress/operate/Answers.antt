use Rattle.gerber_text.proofs.Common.{◌≡◌, ◌+◌, ◌≤◌, Ok, ℕ, List, [], ◌∷◌, ◌++◌, length, take, sym, ap, ◌∙◌, arith, append_assoc, length-append, length-take, nil_from_length, err_from_is_err_and, Command, Operate, modes_of, Entries, latest_action, item_entries, spelled_in, item_limit}
use Rattle.gerber_text.proofs.ShowsLemmas.{out_of_memory}
use Rattle.gerber_text.proofs.ReaderStepLemmas.{length-bytes_of}
use Rattle.gerber_text.proofs.Items.{takes, spelled_ok}
use Rattle.gerber_text.proofs.reader.Progress.operate.Goals as goal

pub returns-clause-ok : goal.returns-clause-ok
returns-clause-ok c profile gone text h =
    let self = c.args.self.now in
    let operation = c.args.operation in
    let begins = c.requires.begins in
    let before = gone ++ self.commands.items in
    let item : List ℕ = take operation.len c.args.bytes.now in
    let whats : List Command = modes_of operation.mode ++ Operate operation.action operation.x operation.y operation.i operation.j ∷ [] in
    let none = sym h.ended ∙ c.requires.running in
    let no_item : self.item.items ≡ [] = nil_from_length _ (omega (arith, self.item.ok.0, c.requires.fresh)) in
    let no_rest : h.rest ≡ [] = nil_from_length h.rest (sym (length-bytes_of h.rest) ∙ (ap length (sym (h.pending none)) ∙ ap length no_item)) in
    let size : length item ≡ operation.len = omega (arith, length-take operation.len c.args.bytes.now, begins.within) in
    let short : length item ≤ item_limit = omega (arith, size, begins.short) in
    let k = takes profile text item h.items h.rest (self.items + 1) before h.splits no_rest none h.commands begins.one begins.kept short (omega (arith, h.count)) in
    let after = gone ++ c.add_with_mode.new.commands.items in
    let added : before ++ item_entries (self.items + 1) (length text) whats ≡ after = ap (λ b. before ++ item_entries (self.items + 1) b whats) (sym h.offset) ∙ sym (ap (λ (x : Entries). gone ++ x) c.in_ok-self.ensures.added ∙ sym (append_assoc gone self.commands.items (item_entries (self.items + 1) self.offset whats))) in
    let said : spelled_in profile (self.items + 1) (length text) item before ≡ Ok after = spelled_ok profile (self.items + 1) (length text) item before whats short (begins.parses profile (latest_action before)) ∙ ap (λ (x : Entries). Ok x) added in
    record {
      items = h.items ++ k.last ∷ [];
      rest = [];
      splits = k.splits;
      commands = k.shows ∙ said;
      profile_is = h.profile_is;
      latest = c.in_ok-self.ensures.latest before h.latest ∙ ap latest_action (ap (λ b. before ++ item_entries (self.items + 1) b whats) h.offset ∙ added);
      count = ap (λ n. n + 1) h.count ∙ sym k.count;
      pending = λ _. no_item;
      start = λ _ lt. absurd (omega arith);
      offset = omega (arith, h.offset, length-append text item, size);
      ended = c.requires.running ∙ sym (k.ends ∙ begins.goes_on);
    }

pub returns-in_err-self-clause-err : goal.returns-in_err-self-clause-err
returns-in_err-self-clause-err c =
    let p = err_from_is_err_and c.from_residual.result c.from_residual.ensures.1 in
    rw (p.1, p.2) (out_of_memory c.args.self.now c.add_with_mode.new.commands.items (take c.args.operation.len c.args.bytes.now) c.in_err-self.ensures.err)
