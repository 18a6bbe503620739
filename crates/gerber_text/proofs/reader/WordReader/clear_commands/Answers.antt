use Rattle.gerber_text.proofs.Common.{◌≡◌, ◌++◌, sym, ap, ◌∙◌, Ok, Entries, latest_action}
use Rattle.std.proofs.Common.{append-nil}
use Rattle.gerber_text.proofs.reader.WordReader.clear_commands.Goals as goal

pub returns-clause-gone : goal.returns-clause-gone
returns-clause-gone c profile gone text h =
    let all = gone ++ c.args.self.now.progress.commands.items in
    let same : all ≡ all ++ c.clear.new.self.items = sym (append-nil all) ∙ ap (λ (x : Entries). all ++ x) (sym c.clear.ensures.items) in
    record {
      sound = h.sound;
      holds = record {
        profile_is = h.holds.profile_is;
        items = h.holds.items;
        rest = h.holds.rest;
        splits = h.holds.splits;
        commands = h.holds.commands ∙ ap (λ (x : Entries). Ok x) same;
        latest = h.holds.latest ∙ ap latest_action same;
        count = h.holds.count;
        pending = h.holds.pending;
        start = h.holds.start;
        offset = h.holds.offset;
        ended = h.holds.ended;
      };
    }
