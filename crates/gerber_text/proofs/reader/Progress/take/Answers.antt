use Rattle.gerber_text.proofs.Common.{◌≡◌, ◌+◌, ◌-◌, ℕ, List, ◌++◌, take, drop, sym, subst, arith, append_assoc, ◌∙◌, ap, length-append, length-take, length-drop, take-append-drop, err_from_is_err_and, IfErr-weaker, fault, text_limit, TooLong, Refused, Refuses, RefusesText, FailsWithIn}
use Rattle.gerber_text.proofs.FinishLemmas.{refuses_within, refuses_beyond, too_long_text}
use Rattle.gerber_text.proofs.reader.Progress.take.Goals as goal

pub returns-then-piece-room-clause-err : goal.returns-then-piece-room-clause-err
returns-then-piece-room-clause-err c =
    let left = c.take_all.new.self.commands.items in
    IfErr-weaker c.take_all.result (Refuses c.args.self.now left c.args.piece.now) (RefusesText c.args.self.now left c.args.piece.now) (λ e h. refuses_within c.args.self.now left c.args.piece.now e (omega (arith, c.args.self.now.in_text, c.if-piece-room.true)) h) c.take_all.ensures.err

pub returns-in_err-take_all-clause-err : goal.returns-in_err-take_all-clause-err
returns-in_err-take_all-clause-err c =
    let p = err_from_is_err_and c.from_residual.result c.from_residual.ensures.1 in
    let piece = c.args.piece.now in
    let left = c.take_all-2.new.self.commands.items in
    let room = text_limit - c.args.self.now.offset in
    let e = c.in_err-take_all.field-0.0 in
    rw (p.1, p.2) (subst (λ (x : List ℕ). RefusesText c.args.self.now left x e) (take-append-drop room piece) (refuses_beyond c.args.self.now left (take room piece) (drop room piece) e (omega (arith, c.args.self.now.in_text, c.if-piece-room.false, length-take room piece)) c.in_err-take_all.ensures.err))

pub returns-clause-err : goal.returns-clause-err
returns-clause-err c profile gone text h =
    let piece = c.args.piece.now in
    let room = text_limit - c.args.self.now.offset in
    let new = c.take_all-2.new.self in
    let joined : (text ++ take room piece) ++ drop room piece ≡ text ++ piece = append_assoc text (take room piece) (drop room piece) ∙ ap (λ (x : List ℕ). text ++ x) (take-append-drop room piece) in
    subst (FailsWithIn profile (text ++ piece) (gone ++ new.commands.items)) (sym c.refuse.ensures) (subst (λ (x : List ℕ). FailsWithIn profile x (gone ++ new.commands.items) (Refused (fault (new.items + 1) text_limit TooLong))) joined (too_long_text profile new gone (text ++ take room piece) (drop room piece) (omega (arith, h.offset, c.args.self.now.in_text, c.if-piece-room.false, length-append text (take room piece), length-take room piece)) (omega (arith, c.if-piece-room.false, length-drop room piece)) (c.in_ok-take_all.ensures.ok profile gone text h)))
