use Rattle.gerber_text.proofs.Common.{refl, ◌≡◌, ◌+◌, ◌<◌, false, ℕ, List, [], ◌∷◌, ◌++◌, Err, length, Ok, sym, ap, subst, ◌∙◌, arith, length-append, Profile, Progress, end_byte, is_end_item, OffsetByte, first_offset, err_from_is_err_and, Fault, Fail, Memory, Refused, Entries, spelled_in, ResultsIn, Refuses, Holds}
use Rattle.gerber_text.proofs.ShowsLemmas.{too_long, out_of_memory, kept_pushed, take_of_push}
use Rattle.gerber_text.proofs.ReaderStepLemmas.{Closed, closes, first_is, length-bytes_of, spelled_place}
use Rattle.gerber_text.proofs.reader.Progress.close.Goals as goal

-- the item that a last byte ends, for a reader that holds this text
closed : (old : Progress) (last byte : ℕ) (profile : Profile) (gone : Entries) (text : List ℕ) (h : Holds old profile gone text) → old.ended ≡ false → last ≡ end_byte old.item.items → (length old.item.items ≡ 0 → byte ≡ old.offset) → (0 < length old.item.items → byte ≡ old.start)
    → Closed profile text h.items (h.rest ++ (length text, last) ∷ []) (old.item.items ++ last ∷ []) last (old.items + 1) byte (gone ++ old.commands.items)
closed old last byte profile gone text h running last-is fresh begun =
    let none = sym h.ended ∙ running in
    let is = h.pending none in
    let size : length h.rest ≡ length old.item.items = sym (length-bytes_of h.rest) ∙ ap length (sym is) in
    let start : byte ≡ first_offset (h.rest ++ (length text, last) ∷ []) = first_is h.rest (length text, last) byte (λ e. fresh (sym size ∙ e) ∙ h.offset) (λ lt. begun (omega (arith, size, lt)) ∙ h.start none lt) in
    closes profile text h.items h.rest (old.item.items ++ last ∷ []) last (old.items + 1) byte (gone ++ old.commands.items) h.splits none h.commands (last-is ∙ ap end_byte is) (omega (arith, h.count)) start (ap (λ (x : List ℕ). x ++ last ∷ []) is)

-- a fault of the item that a last byte ends
refused : (old : Progress) (last byte : ℕ) → old.ended ≡ false → last ≡ end_byte old.item.items → (length old.item.items ≡ 0 → byte ≡ old.offset) → (0 < length old.item.items → byte ≡ old.start)
    → (left : Entries) → left ≡ old.commands.items → (f : Fault) → ((profile : Profile) (gone : Entries) (text : List ℕ) → Holds old profile gone text → spelled_in old.profile (old.items + 1) byte (old.item.items ++ last ∷ []) (gone ++ old.commands.items) ≡ Err f) → Refuses old left (last ∷ []) (Refused f)
refused old last byte running last-is fresh begun left same f err = λ profile gone text h.
    let k = closed old last byte profile gone text h running last-is fresh begun in
    let item : List OffsetByte = h.rest ++ (length text, last) ∷ [] in
    let e = ap (λ p. spelled_in p (old.items + 1) byte (old.item.items ++ last ∷ []) (gone ++ old.commands.items)) (sym h.profile_is) ∙ err profile gone text h in
    record {
      items = h.items ++ item ∷ [];
      rest = [];
      splits = k.splits;
      kept = length h.items;
      within = (take_of_push h.items item (length h.items) (omega arith)).0;
      spelled = kept_pushed profile old gone text h item ∙ ap (λ (x : Entries). Ok (gone ++ x)) (sym same);
      reported = (k.shows ∙ e, spelled_place profile (old.items + 1) byte (old.item.items ++ last ∷ []) (gone ++ old.commands.items) f e ∙ omega (arith, h.count));
    }

refused_or_memory : (old : Progress) (last byte : ℕ) → old.ended ≡ false → last ≡ end_byte old.item.items → (length old.item.items ≡ 0 → byte ≡ old.offset) → (0 < length old.item.items → byte ≡ old.start)
    → (left : Entries) → left ≡ old.commands.items → (e : Fail) → ((profile : Profile) (gone : Entries) (text : List ℕ) → Holds old profile gone text → ResultsIn {X = Unit {0}} (Err e) (gone ++ left) (spelled_in old.profile (old.items + 1) byte (old.item.items ++ last ∷ []) (gone ++ old.commands.items))) → Refuses old left (last ∷ []) e
refused_or_memory old last byte running last-is fresh begun left same Memory h = out_of_memory old left (last ∷ []) same
refused_or_memory old last byte running last-is fresh begun left same (Refused f) h = refused old last byte running last-is fresh begun left same f h

pub returns-clause-ok : goal.returns-clause-ok
returns-clause-ok c profile gone text h =
    let old = c.args.self.now in
    let last = c.args.last in
    let len = old.item.ok.0 in
    let k = closed old last c.item_start-byte.result profile gone text h c.requires.running c.requires.last (λ e. c.item_start-byte.ensures.fresh (omega (arith, len, e))) (λ lt. c.item_start-byte.ensures.begun (omega (arith, len, lt))) in
    let item : c.deref.result.now ≡ old.item.items ++ last ∷ [] = c.deref.ensures.value ∙ c.in_ok-push.ensures.items in
    let item-2 : c.deref-2.result.now ≡ old.item.items ++ last ∷ [] = c.deref-2.ensures.value ∙ c.in_ok-push.ensures.items in
    record {
      items = h.items ++ (h.rest ++ (length text, last) ∷ []) ∷ [];
      rest = [];
      splits = k.splits;
      commands = k.shows ∙ ((λ i. spelled_in (sym h.profile_is i) (old.items + 1) c.item_start-byte.result (sym item i) (gone ++ old.commands.items)) ∙ c.in_ok-self.ensures.spelled gone h.latest);
      profile_is = h.profile_is;
      latest = c.in_ok-self.ensures.latest gone h.latest;
      count = ap (λ n. n + 1) h.count ∙ sym k.count;
      pending = λ _. c.clear.ensures.items;
      start = λ _ lt. absurd (omega arith);
      offset = omega (arith, h.offset, length-append text (last ∷ []));
      ended = c.is_end_item-self.ensures ∙ (ap is_end_item item-2 ∙ sym k.ends);
    }

pub returns-then-len-eq-ITEM_LIMIT-clause-err : goal.returns-then-len-eq-ITEM_LIMIT-clause-err
returns-then-len-eq-ITEM_LIMIT-clause-err c =
    let old = c.args.self.now in
    let last = c.args.last in
    let len = old.item.ok.0 in
    subst (Refuses old old.commands.items (last ∷ [])) (sym c.refuse.ensures) (refused old last c.item_start-byte.result c.requires.running c.requires.last (λ e. c.item_start-byte.ensures.fresh (omega (arith, len, e))) (λ lt. c.item_start-byte.ensures.begun (omega (arith, len, lt))) old.commands.items refl _ (λ profile gone text h. too_long old.profile (old.items + 1) c.item_start-byte.result (old.item.items ++ last ∷ []) (gone ++ old.commands.items) (omega (arith, len, c.if-len-eq-ITEM_LIMIT.true, length-append old.item.items (last ∷ [])))))

pub returns-in_err-self-clause-err : goal.returns-in_err-self-clause-err
returns-in_err-self-clause-err c =
    let old = c.args.self.now in
    let last = c.args.last in
    let len = old.item.ok.0 in
    let item : c.deref.result.now ≡ old.item.items ++ last ∷ [] = c.deref.ensures.value ∙ c.in_ok-push.ensures.items in
    let e = c.in_err-self.field-0.0 in
    let p = err_from_is_err_and c.from_residual-in_err-self.result c.from_residual-in_err-self.ensures.1 in
    rw (p.1, p.2) (refused_or_memory old last c.item_start-byte.result c.requires.running c.requires.last (λ z. c.item_start-byte.ensures.fresh (omega (arith, len, z))) (λ lt. c.item_start-byte.ensures.begun (omega (arith, len, lt))) c.parse_item.new.commands.items c.in_err-self.ensures.err e (λ profile gone text h. subst (λ (b : List ℕ). ResultsIn {X = Unit {0}} (Err e) (gone ++ c.parse_item.new.commands.items) (spelled_in old.profile (old.items + 1) c.item_start-byte.result b (gone ++ old.commands.items))) item (c.in_err-self.ensures.spelled gone h.latest)))

pub returns-in_err-push-clause-err : goal.returns-in_err-push-clause-err
returns-in_err-push-clause-err c =
    let p = err_from_is_err_and c.from_residual.result c.from_residual.ensures.1 in
    rw (p.1, p.2) (out_of_memory c.args.self.now c.args.self.now.commands.items (c.args.last ∷ []) refl)

pub parse_item-requires-clause-item : goal.parse_item-requires-clause-item
parse_item-requires-clause-item c =
    let old = c.args.self.now.item.items in
    (old, c.deref.ensures.value ∙ c.in_ok-push.ensures.items ∙ ap (λ b. old ++ b ∷ []) c.requires.last)
