use Rattle.gerber_text.proofs.Common.{◌≡◌, ◌+◌, ◌≤◌, false, Ok, Err, ℕ, List, [], ◌∷◌, ◌++◌, length, take, sym, ap, ◌∙◌, arith, length-append, length-take, nil_from_length, err_from_is_err_and, Fault, Fail, Memory, Refused, Profile, Progress, HasLeadingItem, Entries, spelled_in, ResultsIn, Refuses, Holds, item_limit}
use Rattle.gerber_text.proofs.ShowsLemmas.{out_of_memory, kept_pushed, take_of_push}
use Rattle.gerber_text.proofs.ReaderStepLemmas.{length-bytes_of, spelled_place}
use Rattle.gerber_text.proofs.Items.{Taken, takes}
use Rattle.gerber_text.proofs.reader.Progress.take_item.Goals as goal

-- the item at the start of these bytes, for a reader that holds this text and no unfinished item
taken : (old : Progress) (bytes : List ℕ) (len : ℕ) (profile : Profile) (gone : Entries) (text : List ℕ) (h : Holds old profile gone text) → old.ended ≡ false → old.item.items ≡ [] → HasLeadingItem bytes len → Taken profile text (take len bytes) h.items (old.items + 1) (gone ++ old.commands.items)
taken old bytes len profile gone text h running no_item f =
    let none = sym h.ended ∙ running in
    let no_rest : h.rest ≡ [] = nil_from_length h.rest (sym (length-bytes_of h.rest) ∙ (ap length (sym (h.pending none)) ∙ ap length no_item)) in
    let short : length (take len bytes) ≤ item_limit = omega (arith, length-take len bytes, f.within, f.short) in
    takes profile text (take len bytes) h.items h.rest (old.items + 1) (gone ++ old.commands.items) h.splits no_rest none h.commands f.one f.kept short (omega (arith, h.count))

refused : (old : Progress) (bytes : List ℕ) (len : ℕ) → old.ended ≡ false → old.item.items ≡ [] → HasLeadingItem bytes len → (left : Entries) → left ≡ old.commands.items → (f : Fault)
    → ((profile : Profile) (gone : Entries) (text : List ℕ) → Holds old profile gone text → spelled_in old.profile (old.items + 1) old.offset (take len bytes) (gone ++ old.commands.items) ≡ Err f) → Refuses old left (take len bytes) (Refused f)
refused old bytes len running no_item prefix left same f err = λ profile gone text h.
    let k = taken old bytes len profile gone text h running no_item prefix in
    let e = (λ i. spelled_in (sym h.profile_is i) (old.items + 1) (sym h.offset i) (take len bytes) (gone ++ old.commands.items)) ∙ err profile gone text h in
    record {
      items = h.items ++ k.last ∷ [];
      rest = [];
      splits = k.splits;
      kept = length h.items;
      within = (take_of_push h.items k.last (length h.items) (omega arith)).0;
      spelled = kept_pushed profile old gone text h k.last ∙ ap (λ (x : Entries). Ok (gone ++ x)) (sym same);
      reported = (k.shows ∙ e, spelled_place profile (old.items + 1) (length text) (take len bytes) (gone ++ old.commands.items) f e ∙ omega (arith, h.count));
    }

refused_or_memory : (old : Progress) (bytes : List ℕ) (len : ℕ) → old.ended ≡ false → old.item.items ≡ [] → HasLeadingItem bytes len → (left : Entries) → left ≡ old.commands.items → (e : Fail)
    → ((profile : Profile) (gone : Entries) (text : List ℕ) → Holds old profile gone text → ResultsIn {X = Unit {0}} (Err e) (gone ++ left) (spelled_in old.profile (old.items + 1) old.offset (take len bytes) (gone ++ old.commands.items))) → Refuses old left (take len bytes) e
refused_or_memory old bytes len running no_item prefix left same Memory h = out_of_memory old left (take len bytes) same
refused_or_memory old bytes len running no_item prefix left same (Refused f) h = refused old bytes len running no_item prefix left same f h

pub returns-clause-ok : goal.returns-clause-ok
returns-clause-ok c profile gone text h =
    let old = c.args.self.now in
    let item : List ℕ = take c.args.len c.args.bytes.now in
    let prefix = c.requires.prefix in
    let no_item : old.item.items ≡ [] = nil_from_length _ (omega (arith, old.item.ok.0, c.requires.fresh)) in
    let size : length item ≡ c.args.len = omega (arith, length-take c.args.len c.args.bytes.now, prefix.within) in
    let k = taken old c.args.bytes.now c.args.len profile gone text h c.requires.running no_item prefix in
    record {
      items = h.items ++ k.last ∷ [];
      rest = [];
      splits = k.splits;
      commands = k.shows ∙ ((λ i. spelled_in (sym h.profile_is i) (old.items + 1) (sym h.offset i) item (gone ++ old.commands.items)) ∙ c.in_ok-self.ensures.spelled gone h.latest);
      profile_is = h.profile_is;
      latest = c.in_ok-self.ensures.latest gone h.latest;
      count = ap (λ n. n + 1) h.count ∙ sym k.count;
      pending = λ _. no_item;
      start = λ _ lt. absurd (omega arith);
      offset = omega (arith, h.offset, length-append text item, size);
      ended = c.is_end_item-self.ensures ∙ sym k.ends;
    }

pub returns-in_err-self-clause-err : goal.returns-in_err-self-clause-err
returns-in_err-self-clause-err c =
    let old = c.args.self.now in
    let no_item : old.item.items ≡ [] = nil_from_length _ (omega (arith, old.item.ok.0, c.requires.fresh)) in
    let e = c.in_err-self.field-0.0 in
    let p = err_from_is_err_and c.from_residual.result c.from_residual.ensures.1 in
    rw (p.1, p.2) (refused_or_memory old c.args.bytes.now c.args.len c.requires.running no_item c.requires.prefix c.parse_item.new.commands.items c.in_err-self.ensures.err e (λ profile gone text h. c.in_err-self.ensures.spelled gone h.latest))

pub parse_item-requires-clause-item : goal.parse_item-requires-clause-item
parse_item-requires-clause-item c = (c.requires.prefix.one.prefix, c.requires.prefix.one.whole)
