-- What a reader of a layer in pieces shows of the text so far.
use Rattle.layer_image.proofs.Common.{◌≡◌, inl, inr, ℕ, List, [], ◌++◌, length, take, drop, append-nil, append_assoc, Bool, true, false, cond, Result, Ok, Err, OnOk, IfOk, IfErr, refl, sym, ap, subst, ◌∙◌, nat_lt, arith, take-length, if◌then◌else◌, take-append-drop, AnswersAlways, Answers, IfFault, Fault, bind_ok, Profile, WordReader, OffsetByte, Entries, commands_by, shown_by, ShowsIn, ReadsIn, SpellsPrefixIn, SpellsBeforeFaultIn, entries_after, StandsIn, FailedIn, FailsWithIn, held_entries, shown_spelled, WidePad, Keep, IsFirstFault, LayerImage, ReadsLayer, ReadsLayerIn, IsKeptOf, KeptLayer, ReadsKeptIn, image_in, LayerContent, counts_of, features_of, flashes_of, pads_of, Strict, IsLegal, HasContent, ShowsLayerFaultIn, text_limit, without_places, broken_rule_in, HasMetText, LayerStands, keeps_commands, FeatureCounts}
use Rattle.grid_units.specs.declared.fault.Fail.{Fail}
use Rattle.grid_units.specs.declared.fault.Fail.TheVariants as fails
use Rattle.gerber_text.proofs.FinishLemmas.{holds_shows, shows_reads}
use Rattle.gerber_text.proofs.FaultsStay.{fails_longer}
use Rattle.layer_features.specs.declared.keep.Keep.TheVariants as keep
use Rattle.layer_image.specs.declared.content.LayerContent.TheVariants as content
use Rattle.layer_image.specs.declared.reader.LayerReader.{LayerReader}
use Rattle.layer_image.proofs.KeptLemmas.{counts_of_flashes}
use Rattle.layer_state.specs.Flashes.{other_count}

short_ok : (t : Bool) (x cs : Entries) (e : Fault) → cond t (Err e) (Ok x) ≡ Ok cs → x ≡ cs
short_ok true x cs e h = absurd cc
short_ok false x cs e h = cc

-- all items of a text that shows no fault are kept
shows_kept : (profile : Profile) (text : List ℕ) (cs : Entries) → ShowsIn profile text (Ok cs) → (kept : ℕ) × SpellsPrefixIn profile text kept cs
shows_kept profile text cs s =
    let first = bind_ok (shown_by profile s.items s.rest) _ cs (sym s.answer_is) in
    let same : first.0 ≡ cs = short_ok (nat_lt text_limit (length text)) first.0 cs _ first.2 in (
      length s.items,
      record {
        items = s.items;
        rest = s.rest;
        splits = s.splits;
        within = omega arith;
        spelled = ap (λ (x : List (List OffsetByte)). commands_by profile 1 x []) (take-length s.items) ∙ shown_spelled profile s.items s.rest first.0 first.1 ∙ ap (λ (x : Entries). Ok x) same;
      },
    )

-- a rule's fault among the commands of the items so far is shown, whatever the word reader answered
pub rule_shown : (profile : Profile) (text : List ℕ) (words : WordReader) (gone cs : Entries) (r : Result (Unit {0}) Fail) (e : Fail) → OnOk r (StandsIn words profile gone text) → IfErr r (FailedIn words profile gone text)
    → (StandsIn words profile gone text → ShowsIn profile text (Ok (gone ++ cs))) → ((d : Fail) → FailedIn words profile gone text d → SpellsBeforeFaultIn profile text d (gone ++ cs)) → IfFault (IsFirstFault profile (gone ++ cs)) e → IfFault (ShowsLayerFaultIn profile text) e
rule_shown profile text words gone cs r fails.Memory stands failed shows keeps h = tt
rule_shown profile text words gone cs (Ok x) (fails.Refused f) stands failed shows keeps h = let k = shows_kept profile text (gone ++ cs) (shows stands) in inl (k.0, gone ++ cs, k.1, h)
rule_shown profile text words gone cs (Err fails.Memory) (fails.Refused f) stands failed shows keeps h = let k = keeps fails.Memory failed in inl (k.0, gone ++ cs, k.1, h)
rule_shown profile text words gone cs (Err (fails.Refused g)) (fails.Refused f) stands failed shows keeps h = let k = keeps (fails.Refused g) failed in inl (k.0, gone ++ cs, k.2, h)

-- a fault of reading is shown where the commands before it are legal
pub words_shown : (profile : Profile) (text : List ℕ) (words : WordReader) (gone cs : Entries) (e : Fail) → FailedIn words profile gone text e → SpellsBeforeFaultIn profile text e (gone ++ cs) → IsLegal (broken_rule_in profile) (without_places (gone ++ cs)) → IfFault (ShowsLayerFaultIn profile text) e
words_shown profile text words gone cs fails.Memory failed kept legal = tt
words_shown profile text words gone cs (fails.Refused f) failed kept legal = inr (gone ++ cs, failed.fails.reported, kept, legal)

-- a fault that a text shows is the one that it has
pub shown_read : (profile : Profile) (text : List ℕ) (f : Fault) → ShowsLayerFaultIn profile text f → ReadsLayerIn profile text (Err f)
shown_read profile text f (inl h) = inl h
shown_read profile text f (inr h) = inr (h.0, shows_reads profile text f h.1, h.2, h.3)

-- each longer text shows it too
pub shown_longer : (profile : Profile) (text more : List ℕ) (f : Fault) → ShowsLayerFaultIn profile text f → ShowsLayerFaultIn profile (text ++ more) f
shown_longer profile text more f (inl h) =
    let here : FailsWithIn profile text h.1 fails.Memory = record { reported = tt; kept = (h.0, h.2) } in
    let on = fails_longer profile text more h.1 fails.Memory here in
    inl (on.kept.0, h.1, on.kept.1, h.3)
shown_longer profile text more f (inr h) =
    let here : FailsWithIn profile text h.0 (fails.Refused f) = record { reported = h.1; kept = h.2 } in
    let on = fails_longer profile text more h.0 (fails.Refused f) here in
    inr (h.0, on.reported, on.kept, h.3)

longer : (profile : Profile) (text bytes : List ℕ) (n : ℕ) (e : Fail) → IfFault (ShowsLayerFaultIn profile (text ++ take n bytes)) e → IfFault (ShowsLayerFaultIn profile (text ++ bytes)) e
longer profile text bytes n fails.Memory h = tt
longer profile text bytes n (fails.Refused f) h =
    subst (λ (t : List ℕ). ShowsLayerFaultIn profile t f) (append_assoc text (take n bytes) (drop n bytes) ∙ ap (λ (x : List ℕ). text ++ x) (take-append-drop n bytes)) (shown_longer profile (text ++ take n bytes) (drop n bytes) f h)

-- a rule's fault among the commands of some of these bytes is shown, whatever the word reader answered
pub part_shown : (profile : Profile) (text bytes : List ℕ) (words : WordReader) (gone cs : Entries) (r : Result ℕ Fail) (e : Fail) → IfOk r (λ n. StandsIn words profile gone (text ++ take n bytes)) → IfErr r (FailedIn words profile gone (text ++ bytes))
    → ((t : List ℕ) → StandsIn words profile gone t → ShowsIn profile t (Ok (gone ++ cs))) → ((t : List ℕ) (d : Fail) → FailedIn words profile gone t d → SpellsBeforeFaultIn profile t d (gone ++ cs)) → IfFault (IsFirstFault profile (gone ++ cs)) e → IfFault (ShowsLayerFaultIn profile (text ++ bytes)) e
part_shown profile text bytes words gone cs (Ok n) e stands failed shows keeps h = longer profile text bytes n e (rule_shown profile (text ++ take n bytes) words gone cs (Ok tt) e stands tt (shows (text ++ take n bytes)) (keeps (text ++ take n bytes)) h)
part_shown profile text bytes words gone cs (Err d) e stands failed shows keeps h = rule_shown profile (text ++ bytes) words gone cs (Err d) e tt failed (shows (text ++ bytes)) (keeps (text ++ bytes)) h

-- a rule's fault among the commands that were read is shown, and all of them are gone
pub gone_shown : (profile : Profile) (text bytes : List ℕ) (n : ℕ) (words : WordReader) (gone : Entries) (e : Fail) → StandsIn words profile gone (text ++ take n bytes) → held_entries words ≡ [] → IfFault (IsFirstFault profile gone) e → IfFault (ShowsLayerFaultIn profile (text ++ bytes)) e
gone_shown profile text bytes n words gone fails.Memory stands none h = tt
gone_shown profile text bytes n words gone (fails.Refused f) stands none h =
    let so_far = text ++ take n bytes in
    let all : gone ≡ gone ++ held_entries words = sym (append-nil gone) ∙ ap (λ (x : Entries). gone ++ x) (sym none) in
    let k = shows_kept profile so_far gone (holds_shows profile words.progress gone so_far gone all words.progress.in_text stands.holds) in
    longer profile text bytes n (fails.Refused f) (inl (k.0, gone, k.1, h))

-- where commands are not kept, none is, whatever came
pub none_kept : (b : Bool) (xs ys : Entries) → b ≡ false → cond b xs [] ≡ cond b ys []
none_kept b xs ys h = (λ i. cond (h i) xs []) ∙ sym (λ i. cond (h i) ys [])

pub shown_joined : (profile : Profile) (text more : List ℕ) (f : Fault) → ShowsLayerFaultIn profile text f → ReadsLayerIn profile (text ++ more) (Err f)
shown_joined profile text more f h = shown_read profile (text ++ more) f (shown_longer profile text more f h)

pub layer_shows_reads : (profile : Profile) (text : List ℕ) (e : Fail) → IfFault (ShowsLayerFaultIn profile text) e → Answers {T = KeptLayer} image_in (ReadsLayerIn profile text) (Err e)
layer_shows_reads profile text fails.Memory h = tt
layer_shows_reads profile text (fails.Refused f) h = shown_read profile text f h

-- no pads
abbrev nothing : List WidePad
nothing = []

-- where a whole layer is kept, that is the layer
whole_kept : (text : List ℕ) (kept : KeptLayer) (layer : LayerImage) → ReadsLayer text (Ok layer) → IsKeptOf Strict keep.Layer [] layer.commands kept → image_in kept ≡ layer
whole_kept text kept layer reads is = (λ i. record {
  commands = is.commands i;
  flashes = is.flashes i;
  pads = is.plain_pads refl refl i;
  pad_count = (ap (λ (c : FeatureCounts). c.flashed) is.counts ∙ ap (λ (c : FeatureCounts). c.flashed) (sym strict)) i;
  other = (ap (λ (c : FeatureCounts). c.other) is.counts ∙ ap (λ (c : FeatureCounts). c.other) (sym strict)) i;
  file_function = is.named i;
}) ∙ sym reads.1
  where
    strict : record { flashed = length (pads_of (flashes_of (without_places layer.commands))); contours = 0; other = other_count (flashes_of (without_places layer.commands)) } ≡ counts_of (features_of Strict (without_places layer.commands))
    strict = counts_of_flashes (without_places layer.commands) _ _ refl refl

-- nothing is left where nothing was taken
pub none_left : (b : Bool) → nothing ≡ (if b then [] else [])
none_left true = refl
none_left false = refl

pub all_kept : (text : List ℕ) (r : Result KeptLayer Fail) → Answers (λ (layer : KeptLayer). layer) (ReadsKeptIn Strict keep.Layer [] text) r → Answers image_in (ReadsLayer text) r
all_kept text (Ok kept) h = subst (λ (l : LayerImage). ReadsLayer text (Ok l)) (sym (whole_kept text kept h.0 h.1 h.2)) h.1
all_kept text (Err fails.Memory) h = tt
all_kept text (Err (fails.Refused f)) h = h

-- the end that was refused is a layer's fault
pub end_err : (profile : Profile) (text : List ℕ) (gone : Entries) (keep : Keep) (left : List WidePad) (e : Fail) → AnswersAlways (entries_after gone) (λ answer. ReadsIn profile text answer) (Err e) → SpellsBeforeFaultIn profile text e gone → IsLegal (broken_rule_in profile) (without_places gone)
    → Answers {T = KeptLayer} (λ layer. layer) (ReadsKeptIn profile keep left text) (Err e)
end_err profile text gone keep left fails.Memory h kept legal = tt
end_err profile text gone keep left (fails.Refused f) h kept legal = inr (gone, h, kept, legal)

-- the commands that were met are legal
pub legal_content : (profile : Profile) (keep : Keep) (taken : List WidePad) (held_entries : LayerContent) (entries : Entries) → HasContent profile keep taken held_entries entries → IsLegal (broken_rule_in profile) (without_places entries)
legal_content profile keep taken (content.Flashes scan) entries h = h.scanned.legal
legal_content profile keep taken (content.Features met) entries h = h.1.scanned.legal

-- where the words are the same, what was met of them is
pub same_words_met : {C : Type 0} {has_met : C → Entries → Type 0} {old new : WordReader} {content : C} {profile : Profile} {text : List ℕ} → new ≡ old → HasMetText has_met old content profile text → HasMetText has_met new content profile text
same_words_met {has_met} {old} {new} {content} {profile} {text} same h = subst (λ (w : WordReader). HasMetText has_met w content profile text) (sym same) h

-- the words and the content of a reader
pub parts_of : {C : Type 0} (of : C → LayerContent) (reader : LayerReader) (content : C) (profile : Profile) (keep : Keep) (taken : List WidePad) (text : List ℕ) → reader.content ≡ of content → LayerStands reader profile keep taken text → HasMetText (λ c. HasContent profile keep taken (of c)) reader.words content profile text
parts_of of reader content profile keep taken text is h = record { gone = h.gone; words = h.words; none = h.none; met = subst (λ (l : LayerContent). HasContent profile keep taken l h.gone) is h.content }

-- a reader that drops commands, where its words and its content have met more
pub parts_met : {C E : Type 0} (of : C → LayerContent) (reader : LayerReader) (words : WordReader) (content : C) (profile : Profile) (keep : Keep) (taken : List WidePad) (text more : List ℕ) (r : Result (Unit {0}) E) → keeps_commands reader.keep ≡ false → LayerStands reader profile keep taken text
    → OnOk r (HasMetText (λ c. HasContent profile keep taken (of c)) words content profile more) → OnOk r (LayerStands (record { alloc = reader.alloc; words = words; content = of content; profile = reader.profile; keep = reader.keep; kept = reader.kept; failed = reader.failed }) profile keep taken more)
parts_met of reader words content profile keep taken text more (Ok x) dropped h now = record {
  sound = h.sound;
  same = h.same;
  same_profile = h.same_profile;
  gone = now.gone;
  words = now.words;
  none = now.none;
  content = now.met;
  kept = h.kept ∙ none_kept (keeps_commands keep) h.gone now.gone (ap keeps_commands (sym h.same) ∙ dropped);
}
parts_met of reader words content profile keep taken text more (Err e) dropped h now = tt
