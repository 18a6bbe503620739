-- Each text is cut into items and a rest, so it shows something, and has a reading.
use Rattle.gerber_text.proofs.Common.{◌↔◌, ℕ, List, [], ◌∷◌, ◌++◌, length, take, eqb, Result, Ok, refl, sym, subst, append_assoc, append-nil, Profile, Fault, end_byte, OffsetByte, offset_bytes, bytes_of, has_end, Splits, Entries, read_by, ReadsIn, SpellsTextIn, text_limit}
use Rattle.gerber_text.proofs.ShowsLemmas.{by_end}
use Rattle.gerber_text.proofs.SpellsTextLemmas.{reads_spells, spells_reads}

abbrev IsCutUp : List OffsetByte → Type 0
IsCutUp ms = (items : List (List OffsetByte)) × (rest : List OffsetByte) × Splits ms items rest

cut_on : (profile : Profile) (done todo : List OffsetByte) (items : List (List OffsetByte)) (rest : List OffsetByte) → Splits done items rest → IsCutUp (done ++ todo)
cut_on profile done [] items rest s = (items, rest, subst (λ (ms : List OffsetByte). Splits ms items rest) (sym (append-nil done)) s)
cut_on profile done (m ∷ ms) items rest s =
    let p = by_end profile (has_end items) (eqb m.1 (end_byte (bytes_of rest))) done m items rest refl refl s in
    subst IsCutUp (append_assoc done (m ∷ []) ms) (cut_on profile (done ++ m ∷ []) ms p.more p.left p.splits)

cut_up : (profile : Profile) (ms : List OffsetByte) → IsCutUp ms
cut_up profile ms = cut_on profile [] ms [] [] (record { whole = refl; each = tt; partial = λ _. tt })

pub some_reading : (profile : Profile) (text : List ℕ) → (answer : Result Entries Fault) × ReadsIn profile text answer
some_reading profile text =
    let c = cut_up profile (offset_bytes (take text_limit text)) in
    (read_by profile (length text) c.0 c.1, record { items = c.0; rest = c.1; splits = c.2; answer_is = refl })

pub spelled_reading : (profile : Profile) (text : List ℕ) (commands : Entries) → SpellsTextIn profile text commands ↔ ReadsIn profile text (Ok commands)
spelled_reading profile text commands = (spells_reads profile text commands, reads_spells profile text commands)
