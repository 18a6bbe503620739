-- A line that stands in a piece from its first byte to its LF, for a reader that holds no unfinished line.
use Rattle.drill_text.proofs.Common.{◌≡◌, ◌+◌, ℕ, List, [], ◌∷◌, ◌++◌, Ok, Err, length, sym, ap, subst, ◌∙◌, arith, append_assoc, length-append, DrillCommand, Fail, IfFault, Progress, HasNoBreak, Splits, bytes_of, Kind, shown_by, spelled_in, Keep, HasReadIn, Holds, Refuses}
use Rattle.grid_units.specs.declared.fault.Fail.TheVariants.{Memory, Refused}
use Rattle.drill_text.proofs.SplitsLemmas.{Splits-grow, Splits-close, bytes_of-push}
use Rattle.drill_text.proofs.PieceLemmas.{closed}

-- the text, followed by this line and its LF
whole_splits : {p : Kind} {keep : Keep} (old : Progress) (text line : List ℕ) (h : Holds old p keep text) → old.line.items ≡ [] → HasNoBreak line → Splits (text ++ (line ++ 10 ∷ [])) (h.lines ++ line ∷ []) []
whole_splits old text line h none inside =
    let alone : Splits text h.lines [] = subst (λ (x : List ℕ). Splits text h.lines x) none h.splits in
    subst (λ (x : List ℕ). Splits x (h.lines ++ line ∷ []) []) (append_assoc text line (10 ∷ []))
    (Splits-close (text ++ line) h.lines line (Splits-grow text h.lines [] line alone inside))

-- the reader that took the line in
pub whole_holds : {p : Kind} {keep : Keep} (old new : Progress) (text line : List ℕ) (after : List DrillCommand) (h : Holds old p keep text) → old.line.items ≡ [] → HasNoBreak line → new.line.items ≡ old.line.items → spelled_in p h.lines line h.commands ≡ Ok after → HasReadIn new.reader new.state new.kept p keep (h.lines ++ line ∷ []) after
    → new.lines ≡ old.lines + 1 → new.start ≡ new.offset → new.offset ≡ old.offset + (length line + 1) → Holds new p keep (text ++ (line ++ 10 ∷ []))
whole_holds {p = p} old new text line after h none inside kept spells has_read count start offset =
    let lines : List (List ℕ) = h.lines ++ line ∷ [] in
    let empty : new.line.items ≡ [] = kept ∙ none in
    record {
      lines = lines;
      splits = subst (λ (x : List ℕ). Splits (text ++ (line ++ 10 ∷ [])) lines x) (sym empty) (whole_splits old text line h none inside);
      commands = after;
      spelled = ap (shown_by p lines) empty ∙ (closed old text line h ∙ spells);
      has_read = has_read;
      count = omega (arith, count, h.count, length-append h.lines (line ∷ []));
      start = omega (arith, start, offset, h.start, h.offset, ap length h.splits.whole, length-append (bytes_of h.lines) old.line.items, ap length none, ap length (bytes_of-push h.lines line), length-append (bytes_of h.lines) (line ++ 10 ∷ []), length-append line (10 ∷ []));
      offset = omega (arith, offset, h.offset, length-append text (line ++ 10 ∷ []), length-append line (10 ∷ []));
    }

-- the taken bytes are this line and its LF
pub whole_taken : {p : Kind} {keep : Keep} (old new : Progress) (text line taken : List ℕ) (after : List DrillCommand) (h : Holds old p keep text) → line ++ 10 ∷ [] ≡ taken → old.line.items ≡ [] → HasNoBreak line → new.line.items ≡ old.line.items → spelled_in p h.lines line h.commands ≡ Ok after
    → HasReadIn new.reader new.state new.kept p keep (h.lines ++ line ∷ []) after → new.lines ≡ old.lines + 1 → new.start ≡ new.offset → new.offset ≡ old.offset + (length line + 1) → Holds new p keep (text ++ taken)
whole_taken {p = p} {keep = keep} old new text line taken after h is none inside kept spells has_read count start offset =
    subst (λ (x : List ℕ). Holds new p keep (text ++ x)) is (whole_holds old new text line after h none inside kept spells has_read count start offset)

-- the fault that the line shows
pub whole_refused : (old : Progress) (line : List ℕ) (e : Fail) → old.line.items ≡ [] → HasNoBreak line
    → ((p : Kind) (keep : Keep) (text : List ℕ) (h : Holds old p keep text) → IfFault (λ f. spelled_in p h.lines line h.commands ≡ Err f) e) → Refuses old (line ++ 10 ∷ []) e
whole_refused old line Memory none inside k = tt
whole_refused old line (Refused f) none inside k = λ p keep text h. record { lines = h.lines ++ line ∷ []; rest = []; splits = whole_splits old text line h none inside; fault = closed old text line h ∙ k p keep text h }
