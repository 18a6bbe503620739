-- Extended items in the wide profile.
use Rattle.gerber_commands.proofs.Common.{◌≡◌, inl, inr, ℕ, Bool, true, false, cond, not, ◌&&◌, ◌||◌, eqb, List, [], ◌∷◌, ◌++◌, map, Option, Some, None, is_some, Ok, Err, refl, sym, ap, ◌∙◌, codes, AllByRecursion, join_with_byte, list_any, bytes_eq, join_with_byte-slice_split, Reason, BadWord, ClearPolarity, SeveralInOne, ◌>>=◌, strip_prefix, split_by, bind_ok, Command, Clear, Strict, Wide, Meaning, first_match, HasNo, IsPiece, pieces, has_several_pieces, before_last, last_byte, spelled_in_turn, IsPieceIn, IsWidePiece, SpellInTurn, ItemsAreWrittenIn, ItemsAreAnsweredIn, WideReadsMore}
use Rattle.std.proofs.Common.{unwrap_or}
use Rattle.std.proofs.lemmas.List.{append-nil}
use Rattle.gerber_commands.specs.Pieces.{refused_format_row, format_row, unit_piece_row, polarity_row, mirror_row, transform_row, repeat_row, repeat_start, no_effect_piece_row, neutral_axes_row, negative_row, deprecated_piece_row, block_aperture_row, piece, extended_meaning}
use Rattle.gerber_commands.specs.Profiles.{piece_among, wide_piece, wide_pieces}
use Rattle.gerber_commands.proofs.NumberRuns.{parts_divided}
use Rattle.gerber_commands.proofs.RowLemmas.{allowed, bytes_are, refused}
use Rattle.gerber_commands.proofs.WrittenPieces.{answers_are_written, parts_without, with_end_written}
use Rattle.gerber_commands.proofs.Answered.{with_end_answered, written_is_answered}

-- ---- one piece

-- the strict profile refuses clear polarity
clear_refused : first_match (pieces (codes "LPC")) ≡ Err ClearPolarity
unfolding refused_format_row format_row unit_piece_row polarity_row
clear_refused = refl

-- and the older word
word_refused : first_match (pieces (codes "ICAS")) ≡ Err BadWord
unfolding refused_format_row format_row unit_piece_row polarity_row mirror_row transform_row repeat_row repeat_start no_effect_piece_row neutral_axes_row negative_row deprecated_piece_row block_aperture_row
word_refused = refl

-- so what it reads is another piece
other_than : (form text : List ℕ) (reason : Reason) (cs : List Command) → first_match (pieces form) ≡ Err reason → first_match (pieces text) ≡ Ok cs → bytes_eq text form ≡ false
other_than form text reason cs refuses e = by (bytes_eq text form) refl
  where
    by : (t : Bool) → bytes_eq text form ≡ t → t ≡ false
    by true h = let same : ◌≡◌ {A = Meaning} (Err reason) (Ok cs) = sym refuses ∙ (ap (λ (t : List ℕ). first_match (pieces t)) (sym (bytes_are text form h)) ∙ e) in absurd cc
    by false h = refl

-- what the rows answer the wide profile answers too
answered_alike : (text : List ℕ) (cs : List Command) → first_match (pieces text) ≡ Ok cs → wide_piece text ≡ Ok cs
unfolding wide_piece
answered_alike text cs e =
    (λ i. unwrap_or (cond (other_than (codes "LPC") text ClearPolarity cs clear_refused e i) (Some (Ok (Clear ∷ []))) (cond (other_than (codes "ICAS") text BadWord cs word_refused e i) (Some (Ok [])) None)) (first_match (pieces text))) ∙ e

-- a piece is not several, so the rows answer for it
read_alone : (text : List ℕ) (cs : List Command) → has_several_pieces text ≡ false → first_match (pieces text) ≡ Ok cs → piece text ≡ Ok cs
unfolding piece
read_alone text cs one e = ap (λ t. cond t (Err SeveralInOne) (first_match (pieces text))) one ∙ e

-- a piece of the wide profile is so written
piece_written : (text : List ℕ) (cs : List Command) → has_several_pieces text ≡ false → wide_piece text ≡ Ok cs → IsWidePiece text cs
unfolding wide_piece
piece_written text cs one e = by (bytes_eq text (codes "LPC")) (bytes_eq text (codes "ICAS")) refl refl e
  where
    by : (t u : Bool) → bytes_eq text (codes "LPC") ≡ t → bytes_eq text (codes "ICAS") ≡ u → unwrap_or (cond t (Some (Ok (Clear ∷ []))) (cond u (Some (Ok [])) None)) (first_match (pieces text)) ≡ Ok cs → IsWidePiece text cs
    by true u h g k = inl (bytes_are text (codes "LPC") h, let same : ◌≡◌ {A = Meaning} (Ok (Clear ∷ [])) (Ok cs) = k in cc)
    by false true h g k = inr (inl (bytes_are text (codes "ICAS") g, let same : ◌≡◌ {A = Meaning} (Ok []) (Ok cs) = k in cc))
    by false false h g k = inr (inr (answers_are_written text cs (read_alone text cs one k)))

-- what so is written is read
piece_answered : (text : List ℕ) (cs : List Command) → IsWidePiece text cs → wide_piece text ≡ Ok cs
unfolding wide_piece piece
piece_answered text cs (inl (is, spelled)) = ap wide_piece is ∙ ap (λ (l : List Command). Ok l) (sym spelled)
piece_answered text cs (inr (inl (is, spelled))) = ap wide_piece is ∙ ap (λ (l : List Command). Ok l) (sym spelled)
piece_answered text cs (inr (inr h)) = answered_alike text cs (refused (has_several_pieces text) (first_match (pieces text)) cs SeveralInOne (written_is_answered text cs h)).1

-- ---- several pieces

-- a piece without `*` is no several ones
no_asterisk : (text : List ℕ) → HasNo 42 text → has_several_pieces text ≡ false
no_asterisk text h = ap (λ t. t && not (is_some (strip_prefix (codes "AM") text))) h

-- what several pieces spell is so written
turn_written : (parts : List (List ℕ)) (cs : List Command) → AllByRecursion (HasNo 42) parts → spelled_in_turn (map piece_among parts) ≡ Ok cs → SpellInTurn parts cs
unfolding piece_among
turn_written [] cs none e = let same : ◌≡◌ {A = Meaning} (Ok []) (Ok cs) = e in cc
turn_written (part ∷ parts) cs none e =
    let a = bind_ok (piece_among part) (λ commands. spelled_in_turn (map piece_among parts) >>= λ more. Ok (commands ++ more)) cs e in
    let b = bind_ok (spelled_in_turn (map piece_among parts)) (λ more. Ok (a.0 ++ more)) cs a.2 in
    let read = refused (is_some (strip_prefix (codes "AM") part)) (wide_piece part) a.0 BadWord a.1 in
    (a.0, b.0, sym (let same : ◌≡◌ {A = Meaning} (Ok (a.0 ++ b.0)) (Ok cs) = b.2 in cc), none.0, is_none (strip_prefix (codes "AM") part) read.0, piece_written part a.0 (no_asterisk part none.0) read.1, turn_written parts b.0 none.1 b.1)
  where
    is_none : {A : Type 0} (o : Option A) → is_some o ≡ false → o ≡ None
    is_none None h = refl
    is_none (Some x) h = absurd cc

-- and what is so written they spell
turn_answered : (parts : List (List ℕ)) (cs : List Command) → SpellInTurn parts cs → spelled_in_turn (map piece_among parts) ≡ Ok cs
unfolding piece_among
turn_answered [] cs is = ap (λ (l : List Command). Ok l) (sym is)
turn_answered (part ∷ parts) cs (first, others, is, none, no_macro, h, more) =
    (λ i. cond (is_some (no_macro i)) (Err BadWord) (piece_answered part first h i) >>= λ commands. turn_answered parts others more i >>= λ rest. Ok (commands ++ rest)) ∙ ap (λ (l : List Command). Ok l) (sym is)

-- no piece of them has `*`
turn_apart : (parts : List (List ℕ)) (cs : List Command) → SpellInTurn parts cs → AllByRecursion (HasNo 42) parts
turn_apart [] cs h = tt
turn_apart (part ∷ parts) cs h = (h.3, turn_apart parts h.1 h.6)

-- a text that begins with a piece that is no macro begins with no macro
begins_with : (first rest : List ℕ) → strip_prefix (codes "AM") first ≡ None → strip_prefix (codes "AM") (first ++ 42 ∷ rest) ≡ None
begins_with [] rest h = refl
begins_with (a ∷ []) rest h = by (eqb a 65)
  where
    by : (t : Bool) → cond (t && false) (Some rest) None ≡ None
    by true = refl
    by false = refl
begins_with (a ∷ b ∷ bs) rest h = by (bytes_eq (a ∷ b ∷ []) (codes "AM")) h
  where
    by : (t : Bool) → cond t (Some bs) None ≡ None → cond t (Some (bs ++ 42 ∷ rest)) None ≡ None
    by true h = absurd cc
    by false h = refl

has_asterisk : (first rest : List ℕ) → list_any (λ b. eqb b 42) (first ++ 42 ∷ rest) ≡ true
has_asterisk [] rest = refl
has_asterisk (b ∷ bs) rest = by (eqb b 42) (has_asterisk bs rest)
  where
    by : (t : Bool) → list_any (λ b. eqb b 42) (bs ++ 42 ∷ rest) ≡ true → (t || list_any (λ b. eqb b 42) (bs ++ 42 ∷ rest)) ≡ true
    by true h = refl
    by false h = h

-- what is so written is read, whether alone or among others
alone_answered : (text : List ℕ) (cs : List Command) → IsWidePiece text cs → wide_pieces text ≡ Ok cs
unfolding wide_pieces piece
alone_answered text cs h = ap (λ t. cond t (spelled_in_turn (map piece_among (split_by 42 text))) (wide_piece text)) (alone h) ∙ piece_answered text cs h
  where
    alone : IsWidePiece text cs → has_several_pieces text ≡ false
    alone (inl (is, spelled)) = ap has_several_pieces is
    alone (inr (inl (is, spelled))) = ap has_several_pieces is
    alone (inr (inr k)) = (refused (has_several_pieces text) (first_match (pieces text)) cs SeveralInOne (written_is_answered text cs k)).0

several_answered : (first : List ℕ) (others : List (List ℕ)) (cs : List Command) → SpellInTurn (first ∷ others) cs → wide_pieces (join_with_byte 42 (first ∷ others)) ≡ Ok cs
unfolding wide_pieces
several_answered first [] cs (part, more, is, none, no_macro, h, nothing) = alone_answered first part h ∙ ap (λ (l : List Command). Ok l) (sym (append-nil part) ∙ ap (λ (l : List Command). part ++ l) (sym nothing) ∙ sym is)
several_answered first (second ∷ others) cs h =
    let rest = join_with_byte 42 (second ∷ others) in
    let apart = turn_apart (first ∷ second ∷ others) cs h in
    ap (λ t. cond t (spelled_in_turn (map piece_among (split_by 42 (first ++ 42 ∷ rest)))) (wide_piece (first ++ 42 ∷ rest))) (λ i. has_asterisk first rest i && not (is_some (begins_with first rest h.4 i)))
    ∙ ap (λ (l : List (List ℕ)). spelled_in_turn (map piece_among l)) (parts_divided 42 first (second ∷ others) refl apart.0 apart.1)
    ∙ turn_answered (first ∷ second ∷ others) cs h

-- the parts of a text that has several
parts_written : (parts : List (List ℕ)) (text : List ℕ) (cs : List Command) → join_with_byte 42 parts ≡ text → has_several_pieces text ≡ true → AllByRecursion (HasNo 42) parts → spelled_in_turn (map piece_among parts) ≡ Ok cs → IsPieceIn Wide text cs
parts_written [] text cs is several none e = let no : false ≡ true = ap has_several_pieces is ∙ several in absurd cc
parts_written (first ∷ others) text cs is several none e = inr (first, others, sym is, turn_written (first ∷ others) cs none e)

pieces_written : (text : List ℕ) (cs : List Command) → wide_pieces text ≡ Ok cs → IsPieceIn Wide text cs
unfolding wide_pieces
pieces_written text cs e = by (has_several_pieces text) refl e
  where
    by : (t : Bool) → has_several_pieces text ≡ t → cond t (spelled_in_turn (map piece_among (split_by 42 text))) (wide_piece text) ≡ Ok cs → IsPieceIn Wide text cs
    by true several k = parts_written (split_by 42 text) text cs (join_with_byte-slice_split 42 text) several (parts_without text) k
    by false one k = inl (piece_written text cs one k)

-- ---- items

pub wide_reads_more : WideReadsMore
unfolding extended_meaning
wide_reads_more item cs e =
    let a = allowed (bytes_eq (last_byte item) (codes "*")) (piece (before_last item)) cs BadWord e in
    ap (λ t. cond t (wide_pieces (before_last item)) (Err BadWord)) a.0 ∙ alone_answered (before_last item) cs (inr (inr (answers_are_written (before_last item) cs a.1)))

pub items_written_in : ItemsAreWrittenIn
unfolding extended_meaning
items_written_in Strict = with_end_written piece IsPiece answers_are_written
items_written_in Wide = with_end_written wide_pieces (IsPieceIn Wide) pieces_written

pub items_answered_in : ItemsAreAnsweredIn
unfolding extended_meaning
items_answered_in Strict text cs h = with_end_answered piece text ∙ written_is_answered text cs h
items_answered_in Wide text cs (inl h) = with_end_answered wide_pieces text ∙ alone_answered text cs h
items_answered_in Wide text cs (inr (first, others, is, h)) = with_end_answered wide_pieces text ∙ ap wide_pieces is ∙ several_answered first others cs h
