-- Items and their grammar, both ways.
use Rattle.gerber_text.proofs.Common.{◌≡◌, ◌≢◌, inl, inr, ℕ, Bool, true, false, cond, ◌||◌, eqb, Option, Some, None, List, [], ◌∷◌, ◌++◌, Ok, Err, Contains, refl, sym, ap, subst, ◌∙◌, arith, append_assoc, codes, bytes_eq, list_any, AllByRecursion, All-contains, All-from_recursion, list_any-append, eqb-true, ne_eqb, BadWord, Profile, Strict, Wide, Action, Plot, Move, Flash, Command, Finish, Meaning, word, extended_in, IsPieceIn, HasNo, fixed_pieces, SpellsOne, IsPiece, fixed_words, modes, IsWord, repeated_in, bytes_are, end_byte, IsUnfinished, IsItem, is_end_item, without_end, meaning_in, IsItemIn, IsEnd, is_finish, or_is_false}
use Rattle.gerber_commands.proofs.WrittenWords.{word_written}
use Rattle.gerber_commands.proofs.Exact.{word_exact}
use Rattle.gerber_commands.proofs.ProfileLemmas.{items_written_in, items_answered_in}
use Rattle.gerber_commands.specs.Profiles.{IsWidePiece, SpellInTurn}
use Rattle.gerber_text.proofs.ItemLemmas.{without_end_push, word_means, word_is_item, extended_means, piece_is_item}

-- ---- bytes that are none of one kind

has_none : (n : ℕ) (bytes : List ℕ) → AllByRecursion (λ b. b ≢ n) bytes → HasNo n bytes
has_none n [] h = refl
has_none n (b ∷ bytes) h = ap (λ t. t || list_any (λ c. eqb c n) bytes) (ne_eqb b n h.0) ∙ has_none n bytes h.1

-- ---- what is read is so written

piece_written : (profile : Profile) (latest : Option Action) (b : ℕ) (bs : List ℕ) (cs : List Command) → b ≡ 37 → AllByRecursion (λ c. c ≢ 37) bs → extended_in profile bs ≡ Ok cs → IsItemIn profile latest ((b ∷ bs) ++ 37 ∷ []) cs
piece_written profile latest b bs cs first none e =
    let k = items_written_in profile bs cs e in
    let whole : (b ∷ bs) ++ 37 ∷ [] ≡ 37 ∷ (k.0 ++ 42 ∷ 37 ∷ []) = (λ i. first i ∷ (k.1 i ++ 37 ∷ [])) ∙ ap (λ (l : List ℕ). 37 ∷ l) (append_assoc k.0 (42 ∷ []) (37 ∷ [])) in
    let apart = or_is_false (list_any (λ c. eqb c 37) k.0) false (sym (list_any-append (λ c. eqb c 37) k.0 (42 ∷ [])) ∙ ap (list_any (λ c. eqb c 37)) (sym k.1) ∙ has_none 37 bs none) in
    inr (k.0, whole, apart.0, k.2)

begun_written : (profile : Profile) (latest : Option Action) (prefix : List ℕ) (cs : List Command) → IsUnfinished prefix → meaning_in profile latest (prefix ++ end_byte prefix ∷ []) ≡ Ok cs → IsItemIn profile latest (prefix ++ end_byte prefix ∷ []) cs
unfolding meaning_in
begun_written profile latest [] cs u e = inl ([], refl, refl, word_written (repeated_in profile latest) [] cs e)
begun_written profile latest (b ∷ bs) cs u e = by (eqb b 37) refl u e
  where
    by : (t : Bool) → eqb b 37 ≡ t → AllByRecursion (λ c. c ≢ cond t 37 42) (cond t bs (b ∷ bs)) → cond t (extended_in profile (without_end (bs ++ cond t 37 42 ∷ []))) (word (repeated_in profile latest) (without_end ((b ∷ bs) ++ cond t 37 42 ∷ []))) ≡ Ok cs → IsItemIn profile latest ((b ∷ bs) ++ cond t 37 42 ∷ []) cs
    by true first none is = piece_written profile latest b bs cs (eqb-true b 37 first) none (ap (extended_in profile) (sym (without_end_push bs 37)) ∙ is)
    by false first none is = inl (b ∷ bs, refl, has_none 42 (b ∷ bs) none, word_written (repeated_in profile latest) (b ∷ bs) cs (ap (word (repeated_in profile latest)) (sym (without_end_push (b ∷ bs) 42)) ∙ is))

pub item_written : (profile : Profile) (latest : Option Action) (item : List ℕ) (cs : List Command) → IsItem item → meaning_in profile latest item ≡ Ok cs → IsItemIn profile latest item cs
item_written profile latest item cs i e = subst (λ (x : List ℕ). IsItemIn profile latest x cs) (sym i.whole) (begun_written profile latest i.prefix cs i.unfinished (ap (meaning_in profile latest) (sym i.whole) ∙ e))

-- ---- what is so written is read

allowed : (t : Bool) (m : Meaning) (cs : List Command) → cond t (Err BadWord) m ≡ Ok cs → t ≡ false
allowed true m cs e = absurd cc
allowed false m cs e = refl

word_has_no_percent : (repeated : Option Action) (text : List ℕ) (cs : List Command) → word repeated text ≡ Ok cs → HasNo 37 text
unfolding word
word_has_no_percent repeated text cs e = allowed (list_any (λ b. eqb b 37) text) _ cs e

-- an item, and what it means
abbrev pub Means : Profile → Option Action → List ℕ → List Command → Type 0
Means profile latest item cs = IsItem item × (meaning_in profile latest item ≡ Ok cs)

pub item_means : (profile : Profile) (latest : Option Action) (item : List ℕ) (cs : List Command) → IsItemIn profile latest item cs → Means profile latest item cs
item_means profile latest item cs (inl h) =
    let repeated = repeated_in profile latest in
    let reads = word_exact repeated h.0 cs h.3 in
    let no = word_has_no_percent repeated h.0 cs reads in
    subst (λ (x : List ℕ). Means profile latest x cs) (sym h.1) (word_is_item h.0 no h.2, word_means profile latest h.0 no ∙ reads)
item_means profile latest item cs (inr h) =
    subst (λ (x : List ℕ). Means profile latest x cs) (sym h.1) (piece_is_item h.0 h.2, extended_means profile latest h.0 ∙ items_answered_in profile h.0 cs h.3)

-- ---- what is so written in the strict profile is so written in each

piece_anywhere : (profile : Profile) (text : List ℕ) (cs : List Command) → IsPiece text cs → IsPieceIn profile text cs
piece_anywhere Strict text cs h = h
piece_anywhere Wide text cs h = inl (inr (inr h))

-- what coordinates alone repeat in the strict profile they repeat in each
repeats_anywhere : (profile : Profile) (latest : Option Action) (what : Action) → repeated_in Strict latest ≡ Some what → repeated_in profile latest ≡ Some what
repeats_anywhere Strict latest what e = e
repeats_anywhere Wide None what e = absurd cc
repeats_anywhere Wide (Some Plot) what e = e
repeats_anywhere Wide (Some Move) what e = absurd cc
repeats_anywhere Wide (Some Flash) what e = absurd cc

pub word_anywhere : (profile : Profile) (latest : Option Action) (w : List ℕ) (cs : List Command) → IsWord (repeated_in Strict latest) w cs → IsWord (repeated_in profile latest) w cs
word_anywhere profile latest w cs (inr (inr (inr (inr o)))) = inr (inr (inr (inr (record { mode = o.mode; x = o.x; y = o.y; i = o.i; j = o.j; d = o.d; what = o.what; at = o.at; offset = o.offset; mode_is = o.mode_is; written = o.written; some = o.some; names = o.names; does = elim o.does [ inl coded ↦ inl coded | inr k ↦ inr (k.0, repeats_anywhere profile latest o.what k.1) ]; plots = o.plots; is = o.is }))))
word_anywhere profile latest w cs (inr (inr (inr (inl h)))) = inr (inr (inr (inl h)))
word_anywhere profile latest w cs (inr (inr (inl h))) = inr (inr (inl h))
word_anywhere profile latest w cs (inr (inl h)) = inr (inl h)
word_anywhere profile latest w cs (inl h) = inl h

pub item_anywhere : (profile : Profile) (latest : Option Action) (item : List ℕ) (cs : List Command) → IsItemIn Strict latest item cs → IsItemIn profile latest item cs
item_anywhere profile latest item cs (inl (w, is, star, h)) = inl (w, is, star, word_anywhere profile latest w cs h)
item_anywhere profile latest item cs (inr (text, is, percent, h)) = inr (text, is, percent, piece_anywhere profile text cs h)

-- ---- the end of the text

pub is_end : (item : List ℕ) → is_end_item item ≡ true → IsEnd item
is_end item e = by (bytes_eq item (codes "M02*")) (bytes_eq item (codes "M2*")) refl refl e
  where
    by : (t u : Bool) → bytes_eq item (codes "M02*") ≡ t → bytes_eq item (codes "M2*") ≡ u → (t || u) ≡ true → IsEnd item
    by true u a b h = inl (bytes_are item (codes "M02*") a)
    by false true a b h = inr (bytes_are item (codes "M2*") b)
    by false false a b h = absurd cc

-- it is an item, which means Finish
pub end_means : (profile : Profile) (latest : Option Action) (item : List ℕ) → IsEnd item → Means profile latest item (Finish ∷ [])
end_means profile latest item (inl e) = item_means profile latest item (Finish ∷ []) (inl (codes "M02", e, refl, inl (8, omega arith, refl)))
end_means profile latest item (inr e) = item_means profile latest item (Finish ∷ []) (inl (codes "M2", e, refl, inl (9, omega arith, refl)))

-- ---- where Finish stands

pub other : (c : Command) → c ≢ Finish → is_finish c ≡ false
other Finish h = absurd (h refl)
other c h = refl

no_finish : (text : List ℕ) (c : Command) → SpellsOne text c → is_finish c ≡ false
no_finish text Finish h = absurd h
no_finish text c h = refl

words_end : AllByRecursion (λ f. list_any is_finish f.1 ≡ is_end_item (f.0 ++ codes "*")) fixed_words
words_end = (refl, (refl, (refl, (refl, (refl, (refl, (refl, (refl, (refl, (refl, tt))))))))))

modes_go_on : AllByRecursion (λ f. list_any is_finish f.1 ≡ false) (([], []) ∷ modes)
modes_go_on = (refl, (refl, (refl, (refl, (refl, (refl, (refl, tt)))))))

pieces_go_on : AllByRecursion (λ f. list_any is_finish f.1 ≡ false) fixed_pieces
pieces_go_on = (refl, (refl, (refl, (refl, (refl, (refl, (refl, (refl, (refl, (refl, tt))))))))))

form_is : (P : List ℕ × List Command → Type 0) (forms : List (List ℕ × List Command)) (form : List ℕ × List Command) → AllByRecursion P forms → Contains forms form → P form
form_is P forms form h at = All-contains P forms form (All-from_recursion P forms h) at

word_goes_on : (repeated : Option Action) (w : List ℕ) (cs : List Command) → IsWord repeated w cs → is_end_item (w ++ codes "*") ≡ false → list_any is_finish cs ≡ false
word_goes_on repeated w cs (inl at) e = form_is (λ f. list_any is_finish f.1 ≡ is_end_item (f.0 ++ codes "*")) fixed_words (w, cs) words_end at ∙ e
word_goes_on repeated w cs (inr (inl at)) e = form_is (λ f. list_any is_finish f.1 ≡ false) modes (w, cs) modes_go_on.1 at
word_goes_on repeated w cs (inr (inr (inl (text, is, spelled, positive, percent)))) e = ap (list_any is_finish) spelled
word_goes_on repeated w cs (inr (inr (inr (inl (digits, n, is, read, ten, spelled))))) e = ap (list_any is_finish) spelled
word_goes_on repeated w cs (inr (inr (inr (inr o)))) e = ap (list_any is_finish) o.is ∙ (list_any-append is_finish o.mode.1 _ ∙ ap (λ t. t || false) (form_is (λ f. list_any is_finish f.1 ≡ false) (([], []) ∷ modes) o.mode modes_go_on o.mode_is))

piece_goes_on : (text : List ℕ) (cs : List Command) → IsPiece text cs → list_any is_finish cs ≡ false
piece_goes_on text cs (inl (name, pieces, named, star, is, spelled)) = ap (list_any is_finish) spelled
piece_goes_on text cs (inr (star, inl at)) = form_is (λ f. list_any is_finish f.1 ≡ false) fixed_pieces (text, cs) pieces_go_on at
piece_goes_on text cs (inr (star, inr (inl (c, one, spelled)))) = ap (list_any is_finish) spelled ∙ ap (λ t. t || false) (no_finish text c one)
piece_goes_on text cs (inr (star, inr (inr (idle, none)))) = ap (list_any is_finish) none

wide_piece_goes_on : (text : List ℕ) (cs : List Command) → IsWidePiece text cs → list_any is_finish cs ≡ false
wide_piece_goes_on text cs (inl (is, spelled)) = ap (list_any is_finish) spelled
wide_piece_goes_on text cs (inr (inl (is, spelled))) = ap (list_any is_finish) spelled
wide_piece_goes_on text cs (inr (inr written)) = piece_goes_on text cs written

pieces_go_on_in_turn : (parts : List (List ℕ)) (cs : List Command) → SpellInTurn parts cs → list_any is_finish cs ≡ false
pieces_go_on_in_turn [] cs is = ap (list_any is_finish) is
pieces_go_on_in_turn (part ∷ parts) cs (first, others, is, star, no_macro, h, more) =
    ap (list_any is_finish) is ∙ list_any-append is_finish first others ∙ (λ i. wide_piece_goes_on part first h i || pieces_go_on_in_turn parts others more i)

item_goes_on : (profile : Profile) (latest : Option Action) (item : List ℕ) (cs : List Command) → IsItemIn profile latest item cs → is_end_item item ≡ false → list_any is_finish cs ≡ false
item_goes_on profile latest item cs (inl (w, is, star, written)) e = word_goes_on (repeated_in profile latest) w cs written (ap is_end_item (sym is) ∙ e)
item_goes_on Strict latest item cs (inr (text, is, percent, written)) e = piece_goes_on text cs written
item_goes_on Wide latest item cs (inr (text, is, percent, inl written)) e = wide_piece_goes_on text cs written
item_goes_on Wide latest item cs (inr (text, is, percent, inr (first, others, joined, h))) e = pieces_go_on_in_turn (first ∷ others) cs h

-- an item is written for Finish just where it ends the text
pub item_ends : (profile : Profile) (latest : Option Action) (item : List ℕ) (cs : List Command) → IsItemIn profile latest item cs → list_any is_finish cs ≡ is_end_item item
item_ends profile latest item cs h = by (is_end_item item) refl
  where
    same : (xs ys : List Command) → ◌≡◌ {A = Meaning} (Ok xs) (Ok ys) → xs ≡ ys
    same xs ys e = cc

    by : (t : Bool) → is_end_item item ≡ t → list_any is_finish cs ≡ t
    by true e = ap (list_any is_finish) (same cs (Finish ∷ []) (sym (item_means profile latest item cs h).1 ∙ (end_means profile latest item (is_end item e)).1))
    by false e = item_goes_on profile latest item cs h e
