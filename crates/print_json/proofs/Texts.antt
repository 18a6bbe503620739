-- The text of a value is that of its tokens.
use Rattle.print_json.proofs.Common.{◌≡◌, ◌++◌, ◌∙◌, ℕ, true, false, List, [], ◌∷◌, refl, ap, sym, append_assoc, append-nil, Json, null, boolean, number, string, array, object, Items, no_items, item, Members, no_members, member, print, print_from, quoted, json_tokens, items_tokens, members_tokens, items_text, members_text, more_items, more_members, value_text, json_text}
use Rattle.json.specs.Token.{Token}

-- a comma comes before a value that follows another
comma : (j : Json) (rest : List Token) → print_from true (json_tokens j ++ rest) ≡ 44 ∷ print_from false (json_tokens j ++ rest)
unfolding print_from
comma null rest = refl
comma (boolean b) rest = refl
comma (number s) rest = refl
comma (string s) rest = refl
comma (array js) rest = refl
comma (object ms) rest = refl

-- a value, and the tokens after it
both : (j : Json) (us rest : List Token) (b : List ℕ) → print_from false (json_tokens j ++ (us ++ rest)) ≡ value_text j ++ print_from true (us ++ rest) → print_from true (us ++ rest) ≡ b ++ print_from true rest
    → print_from false ((json_tokens j ++ us) ++ rest) ≡ (value_text j ++ b) ++ print_from true rest
both j us rest b first more =
    ap (print_from false) (append_assoc (json_tokens j) us rest)
    ∙ (first ∙ (ap (λ (t : List ℕ). value_text j ++ t) more ∙ sym (append_assoc (value_text j) b (print_from true rest))))

-- the same after a comma
comma_both : (j : Json) (us rest : List Token) (t : List ℕ) → print_from false ((json_tokens j ++ us) ++ rest) ≡ t → print_from true ((json_tokens j ++ us) ++ rest) ≡ 44 ∷ t
comma_both j us rest t is =
    ap (print_from true) (append_assoc (json_tokens j) us rest)
    ∙ (comma j (us ++ rest) ∙ ap (λ (u : List ℕ). 44 ∷ u) (ap (print_from false) (sym (append_assoc (json_tokens j) us rest)) ∙ is))

-- the same after a name
named : (k t b r : List ℕ) → t ≡ b ++ r → (quoted k ++ 58 ∷ []) ++ t ≡ (quoted k ++ 58 ∷ b) ++ r
named k t b r is = ap (λ (u : List ℕ). (quoted k ++ 58 ∷ []) ++ u) is ∙ simp append_assoc

mutual
  unfolding print_from

  -- the text of a value before other tokens
  value_then : (j : Json) (rest : List Token) → print_from false (json_tokens j ++ rest) ≡ value_text j ++ print_from true rest
  value_then null rest = refl
  value_then (boolean true) rest = refl
  value_then (boolean false) rest = refl
  value_then (number s) rest = refl
  value_then (string s) rest = refl
  value_then (array js) rest = ap (λ (t : List ℕ). 91 ∷ t) (items_then js rest)
  value_then (object ms) rest = ap (λ (t : List ℕ). 123 ∷ t) (members_then ms rest)

  items_then : (js : Items) (rest : List Token) → print_from false (items_tokens js ++ rest) ≡ items_text js ++ print_from true rest
  items_then no_items rest = refl
  items_then (item j js) rest = both j (items_tokens js) rest (more_items js) (value_then j (items_tokens js ++ rest)) (more_items_then js rest)

  more_items_then : (js : Items) (rest : List Token) → print_from true (items_tokens js ++ rest) ≡ more_items js ++ print_from true rest
  more_items_then no_items rest = refl
  more_items_then (item j js) rest =
      comma_both j (items_tokens js) rest _ (both j (items_tokens js) rest (more_items js) (value_then j (items_tokens js ++ rest)) (more_items_then js rest))

  members_then : (ms : Members) (rest : List Token) → print_from false (members_tokens ms ++ rest) ≡ members_text ms ++ print_from true rest
  members_then no_members rest = refl
  members_then (member k j ms) rest =
      named k _ (value_text j ++ more_members ms) (print_from true rest)
      (both j (members_tokens ms) rest (more_members ms) (value_then j (members_tokens ms ++ rest)) (more_members_then ms rest))

  more_members_then : (ms : Members) (rest : List Token) → print_from true (members_tokens ms ++ rest) ≡ more_members ms ++ print_from true rest
  more_members_then no_members rest = refl
  more_members_then (member k j ms) rest =
      ap (λ (t : List ℕ). 44 ∷ t)
      (named k _ (value_text j ++ more_members ms) (print_from true rest)
      (both j (members_tokens ms) rest (more_members ms) (value_then j (members_tokens ms ++ rest)) (more_members_then ms rest)))

-- the line of a value
pub line_text : (j : Json) → value_text j ++ 10 ∷ [] ≡ json_text j
unfolding print_from
line_text j =
    ap (λ (t : List ℕ). t ++ 10 ∷ []) (sym (ap print (sym (append-nil (json_tokens j))) ∙ (value_then j [] ∙ append-nil (value_text j))))
