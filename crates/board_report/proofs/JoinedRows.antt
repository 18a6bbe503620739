-- The lines of rows, joined.
use Rattle.board_report.proofs.Common.{◌≡◌, ℕ, ◌+◌, ◌-◌, ◌<◌, ◌≤◌, ◌⊎◌, inl, inr, List, [], ◌++◌, length, get_or, refl, sym, subst, ap, ap₂, ◌∙◌, arith, Profile, AllPairs, length-append, get_or_append_left, get_or-append_right, Contains-append_left, Contains-append_right, cases_lt, RingLine, BoardView, AreRowLines, IsBefore, IsRowLine, RowKey, places_of}

module _ {X : Type 0} (xs ys : List X) where
  first_of : (i : ℕ) (d : X) → i < length xs → get_or (xs ++ ys) i d ≡ get_or xs i d
  first_of i d l = get_or_append_left xs ys d i l

  last_of : (i : ℕ) (d : X) → length xs ≤ i → get_or (xs ++ ys) i d ≡ get_or ys (i - length xs) d
  last_of i d l = get_or-append_right xs ys (length xs) i d refl l

  within : (i : ℕ) → i < length (xs ++ ys) → length xs ≤ i → i - length xs < length ys
  within i l m = let e = length-append xs ys in omega (arith, e)

  pub pairs_join : (R : X → X → Type 0) → AllPairs R xs → AllPairs R ys → ((i j : ℕ) (d : X) → i < length xs → j < length ys → R (get_or xs i d) (get_or ys j d)) → AllPairs R (xs ++ ys)
  pairs_join R first last cross i j d less inside = elim (cases_lt j (length xs)) [
    | inl early ↦ (
        let low : i < length xs = omega (arith, less, early) in
        subst (λ (x : X). R x (get_or (xs ++ ys) j d)) (sym (first_of i d low)) (subst (R (get_or xs i d)) (sym (first_of j d early)) (first i j d less early)))
    | inr late ↦ (let m = within j inside late in elim (cases_lt i (length xs)) [
      | inl low ↦ subst (λ (x : X). R x (get_or (xs ++ ys) j d)) (sym (first_of i d low)) (subst (R (get_or xs i d)) (sym (last_of j d late)) (cross i (j - length xs) d low m))
      | inr high ↦ (
          let less_too : i - length xs < j - length xs = omega (arith, less, high) in
          subst (λ (x : X). R x (get_or (xs ++ ys) j d)) (sym (last_of i d high)) (subst (R (get_or ys (i - length xs) d)) (sym (last_of j d late)) (last (i - length xs) (j - length xs) d less_too m)))
    ])
  ]

module _ (profile : Profile) (board : BoardView) where
  -- no lines for rows without holes
  pub none : (among : RowKey → Type 0) → ((key : RowKey) → among key → 0 < length (places_of board key) → ⊥) → AreRowLines profile board among []
  none among empty = record {
    keys = [];
    size = refl;
    line = λ i k d l. absurd (omega (arith, l));
    there = λ i k l. absurd (omega (arith, l));
    sorted = λ i j d l m. absurd (omega (arith, m));
    all = λ key a h. absurd (empty key a h);
  }

  -- the same lines for rows that are described in another way
  pub renamed : (p q : RowKey → Type 0) (lines : List RingLine) → ((key : RowKey) → p key → q key) → ((key : RowKey) → q key → 0 < length (places_of board key) → p key) → AreRowLines profile board p lines → AreRowLines profile board q lines
  renamed p q lines to back h = record {
    keys = h.keys;
    size = h.size;
    line = h.line;
    there = λ i k l. (let t = h.there i k l in (to (get_or h.keys i k) t.0, t.1));
    sorted = h.sorted;
    all = λ key a m. h.all key (back key a m) m;
  }

  -- the lines of some rows, and those of later rows
  pub join : (p q r : RowKey → Type 0) (xs ys : List RingLine) → ((a b : RowKey) → p a → q b → IsBefore a b) → ((key : RowKey) → p key → r key) → ((key : RowKey) → q key → r key) → ((key : RowKey) → r key → p key ⊎ q key)
      → AreRowLines profile board p xs → AreRowLines profile board q ys → AreRowLines profile board r (xs ++ ys)
  join p q r xs ys before first last split x y =
      let both = length-append x.keys y.keys in record {
        keys = x.keys ++ y.keys;
        size = both ∙ (ap₂ (λ (a b : ℕ). a + b) x.size y.size ∙ sym (length-append xs ys));
        line = λ i k d l. elim (cases_lt i (length x.keys)) [
          | inl low ↦ (
              let there : i < length xs = omega (arith, low, x.size) in
              subst (λ (key : RowKey). IsRowLine profile board key (get_or (xs ++ ys) i d)) (sym (first_of x.keys y.keys i k low)) (subst (IsRowLine profile board (get_or x.keys i k)) (sym (first_of xs ys i d there)) (x.line i k d low)))
          | inr high ↦ (
              let far : length xs ≤ i = omega (arith, high, x.size) in
              let at : i - length x.keys ≡ i - length xs = ap (λ (n : ℕ). i - n) x.size in
              let inside : i - length x.keys < length y.keys = within x.keys y.keys i l high in
              subst (λ (key : RowKey). IsRowLine profile board key (get_or (xs ++ ys) i d)) (sym (last_of x.keys y.keys i k high))
              (subst (IsRowLine profile board (get_or y.keys (i - length x.keys) k)) (ap (λ (n : ℕ). get_or ys n d) at ∙ sym (last_of xs ys i d far)) (y.line (i - length x.keys) k d inside)))
        ];
        there = λ i k l. elim (cases_lt i (length x.keys)) [
          | inl low ↦ (let t = x.there i k low in subst (λ (key : RowKey). r key × (0 < length (places_of board key))) (sym (first_of x.keys y.keys i k low)) (first (get_or x.keys i k) t.0, t.1))
          | inr high ↦ (
              let t = y.there (i - length x.keys) k (within x.keys y.keys i l high) in
              subst (λ (key : RowKey). r key × (0 < length (places_of board key))) (sym (last_of x.keys y.keys i k high)) (last (get_or y.keys (i - length x.keys) k) t.0, t.1))
        ];
        sorted = pairs_join x.keys y.keys IsBefore x.sorted y.sorted (λ i j d l m. before (get_or x.keys i d) (get_or y.keys j d) (x.there i d l).0 (y.there j d m).0);
        all = λ key a h. elim (split key a) [
          | inl one ↦ Contains-append_left x.keys y.keys key (x.all key one h)
          | inr one ↦ Contains-append_right x.keys y.keys key (y.all key one h)
        ];
      }
