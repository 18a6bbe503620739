-- A text reads in one way.
use Rattle.layer_image.proofs.Common.{◌≡◌, ◌⊎◌, inl, inr, ℕ, zero, suc, ◌≤◌, ◌+◌, List, [], ◌∷◌, ◌++◌, length, take, drop, Option, Some, None, Bool, true, false, cond, Result, Ok, Err, refl, sym, ap, subst, ◌∙◌, nat_lt, arith, append_assoc, append-nil, list_all, take-append-drop, length-take-le, IsLegal, ◌>>=◌, fault, with_place, Fault, Reason, bind_ok, bind_err, Profile, Command, OffsetByte, offset_bytes, bytes_of, first_offset, has_end, Entries, SpellsPrefixIn, spelled_in, ReadsIn, after_end, commands_by, is_blank, latest_action, may_follow, item_entries, read_by, shown_by, spells_reads, IsFirstFault, LayerImage, ReadsLayerIn, image_of, broken_rule_in, text_limit, item_limit, without_places, cases_lt, spelled_place}
use Rattle.grid_units.specs.declared.fault.Reason.TheVariants.{TooLong, AfterEnd, Truncated}
use Rattle.gerber_text.specs.Meaning.{meaning_in}
use Rattle.gerber_text.proofs.UniqueReading.{one_read, same_items}
use Rattle.layer_image.proofs.Reading.{kept_all}
use Rattle.layer_state.proofs.LegalLists.{first_fault_of_longer, no_fault}

abbrev fault_in : Fault → Option (ℕ × Fault) → Fault
fault_in d None = d
fault_in d (Some p) = p.1

-- a list has one first fault
one_first : (profile : Profile) (cs : Entries) (f g : Fault) → IsFirstFault profile cs f → IsFirstFault profile cs g → f ≡ g
one_first profile cs f g h k = ap (fault_in f) (sym h.1 ∙ k.1)

-- ---- the first items of a text spell the first commands

abbrev read_as : Entries → Result Entries Fault
read_as cs = Ok cs

abbrev refused_as : Fault → Result Entries Fault
refused_as f = Err f

ok_same : {x y : Entries} → read_as x ≡ read_as y → x ≡ y
ok_same e = cc

error_same : {f g : Fault} → refused_as f ≡ refused_as g → f ≡ g
error_same e = cc

differ : {f : Fault} {y : Entries} → refused_as f ≡ read_as y → ⊥
differ e = cc

at_ok : {A : Type 0} (place byte : ℕ) (r : Result A Reason) (x : A) → with_place place byte r ≡ Ok x → r ≡ Ok x
at_ok place byte (Ok y) x e = let same : y ≡ x = cc in ap (λ z. Ok z) same
at_ok place byte (Err reason) x e = absurd cc

within_ok : (t : Bool) (m : Result (List Command) Reason) (reason : Reason) (place byte : ℕ) (before cs : Entries) → cond t (Err reason) (m >>= λ commands. Ok (before ++ item_entries place byte commands)) ≡ Ok cs → (ds : Entries) × (cs ≡ before ++ ds)
within_ok true m reason place byte before cs e = absurd cc
within_ok false m reason place byte before cs e =
    let some = bind_ok m (λ commands. Ok (before ++ item_entries place byte commands)) cs e in
    let same : before ++ item_entries place byte some.0 ≡ cs = cc in
    (item_entries place byte some.0, sym same)

spelled_ok : (profile : Profile) (place byte : ℕ) (bytes : List ℕ) (before cs : Entries) → spelled_in profile place byte bytes before ≡ Ok cs → (ds : Entries) × (cs ≡ before ++ ds)
unfolding spelled_in
spelled_ok profile place byte bytes before cs h = within_ok (nat_lt item_limit (length bytes)) (meaning_in profile (latest_action before) bytes) TooLong place byte before cs (at_ok place byte _ cs h)

-- later items add their commands after those of earlier ones
commands_grow : (profile : Profile) (place : ℕ) (items : List (List OffsetByte)) (before cs : Entries) → commands_by profile place items before ≡ Ok cs → (ds : Entries) × (cs ≡ before ++ ds)
commands_grow profile place [] before cs h = let same : before ≡ cs = cc in ([], sym same ∙ sym (append-nil before))
commands_grow profile place (item ∷ items) before cs h =
    let some = bind_ok (spelled_in profile place (first_offset item) (bytes_of item) before) (commands_by profile (suc place) items) cs h in
    let one = spelled_ok profile place (first_offset item) (bytes_of item) before some.0 some.1 in
    let rest = commands_grow profile (suc place) items some.0 cs some.2 in
    (one.0 ++ rest.0, rest.1 ∙ (ap (λ (l : Entries). l ++ rest.0) one.1 ∙ append_assoc before one.0 rest.0))

-- what the first items spell comes first in what all spell
first_items : (profile : Profile) (place : ℕ) (xs ys : List (List OffsetByte)) (before cs es : Entries) → commands_by profile place (xs ++ ys) before ≡ Ok cs → commands_by profile place xs before ≡ Ok es → (ds : Entries) × (cs ≡ es ++ ds)
first_items profile place [] ys before cs es h k =
    let same : before ≡ es = cc in
    let more = commands_grow profile place ys before cs h in
    (more.0, more.1 ∙ ap (λ (l : Entries). l ++ more.0) same)
first_items profile place (x ∷ xs) ys before cs es h k =
    let r = spelled_in profile place (first_offset x) (bytes_of x) before in
    let a = bind_ok r (commands_by profile (suc place) (xs ++ ys)) cs h in
    let b = bind_ok r (commands_by profile (suc place) xs) es k in
    let same : b.0 ≡ a.0 = ok_same (sym b.1 ∙ a.1) in
    first_items profile (suc place) xs ys a.0 cs es a.2 (subst (λ (m : Entries). commands_by profile (suc place) xs m ≡ Ok es) same b.2)

-- a fault of items stands at one of them
later : (profile : Profile) (place : ℕ) (items : List (List OffsetByte)) (before : Entries) (f : Fault) → commands_by profile place items before ≡ Err f → place ≤ f.place
later profile place [] before f h = absurd cc
later profile place (item ∷ items) before f h = elim (bind_err (spelled_in profile place (first_offset item) (bytes_of item) before) (commands_by profile (suc place) items) f h) [
  | inl here ↦ omega (arith, spelled_place profile place (first_offset item) (bytes_of item) before f here)
  | inr there ↦ omega (arith, later profile (suc place) items there.0 f there.2)
]

-- a fault comes after the first items, where these have none
fault_after_first : (profile : Profile) (place : ℕ) (xs ys : List (List OffsetByte)) (before es : Entries) (f : Fault) → commands_by profile place (xs ++ ys) before ≡ Err f → commands_by profile place xs before ≡ Ok es → place + length xs ≤ f.place
fault_after_first profile place [] ys before es f h k = omega (arith, later profile place ys before f h)
fault_after_first profile place (x ∷ xs) ys before es f h k =
    let r = spelled_in profile place (first_offset x) (bytes_of x) before in
    let b = bind_ok r (commands_by profile (suc place) xs) es k in
    elim (bind_err r (commands_by profile (suc place) (xs ++ ys)) f h) [
      | inl here ↦ absurd (differ (sym here ∙ b.1))
      | inr there ↦
          let same : b.0 ≡ there.0 = ok_same (sym b.1 ∙ there.1) in
          omega (arith, fault_after_first profile (suc place) xs ys there.0 es f there.2 (subst (λ (m : Entries). commands_by profile (suc place) xs m ≡ Ok es) same b.2))
    ]

-- ---- the place of a fault of reading

stray_place : (t : Bool) (place byte : ℕ) (r : Result Entries Fault) (f : Fault) → (r ≡ Err f → f.place ≡ place) → cond t r (Err (fault place byte AfterEnd)) ≡ Err f → f.place ≡ place
stray_place true place byte r f k e = k e
stray_place false place byte r f k e = let same : fault place byte AfterEnd ≡ f = cc in sym (ap (λ (g : Fault). g.place) same)

after_end_place : (place : ℕ) (cs : Entries) (rest : List OffsetByte) (f : Fault) → after_end place cs rest ≡ Err f → f.place ≡ place
after_end_place place cs [] f e = absurd cc
after_end_place place cs (m ∷ ms) f e = stray_place (may_follow m.1) place m.0 (after_end place cs ms) f (after_end_place place cs ms f) e

pub rest_place : (t u : Bool) (place byte : ℕ) (cs : Entries) (rest : List OffsetByte) (f : Fault) → cond t (after_end place cs rest) (cond u (Err (fault place byte TooLong)) (Ok cs)) ≡ Err f → f.place ≡ place
rest_place true u place byte cs rest f e = after_end_place place cs rest f e
rest_place false true place byte cs rest f e = let same : fault place byte TooLong ≡ f = cc in sym (ap (λ (g : Fault). g.place) same)
rest_place false false place byte cs rest f e = absurd cc

pub ended_place : (t u : Bool) (place byte other : ℕ) (cs : Entries) (f : Fault) → cond t (Err (fault place byte TooLong)) (cond u (Ok cs) (Err (fault place other Truncated))) ≡ Err f → f.place ≡ place
ended_place true u place byte other cs f e = let same : fault place byte TooLong ≡ f = cc in sym (ap (λ (g : Fault). g.place) same)
ended_place false true place byte other cs f e = absurd cc
ended_place false false place byte other cs f e = let same : fault place other Truncated ≡ f = cc in sym (ap (λ (g : Fault). g.place) same)

shown_place : (profile : Profile) (items : List (List OffsetByte)) (rest : List OffsetByte) (f : Fault) → shown_by profile items rest ≡ Err f → (commands_by profile 1 items [] ≡ Err f) ⊎ (f.place ≡ suc (length items))
shown_place profile items rest f h = elim (bind_err (commands_by profile 1 items []) _ f h) [
  | inl e ↦ inl e
  | inr there ↦ inr (rest_place (has_end items) (nat_lt item_limit (length rest)) (suc (length items)) (first_offset rest) there.0 rest f there.2)
]

-- a fault of reading is that of an item, or comes after all of them
read_place : (profile : Profile) (len : ℕ) (items : List (List OffsetByte)) (rest : List OffsetByte) (f : Fault) → read_by profile len items rest ≡ Err f → (commands_by profile 1 items [] ≡ Err f) ⊎ (f.place ≡ suc (length items))
read_place profile len items rest f h = elim (bind_err (shown_by profile items rest) _ f h) [
  | inl e ↦ shown_place profile items rest f e
  | inr there ↦ inr (ended_place (nat_lt text_limit len) (has_end items) (suc (length items)) text_limit (cond (list_all is_blank (bytes_of rest)) len (first_offset rest)) there.0 f there.2)
]

-- ---- a text reads in one way

module _ (profile : Profile) (text : List ℕ) where
  parts_of : {n : ℕ} {cs : Entries} → SpellsPrefixIn profile text n cs → List (List OffsetByte)
  parts_of k = k.items

  -- of two lists of first commands the shorter one comes first in the other
  among : (n m : ℕ) (cs ds : Entries) → SpellsPrefixIn profile text n cs → SpellsPrefixIn profile text m ds → n ≤ m → (es : Entries) × (ds ≡ cs ++ es)
  among n m cs ds h k le =
      let same = (same_items (offset_bytes (take text_limit text)) h.items k.items h.rest k.rest h.splits k.splits).0 in
      let whole : take n k.items ++ drop n (take m k.items) ≡ take m k.items = fewer n m k.items le in
      let shorter : commands_by profile 1 (take n k.items) [] ≡ Ok cs = ap (λ (items : List (List OffsetByte)). commands_by profile 1 (take n items) []) (sym same) ∙ h.spelled in
      first_items profile 1 (take n k.items) (drop n (take m k.items)) [] ds cs (ap (λ (items : List (List OffsetByte)). commands_by profile 1 items []) whole ∙ k.spelled) shorter
    where
      fewer : (i j : ℕ) (l : List (List OffsetByte)) → i ≤ j → take i l ++ drop i (take j l) ≡ take j l
      fewer zero j l h = refl
      fewer (suc i) zero l h = absurd (omega arith)
      fewer (suc i) (suc j) [] h = refl
      fewer (suc i) (suc j) (x ∷ l) h = ap (λ (r : List (List OffsetByte)). x ∷ r) (fewer i j l (omega arith))

  -- the fault of reading comes after the items that are kept
  kept_before : (n : ℕ) (cs : Entries) (f : Fault) → SpellsPrefixIn profile text n cs → ReadsIn profile text (Err f) → suc n ≤ f.place
  kept_before n cs f h r =
      let same = (same_items (offset_bytes (take text_limit text)) h.items r.items h.rest r.rest h.splits r.splits).0 in
      let within : n ≤ length r.items = subst (λ (items : List (List OffsetByte)). n ≤ length items) same h.within in
      let shorter : commands_by profile 1 (take n r.items) [] ≡ Ok cs = ap (λ (items : List (List OffsetByte)). commands_by profile 1 (take n items) []) (sym same) ∙ h.spelled in
      elim (read_place profile (length text) r.items r.rest f (sym r.answer_is)) [
        | inl e ↦
            let all : commands_by profile 1 (take n r.items ++ drop n r.items) [] ≡ Err f = ap (λ (items : List (List OffsetByte)). commands_by profile 1 items []) (take-append-drop n r.items) ∙ e in
            omega (arith, fault_after_first profile 1 (take n r.items) (drop n r.items) [] cs f all shorter, length-take-le n r.items within)
        | inr e ↦ omega (arith, e, within)
      ]

  -- first commands that are legal have no fault among fewer of them
  no_early_fault : (n m : ℕ) (cs ds : Entries) (f : Fault) → SpellsPrefixIn profile text n cs → SpellsPrefixIn profile text m ds → n ≤ m → IsLegal (broken_rule_in profile) (without_places ds) → IsFirstFault profile cs f → ⊥
  no_early_fault n m cs ds f h k le legal first =
      let more = among n m cs ds h k le in
      no_fault profile ds f legal (subst (λ (es : Entries). IsFirstFault profile es f) (sym more.1) (first_fault_of_longer profile cs more.0 f first))

  same_rule : (n m : ℕ) (cs ds : Entries) (f g : Fault) → SpellsPrefixIn profile text n cs → SpellsPrefixIn profile text m ds → n ≤ m → IsFirstFault profile cs f → IsFirstFault profile ds g → f ≡ g
  same_rule n m cs ds f g h k le first second =
      let more = among n m cs ds h k le in
      one_first profile ds f g (subst (λ (es : Entries). IsFirstFault profile es f) (sym more.1) (first_fault_of_longer profile cs more.0 f first)) second

  -- reading gives the commands of a layer's text
  computed : {image : LayerImage} → ReadsLayerIn profile text (Ok image) → ReadsIn profile text (Ok image.commands)
  computed {image} h = spells_reads profile text image.commands h.0.spells

  not_both : (image : LayerImage) (f : Fault) → ReadsLayerIn profile text (Ok image) → ReadsLayerIn profile text (Err f) → ⊥
  not_both image f h (inl k) =
      let all = kept_all profile text image.commands (computed h) in
      let same = (same_items (offset_bytes (take text_limit text)) k.2.items all.1.items k.2.rest all.1.rest k.2.splits all.1.splits).0 in
      let within : k.0 ≤ length all.1.items = subst (λ (items : List (List OffsetByte)). k.0 ≤ length items) same k.2.within in
      no_early_fault k.0 all.0 k.1 image.commands f k.2 all.1 (omega (arith, within, all.2)) h.0.legal k.3
  not_both image f h (inr k) = differ (one_read profile text (Err f) (Ok image.commands) k.1 (computed h))

  by_two_rules : (f g : Fault) → (n m : ℕ) (cs ds : Entries) → SpellsPrefixIn profile text n cs → SpellsPrefixIn profile text m ds → IsFirstFault profile cs f → IsFirstFault profile ds g → f ≡ g
  by_two_rules f g n m cs ds h k first second = elim (cases_lt m n) [
    | inl less ↦ sym (same_rule m n ds cs g f k h (omega (arith, less)) second first)
    | inr more ↦ same_rule n m cs ds f g h k (omega (arith, more)) first second
  ]

  -- the fault of a rule comes before that of reading
  rule_or_reading : (f g : Fault) (n m : ℕ) (cs ds : Entries) → SpellsPrefixIn profile text n cs → IsFirstFault profile cs f → ReadsIn profile text (Err g) → g.place ≡ suc m → SpellsPrefixIn profile text m ds → IsLegal (broken_rule_in profile) (without_places ds) → ⊥
  rule_or_reading f g n m cs ds h first r place k legal = no_early_fault n m cs ds f h k (omega (arith, kept_before n cs g h r, place)) legal first

  same_fault : (f g : Fault) → ReadsLayerIn profile text (Err f) → ReadsLayerIn profile text (Err g) → f ≡ g
  same_fault f g (inl h) (inl k) = by_two_rules f g h.0 k.0 h.1 k.1 h.2 k.2 h.3 k.3
  same_fault f g (inl h) (inr k) = absurd (rule_or_reading f g h.0 k.2.0 h.1 k.0 h.2 h.3 k.1 k.2.1 k.2.2 k.3)
  same_fault f g (inr h) (inl k) = absurd (rule_or_reading g f k.0 h.2.0 k.1 h.0 k.2 k.3 h.1 h.2.1 h.2.2 h.3)
  same_fault f g (inr h) (inr k) = error_same (one_read profile text (Err f) (Err g) h.1 k.1)

  pub one_layer : (a b : Result LayerImage Fault) → ReadsLayerIn profile text a → ReadsLayerIn profile text b → a ≡ b
  one_layer (Ok a) (Ok b) h k =
      let same = ok_same (one_read profile text (Ok a.commands) (Ok b.commands) (computed h) (computed k)) in
      ap Ok (h.1 ∙ (ap image_of same ∙ sym k.1))
  one_layer (Ok a) (Err g) h k = absurd (not_both a g h k)
  one_layer (Err f) (Ok b) h k = absurd (not_both b f k h)
  one_layer (Err f) (Err g) h k = ap Err (same_fault f g h k)
