-- Each text has an answer.
use Rattle.layer_image.proofs.Common.{◌≡◌, ◌⊎◌, inl, inr, ℕ, suc, ◌+◌, ◌≤◌, List, [], ◌∷◌, ◌++◌, length, take, Option, Some, None, slice_get, cond, Result, Ok, Err, refl, sym, ap, ◌∙◌, nat_lt, arith, filter_map, cons_option, list_all, option_map, take-length, map-append, violations, violation_at, with_prefixes_from, IsLegal, ◌>>=◌, fault, Fault, Reason, bind_ok, bind_err, Profile, Command, Placed, OffsetByte, bytes_of, first_offset, has_end, Entries, SpellsPrefixIn, ReadsIn, commands_by, is_blank, read_by, shown_by, spelled_in, fault_of, IsFirstFault, EachTextAnswersIn, LayerImage, ReadsLayerIn, image_of, broken_rule_in, text_limit, item_limit, without_places, spelled_place}
use Rattle.gerber_text.proofs.Some.{some_reading}
use Rattle.layer_image.proofs.Reading.{legal_layer, kept_all}
use Rattle.layer_image.proofs.UniqueReading.{rest_place, ended_place}

-- ---- a list is legal, or has a first fault

legal_after : (profile : Profile) (first cs : Entries) → filter_map (violation_at (fault_of profile)) (with_prefixes_from first cs) ≡ [] → filter_map (violation_at (broken_rule_in profile)) (with_prefixes_from (without_places first) (without_places cs)) ≡ []
legal_after profile first [] h = refl
legal_after profile first (e ∷ cs) h = by (broken_rule_in profile (without_places first) e.what) refl (legal_after profile (first ++ e ∷ []) cs)
  where
    more : List (ℕ × Fault)
    more = filter_map (violation_at (fault_of profile)) (with_prefixes_from (first ++ e ∷ []) cs)

    later : List Command → List (ℕ × Reason)
    later before = filter_map (violation_at (broken_rule_in profile)) (with_prefixes_from before (without_places cs))

    again : without_places (first ++ e ∷ []) ≡ without_places first ++ e.what ∷ []
    again = map-append (λ (d : Placed Command). d.what) first (e ∷ [])

    head : (o : Option Reason) → broken_rule_in profile (without_places first) e.what ≡ o → cons_option (option_map (λ f. (length first, f)) (option_map (fault e.place e.byte) o)) more ≡ []
    head o q = ap (λ p. cons_option (option_map (λ f. (length first, f)) (option_map (fault e.place e.byte) p)) more) (sym q) ∙ h

    by : (o : Option Reason) → broken_rule_in profile (without_places first) e.what ≡ o → (more ≡ [] → later (without_places (first ++ e ∷ [])) ≡ []) → filter_map (violation_at (broken_rule_in profile)) (with_prefixes_from (without_places first) (without_places (e ∷ cs))) ≡ []
    by None q rest =
        ap (λ p. cons_option (option_map (λ r. (length (without_places first), r)) p) (later (without_places first ++ e.what ∷ []))) q ∙ (ap later (sym again) ∙ rest (head None q))
    by (Some r) q rest = let none = head (Some r) q in absurd cc

first_or_legal : (profile : Profile) (entries : Entries) → ((f : Fault) × IsFirstFault profile entries f) ⊎ IsLegal (broken_rule_in profile) (without_places entries)
first_or_legal profile entries = by (violations (fault_of profile) entries) refl
  where
    by : (l : List (ℕ × Fault)) → violations (fault_of profile) entries ≡ l → ((f : Fault) × IsFirstFault profile entries f) ⊎ IsLegal (broken_rule_in profile) (without_places entries)
    by [] e = inr (legal_after profile [] entries e)
    by (p ∷ l) e = inl (p.1, (p.0, ap (λ (m : List (ℕ × Fault)). slice_get m 0) e))

-- ---- the items before the place of a fault spell commands

stops_within : (profile : Profile) (place : ℕ) (items : List (List OffsetByte)) (before : Entries) (f : Fault) → commands_by profile place items before ≡ Err f
    → (kept : ℕ) × (cs : Entries) × (f.place ≡ place + kept) × (kept ≤ length items) × (commands_by profile place (take kept items) before ≡ Ok cs)
stops_within profile place [] before f h = absurd cc
stops_within profile place (item ∷ items) before f h = elim (bind_err (spelled_in profile place (first_offset item) (bytes_of item) before) (commands_by profile (suc place) items) f h) [
  | inl here ↦ (0, before, omega (arith, spelled_place profile place (first_offset item) (bytes_of item) before f here), omega arith, refl)
  | inr there ↦
      let r = stops_within profile (suc place) items there.0 f there.2 in
      (suc r.0, r.1, omega (arith, r.2), omega (arith, r.3), ap (λ (o : Result Entries Fault). o >>= commands_by profile (suc place) (take r.0 items)) there.1 ∙ r.4)
]

shown_stop : (profile : Profile) (items : List (List OffsetByte)) (rest : List OffsetByte) (f : Fault) → shown_by profile items rest ≡ Err f → (commands_by profile 1 items [] ≡ Err f) ⊎ ((cs : Entries) × (commands_by profile 1 items [] ≡ Ok cs) × (f.place ≡ suc (length items)))
shown_stop profile items rest f h = elim (bind_err (commands_by profile 1 items []) _ f h) [
  | inl e ↦ inl e
  | inr there ↦ inr (there.0, there.1, rest_place (has_end items) (nat_lt item_limit (length rest)) (suc (length items)) (first_offset rest) there.0 rest f there.2)
]

read_stop : (profile : Profile) (len : ℕ) (items : List (List OffsetByte)) (rest : List OffsetByte) (f : Fault) → read_by profile len items rest ≡ Err f → (commands_by profile 1 items [] ≡ Err f) ⊎ ((cs : Entries) × (commands_by profile 1 items [] ≡ Ok cs) × (f.place ≡ suc (length items)))
read_stop profile len items rest f h = elim (bind_err (shown_by profile items rest) _ f h) [
  | inl e ↦ shown_stop profile items rest f e
  | inr there ↦
      let all = bind_ok (commands_by profile 1 items []) _ there.0 there.1 in
      inr (all.0, all.1, ended_place (nat_lt text_limit len) (has_end items) (suc (length items)) text_limit (cond (list_all is_blank (bytes_of rest)) len (first_offset rest)) there.0 f there.2)
]

kept_before_fault : (profile : Profile) (text : List ℕ) (f : Fault) → ReadsIn profile text (Err f) → (entries : Entries) × (kept : ℕ) × (f.place ≡ suc kept) × SpellsPrefixIn profile text kept entries
kept_before_fault profile text f r = elim (read_stop profile (length text) r.items r.rest f (sym r.answer_is)) [
  | inl e ↦
      let s = stops_within profile 1 r.items [] f e in
      (s.1, s.0, omega (arith, s.2), record { items = r.items; rest = r.rest; splits = r.splits; within = s.3; spelled = s.4 })
  | inr e ↦ (
    e.0,
    length r.items,
    e.2,
    record { items = r.items; rest = r.rest; splits = r.splits; within = omega arith; spelled = ap (λ (x : List (List OffsetByte)). commands_by profile 1 x []) (take-length r.items) ∙ e.1 },
  )
]

answer_of : (profile : Profile) (text : List ℕ) (r : Result Entries Fault) → ReadsIn profile text r → (answer : Result LayerImage Fault) × ReadsLayerIn profile text answer
answer_of profile text (Ok entries) r = elim (first_or_legal profile entries) [
  | inl first ↦ let all = kept_all profile text entries r in (Err first.0, inl (all.0, entries, all.1, first.1))
  | inr legal ↦ (Ok (image_of entries), legal_layer profile text entries (image_of entries) r legal refl)
]
answer_of profile text (Err f) r =
    let before = kept_before_fault profile text f r in
    elim (first_or_legal profile before.0) [
      | inl first ↦ (Err first.0, inl (before.1, before.0, before.3, first.1))
      | inr legal ↦ (Err f, inr (before.0, r, (before.1, before.2, before.3), legal))
    ]

pub each_answers : EachTextAnswersIn
each_answers profile text = let some = some_reading profile text in answer_of profile text some.0 some.1
