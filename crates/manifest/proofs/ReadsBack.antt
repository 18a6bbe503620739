-- The manifest of proposals that are all decided reads back as their files.
use Rattle.manifest.proofs.Common.{◌≡◌, ◌∙◌, ◌≤◌, ◌++◌, ◌&&◌, ℕ, Bool, true, false, not, List, [], ◌∷◌, length, map, codes, Option, Some, None, Ok, arith, refl, sym, ap, append_assoc, nat_lt, nat_le, if◌then◌else◌, list_all, list_any, count_by, filter_map, position, option_or, bytes_eq, leb-true, nat_tests, map-append, default_config, records, strip_bom, default_writer, read_back, row_text, violation_at, violations, with_prefixes_from, Reason, BadSpan, Profile, Entry, CsvRecord, broken_after, first_broken_rule, exceeds_layers, entries_of, entry_of, is_repeated, manifest_in, parse_manifest_records, missing_role, joint_fault, LayerRange, ProposedRole, Copper, Plated, Unplated, Mixed, Undecided, LeftOut, Proposal, has_spans, is_copper, is_copper_role, label, manifest_text, layers_of_role, AreDecided, as_span, entry_in, is_decided, is_valid_name, role_of, are_within_count, both_true}
use Rattle.std.proofs.Common.{option_map}
use Rattle.manifest.specs.Manifest as manifests
use Rattle.manifest.proofs.EntryLoop.{at_end}
use Rattle.manifest.proofs.CountLemmas.{all_at, any_of_map, count_of_map, nowhere}
use Rattle.manifest.proofs.LabelLemmas.{IsOnce, label_stands, not_repeated}
use Rattle.manifest.proofs.ValidEntries.{CanBeNamed, entry_is, fields_of, no_rule_broken, width}
use Rattle.manifest.proofs.WrittenRecords.{read_all, texts}
use Rattle.manifest.proofs.RowLemmas.{rows_of}
use Rattle.manifest.proofs.FunctionLayers.{is_short, names_short, span_short}

-- ---- lists

module _ {A B R : Type 0} (f : A → B) (broken : List B → B → Option R) where
  -- no element breaks a rule after those before it
  none_after : (first xs : List A) → ((before : List A) (x : A) (after : List A) → first ++ xs ≡ before ++ x ∷ after → broken (map f before) (f x) ≡ None)
      → filter_map (violation_at broken) (with_prefixes_from (map f first) (map f xs)) ≡ []
  none_after first [] h = refl
  none_after first (x ∷ xs) h =
      let here : broken (map f first) (f x) ≡ None = h first x xs refl in
      let grown : map f (first ++ x ∷ []) ≡ map f first ++ f x ∷ [] = map-append f first (x ∷ []) in
      let more = none_after (first ++ x ∷ []) xs (λ before y after e. h before y after (sym (append_assoc first (x ∷ []) xs) ∙ e)) in
      rw here (ap (λ (seen : List B). filter_map (violation_at broken) (with_prefixes_from seen (map f xs))) (sym grown) ∙ more)

module _ {A B : Type 0} (f g : A → B) where
  -- functions that agree at each element
  same_map : (first xs : List A) → ((before : List A) (x : A) (after : List A) → first ++ xs ≡ before ++ x ∷ after → f x ≡ g x) → map f xs ≡ map g xs
  same_map first [] h = refl
  same_map first (x ∷ xs) h =
      let more = same_map (first ++ x ∷ []) xs (λ before y after e. h before y after (sym (append_assoc first (x ∷ []) xs) ∙ e)) in
      λ i. (h first x xs refl i ∷ more i)

module _ {A : Type 0} (p : A → Bool) where
  -- a test that fails at each element
  none_passes : (first xs : List A) → ((before : List A) (x : A) (after : List A) → first ++ xs ≡ before ++ x ∷ after → p x ≡ false) → list_any p xs ≡ false
  none_passes first [] h = refl
  none_passes first (x ∷ xs) h =
      let more = none_passes (first ++ x ∷ []) xs (λ before y after e. h before y after (sym (append_assoc first (x ∷ []) xs) ∙ e)) in
      rw (h first x xs refl, more) refl

-- ---- the text

-- the first record
abbrev heading_row : Bool → CsvRecord
heading_row spans = codes "role" ∷ codes "name" ∷ codes "file" ∷ (if spans then codes "first" ∷ codes "last" ∷ [] else [])

-- the record of a file
abbrev row_in : Bool → List Proposal → Proposal → CsvRecord
row_in spans entries p = fields_of spans p.role (label entries p) p.file

text_is : (entries : List Proposal) → manifest_text entries ≡ texts (heading_row (has_spans entries) ∷ map (row_in (has_spans entries) entries) entries)
text_is entries =
    ap (λ (t : List ℕ). row_text default_writer (heading_row (has_spans entries)) ++ t) (rows_of (row_text default_writer) (row_in (has_spans entries) entries) entries)

no_mark : (spans : Bool) (rows : List CsvRecord) → strip_bom (texts (heading_row spans ∷ rows)) ≡ texts (heading_row spans ∷ rows)
unfolding strip_bom
no_mark true rows = refl
no_mark false rows = refl

back : (spans : Bool) (entries xs : List Proposal) → map read_back (map (row_in spans entries) xs) ≡ map (row_in spans entries) xs
back spans entries [] = refl
back spans entries (x ∷ xs) = ap (λ (rows : List CsvRecord). row_in spans entries x ∷ rows) (back spans entries xs)

-- the text has these records
rows_are : (entries : List Proposal) → records default_config (strip_bom (manifest_text entries)) ≡ heading_row (has_spans entries) ∷ map (row_in (has_spans entries) entries) entries
rows_are entries =
    let spans = has_spans entries in
    let rows = map (row_in spans entries) entries in
    ap (λ (t : List ℕ). records default_config (strip_bom t)) (text_is entries) ∙ ap (records default_config) (no_mark spans rows) ∙ read_all (heading_row spans ∷ rows)
    ∙ ap (λ (rs : List CsvRecord). heading_row spans ∷ rs) (back spans entries entries)

by_width : (profile : Profile) (spans : Bool) (rows : List CsvRecord) → parse_manifest_records profile (heading_row spans ∷ rows) ≡ entries_of profile (width spans) rows
by_width profile true rows = refl
by_width profile false rows = refl

-- ---- the files

can_be_named : (count : ℕ) (span : Option LayerRange) → are_within_count count span ≡ true → is_short span ≡ true → CanBeNamed span
can_be_named count None a s = tt
can_be_named count (Some layers) a s =
    let k = both_true (nat_le 1 layers.first) (nat_le layers.first layers.last && nat_le layers.last count) a in
    let l = both_true (nat_le layers.first layers.last) (nat_le layers.last count) k.1 in
    (leb-true 1 layers.first k.0, leb-true layers.first layers.last l.0, leb-true layers.last 999999999 s)

not_beyond : (count : ℕ) (spans : Bool) (span : Option LayerRange) → are_within_count count span ≡ true → exceeds_layers count (if spans then as_span span else None) ≡ false
not_beyond count false span a = refl
not_beyond count true None a = refl
not_beyond count true (Some layers) a =
    let k = both_true (nat_le 1 layers.first) (nat_le layers.first layers.last && nat_le layers.last count) a in
    let l = both_true (nat_le layers.first layers.last) (nat_le layers.last count) k.1 in
    let le : layers.last ≤ count = leb-true layers.last count l.1 in
    let out : nat_lt count layers.last ≡ false = grind (arith, nat_tests) in
    out

same_copper : (role : ProposedRole) → manifests.is_copper_role (role_of role) ≡ is_copper_role role
same_copper (Copper place) = refl
same_copper (Plated span) = refl
same_copper (Unplated span) = refl
same_copper (Mixed span) = refl
same_copper Undecided = refl
same_copper LeftOut = refl

module _ (profile : Profile) (entries : List Proposal) (distinct : IsOnce entries) (short : list_all names_short entries ≡ true) (layers : list_all (λ p. are_within_count (count_by is_copper entries) (layers_of_role p.role)) entries ≡ true)
    (decision_for : AreDecided profile entries) where
  abbrev spans : Bool
  spans = has_spans entries

  abbrev count : ℕ
  count = count_by is_copper entries

  abbrev rows : List CsvRecord
  rows = map (row_in spans entries) entries

  module _ (before : List Proposal) (p : Proposal) (after : List Proposal) (split : entries ≡ before ++ p ∷ after) where
    role_decided : is_decided profile p.role ≡ true
    role_decided = all_at (λ (q : Proposal). is_decided profile q.role) before p after (ap (list_all (λ (q : Proposal). is_decided profile q.role)) (sym split) ∙ decision_for.roles)

    file_stands : is_valid_name p.file ≡ true
    file_stands = all_at (λ (q : Proposal). is_valid_name q.file) before p after (ap (list_all (λ (q : Proposal). is_valid_name q.file)) (sym split) ∙ decision_for.names)

    among : are_within_count count (layers_of_role p.role) ≡ true
    among = all_at (λ (q : Proposal). are_within_count count (layers_of_role q.role)) before p after (ap (list_all (λ (q : Proposal). are_within_count count (layers_of_role q.role))) (sym split) ∙ layers)

    named : CanBeNamed (layers_of_role p.role)
    named = can_be_named count (layers_of_role p.role) among (span_short p.role (all_at names_short before p after (ap (list_all names_short) (sym split) ∙ short)))

    new_name : is_repeated (label entries p) (map entry_of (map (row_in spans entries) before)) ≡ false
    new_name =
        any_of_map entry_of (λ (e : Entry). bytes_eq e.name (label entries p)) (map (row_in spans entries) before)
        ∙ any_of_map (row_in spans entries) (λ (row : CsvRecord). bytes_eq (entry_of row).name (label entries p)) before ∙ not_repeated entries before p after split distinct

    unbroken : broken_after profile (width spans) (map (row_in spans entries) before) (row_in spans entries p) ≡ None
    unbroken =
        ap (λ (b : Bool). first_broken_rule profile (width spans) b (row_in spans entries p)) new_name
        ∙ no_rule_broken (label entries p) p.file (label_stands entries p file_stands) file_stands profile spans p.role role_decided named

    entry_right : entry_in entries p ≡ entry_of (row_in spans entries p)
    entry_right = entry_is profile (label entries p) p.file spans p.role role_decided named

    within : exceeds_layers count (entry_in entries p).said.span ≡ false
    within = not_beyond count spans (layers_of_role p.role) among

  no_breaks : violations (broken_after profile (width spans)) rows ≡ []
  no_breaks = none_after (row_in spans entries) (broken_after profile (width spans)) [] entries unbroken

  files_are : map (entry_in entries) entries ≡ map entry_of rows
  files_are = same_map (entry_in entries) (λ (p : Proposal). entry_of (row_in spans entries p)) [] entries entry_right ∙ twice entries
    where
      twice : (xs : List Proposal) → map (λ (p : Proposal). entry_of (row_in spans entries p)) xs ≡ map entry_of (map (row_in spans entries) xs)
      twice [] = refl
      twice (x ∷ xs) = ap (λ (es : List Entry). entry_of (row_in spans entries x) ∷ es) (twice xs)

  copper_same : (p : Proposal) → manifests.is_copper (entry_in entries p) ≡ is_copper p
  copper_same p = same_copper p.role

  some_copper : list_any manifests.is_copper (map (entry_in entries) entries) ≡ true
  some_copper = any_of_map (entry_in entries) manifests.is_copper entries ∙ ap (λ (t : Proposal → Bool). list_any t entries) (λ i p. copper_same p i) ∙ decision_for.copper

  some_drill : list_any (λ e. not (manifests.is_copper e)) (map (entry_in entries) entries) ≡ true
  some_drill =
      any_of_map (entry_in entries) (λ (e : Entry). not (manifests.is_copper e)) entries ∙ ap (λ (t : Proposal → Bool). list_any (λ p. not (t p)) entries) (λ i p. copper_same p i) ∙ decision_for.drill

  counted : count_by manifests.is_copper (map (entry_in entries) entries) ≡ count
  counted = count_of_map (entry_in entries) manifests.is_copper entries ∙ ap (λ (t : Proposal → Bool). count_by t entries) (λ i p. copper_same p i)

  none_beyond : list_any (λ (e : Entry). exceeds_layers count e.said.span) (map (entry_in entries) entries) ≡ false
  none_beyond = any_of_map (entry_in entries) (λ (e : Entry). exceeds_layers count e.said.span) entries ∙ none_passes (λ (p : Proposal). exceeds_layers count (entry_in entries p).said.span) [] entries within

  first_none : position (λ (e : Entry). exceeds_layers (count_by manifests.is_copper (map (entry_in entries) entries)) e.said.span) (map (entry_in entries) entries) ≡ None
  first_none =
      ap (λ (n : ℕ). position (λ (e : Entry). exceeds_layers n e.said.span) (map (entry_in entries) entries)) counted
      ∙ nowhere (λ (e : Entry). exceeds_layers count e.said.span) (map (entry_in entries) entries) none_beyond

  nothing_lacks : missing_role (map (entry_in entries) entries) ≡ None
  nothing_lacks = rw (some_copper, some_drill) refl

  all_right : joint_fault (map (entry_in entries) entries) ≡ None
  all_right = λ i.
      option_or (option_map (λ (why : Reason). (length (map (entry_in entries) entries), why)) (nothing_lacks i))
      (option_map (λ (n : ℕ). (n, BadSpan)) (first_none i))

  -- the manifest reads back
  pub reads_back : manifest_in profile (manifest_text entries) ≡ Ok (map (entry_in entries) entries)
  reads_back =
      ap (parse_manifest_records profile) (rows_are entries) ∙ by_width profile spans rows
      ∙ sym (at_end profile (width spans) rows (map (entry_in entries) entries) None files_are (sym all_right) no_breaks)
