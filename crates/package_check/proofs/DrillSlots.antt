-- A check goes on from a reader that has taken the drill files of a package.
use Rattle.package_check.proofs.Common.{◌≡◌, ◌+◌, ◌≤◌, ◌++◌, ℕ, zero, suc, List, [], ◌∷◌, Bool, true, false, not, Option, Some, None, Ok, length, map, slice_get, arith, refl, sym, ap, ap₂, subst, ◌∙◌, zero-add, flat_map, sum_by, both_ways, length-append, length-map, flat_map-cons, sum_by-cons, none-some, same_Some, GridRules, Keep, Drilled, hole_count, CheckView, holes_in_slot, HasJudged, IsJudgedOf, drill_files, layer_number, HasTaken, HoldsThose, IsKeptOf, contents_in, is_kind_at, is_kind_of, is_wanted, kept_at, LeftView, count_in, holes_in, left_in, Judges, rings_of, FileView, HasContent, HaveContents, is_copper, sum_of, drilled_in, PackageFault, Content, Judged, PackageReader, Kept, not_true}
use Rattle.package_check.specs.declared.contents.Content.TheVariants as content
use Rattle.package_check.proofs.BoardsLemmas.{all_listed}
use Rattle.package_check.proofs.ContentIsReading.{content_read}
use Rattle.package_check.proofs.FileKinds.{drill_files_more, file_kind}

-- ---- holes and their counts

-- the holes in the slots are those of the contents in them
pub slot_holes : (kept : List (Option Kept)) → flat_map holes_in kept ≡ flat_map drilled_in (flat_map contents_in kept)
slot_holes [] = refl
slot_holes (None ∷ ks) =
    flat_map-cons holes_in None ks ∙ (slot_holes ks ∙ ap (λ (cs : List Content). flat_map drilled_in cs) (sym (flat_map-cons contents_in None ks)))
slot_holes (Some one ∷ ks) =
    flat_map-cons holes_in (Some one) ks
    ∙ (ap (λ (ds : List Drilled). drilled_in one.content ++ ds) (slot_holes ks)
    ∙ (sym (flat_map-cons drilled_in one.content (flat_map contents_in ks)) ∙ ap (λ (cs : List Content). flat_map drilled_in cs) (sym (flat_map-cons contents_in (Some one) ks))))

-- how many holes what is left of a file counts
abbrev counted_in : Option LeftView → ℕ
counted_in None = 0
counted_in (Some left) = hole_count left.sum

counts_left : (slots : List (Option Judged)) → sum_by holes_in_slot slots ≡ sum_by counted_in (map left_in slots)
counts_left [] = refl
counts_left (None ∷ os) = sum_by-cons holes_in_slot None os ∙ (ap (λ (n : ℕ). 0 + n) (counts_left os) ∙ sym (sum_by-cons counted_in None (map left_in os)))
counts_left (Some one ∷ os) =
    sum_by-cons holes_in_slot (Some one) os ∙ (ap (λ (n : ℕ). hole_count one.sum + n) (counts_left os) ∙ sym (sum_by-cons counted_in (left_in (Some one)) (map left_in os)))

counts_kept : (kept : List (Option Kept)) → sum_by counted_in (map count_in kept) ≡ length (flat_map holes_in kept)
counts_kept [] = refl
counts_kept (None ∷ ks) =
    sum_by-cons counted_in None (map count_in ks) ∙ (zero-add (sum_by counted_in (map count_in ks)) ∙ (counts_kept ks ∙ sym (ap length (flat_map-cons holes_in None ks))))
counts_kept (Some one ∷ ks) =
    sum_by-cons counted_in (count_in (Some one)) (map count_in ks)
    ∙ (ap₂ (λ (a b : ℕ). a + b) (all_listed one.content) (counts_kept ks)
    ∙ (sym (length-append (drilled_in one.content) (flat_map holes_in ks)) ∙ sym (ap length (flat_map-cons holes_in (Some one) ks))))

-- what is left of the files counts their holes
pub slots_counted : (slots : List (Option Judged)) (kept : List (Option Kept)) → map left_in slots ≡ map count_in kept → sum_by holes_in_slot slots ≡ length (flat_map holes_in kept)
slots_counted slots kept is = counts_left slots ∙ (ap (λ (vs : List (Option LeftView)). sum_by counted_in vs) is ∙ counts_kept kept)

-- ---- one slot

-- what is seen of a slot
seen_at : {X Y : Type 0} (f : Option X → Option Y) → f None ≡ None → (xs : List (Option X)) (i : ℕ) → kept_at (map f xs) i ≡ f (kept_at xs i)
seen_at f none [] zero = sym none
seen_at f none [] (suc i) = sym none
seen_at f none (x ∷ xs) zero = refl
seen_at f none (x ∷ xs) (suc i) = seen_at f none xs i

-- what is left in a slot, by what is kept there
left_at : (slots : List (Option Judged)) (kept : List (Option Kept)) → map left_in slots ≡ map count_in kept → (i : ℕ) → left_in (kept_at slots i) ≡ count_in (kept_at kept i)
left_at slots kept is i = sym (seen_at left_in refl slots i) ∙ (ap (λ (vs : List (Option LeftView)). kept_at vs i) is ∙ seen_at count_in refl kept i)

some_left : (o : Option Judged) (v : LeftView) → left_in o ≡ Some v → (one : Judged) × (o ≡ Some one) × (one.sum ≡ v.sum) × (one.rings.items ≡ v.rings)
some_left None v is = absurd (none-some v is)
some_left (Some one) v is =
    let same = same_Some (let l : LeftView = record { sum = one.sum; rings = one.rings.items } in l) v is in (one, refl, ap (λ (l : LeftView). l.sum) same, ap (λ (l : LeftView). l.rings) same)

none_left : (o : Option Judged) → left_in o ≡ None → o ≡ None
none_left None is = refl
none_left (Some one) is = absurd (none-some (let l : LeftView = record { sum = one.sum; rings = one.rings.items } in l) (sym is))

-- ---- kinds

-- a file that was taken among the drill files is one
drill_taken : (sources : List FileView) (i : ℕ) (s : FileView) → slice_get sources i ≡ Some s → is_kind_at false sources i ≡ true → is_copper s.role ≡ false
drill_taken sources i s at t = not_true (is_copper s.role) (sym (ap (is_kind_of false) at) ∙ t)

-- and the other way round
taken_drill : (sources : List FileView) (i : ℕ) (s : FileView) (b : Bool) → slice_get sources i ≡ Some s → is_copper s.role ≡ b → is_kind_at false sources i ≡ not b
taken_drill sources i s b at is = ap (is_kind_of false) at ∙ ap not is

-- the contents of the drill files are those in the slots, where the slots of copper files are empty
drill_contents : (keep : Keep) (sources : List FileView) (slots : List (Option Kept)) → length slots ≤ length sources
    → ((i : ℕ) (s : FileView) → slice_get sources i ≡ Some s → is_copper s.role ≡ false → (one : Kept) × (kept_at slots i ≡ Some one) × IsKeptOf keep s one)
    → ((i : ℕ) (s : FileView) → slice_get sources i ≡ Some s → is_copper s.role ≡ true → kept_at slots i ≡ None) → HaveContents (drill_files sources) (flat_map contents_in slots)
drill_contents keep [] [] le drills copper = tt
drill_contents keep [] (x ∷ xs) le drills copper = absurd (omega (arith, le))
drill_contents keep (s ∷ ss) [] le drills copper =
    drill_files_more s ss [] [] (λ t. refl) (λ t. let one = drills 0 s refl t in absurd (none-some one.0 one.1))
    (drill_contents keep ss [] (omega arith) (λ i d at t. drills (suc i) d at t) (λ i d at t. copper (suc i) d at t))
drill_contents keep (s ∷ ss) (x ∷ xs) le drills copper =
    drill_files_more s ss (flat_map contents_in (x ∷ xs)) (flat_map contents_in xs) (λ t. flat_map-cons contents_in x xs ∙ ap (λ (o : Option Kept). contents_in o ++ flat_map contents_in xs) (copper 0 s refl t))
    (λ t.
    let one = drills 0 s refl t in
    (one.0.content, content_read s one.0.content one.2.content, flat_map-cons contents_in x xs ∙ ap (λ (o : Option Kept). contents_in o ++ flat_map contents_in xs) one.1))
    (drill_contents keep ss xs (omega (arith, le)) (λ i d at t. drills (suc i) d at t) (λ i d at t. copper (suc i) d at t))

-- ---- the check

module _ (rules : GridRules) (holes : List Drilled) where
  -- no ring is lacking in a drill file
  no_rings : (layer : ℕ) (s : FileView) (c : Content) → is_copper s.role ≡ false → HasContent s c → rings_of rules holes layer c ≡ []
  no_rings layer s (content.Layer image) drill has = absurd (both_ways (is_copper s.role) drill (file_kind s (content.Layer image) has))
  no_rings layer s c drill has = refl

  drill_judged : (keep : Keep) (layer : ℕ) (s : FileView) (one : Kept) (left : Judged) → is_copper s.role ≡ false → IsKeptOf keep s one → left.sum ≡ sum_of one.content → left.rings.items ≡ []
      → Judges rules holes layer s (Ok left)
  drill_judged keep layer s one left drill is counts none =
      (one.content, is.content, record { sum = counts; rings = none ∙ sym (no_rings layer s one.content drill (content_read s one.content is.content)) })

pub goes_on : (reader : PackageReader) (check : CheckView) (rules : GridRules) (keep : Keep) (sources : List FileView) → check.holes ≡ flat_map holes_in reader.slots.items → check.rules ≡ rules
    → map left_in check.slots ≡ map count_in reader.slots.items → check.stopped ≡ reader.stopped → HasTaken reader keep sources (is_kind_at false sources) → HasJudged check sources rules (is_kind_at false sources)
goes_on reader check rules keep sources holes same left stops h =
    let kept = reader.slots.items in
    let size : length check.slots ≡ length kept = sym (length-map check.slots left_in) ∙ (ap length left ∙ length-map kept count_in) in
    let inside = h.holds.inside in
    record {
      same_rules = same;
      holds = subst (λ (st : Option PackageFault). HoldsThose (IsJudgedOf check.rules check.holes sources) check.slots st sources (is_kind_at false sources)) (sym stops) (record {
        inside = omega (arith, size, inside);
        stopped = h.holds.stopped;
        kept = λ i s t at wanted.
            let one = h.holds.kept i s t at wanted in
            let there = some_left (kept_at check.slots i) (record { sum = sum_of one.0.content; rings = [] }) (left_at check.slots kept left i ∙ ap count_in one.1) in
            (there.0, there.1, drill_judged check.rules check.holes keep (layer_number sources i) s one.0 there.0 (drill_taken sources i s at t) one.2 there.2 there.3);
        empty = λ i off. none_left (kept_at check.slots i) (left_at check.slots kept left i ∙ ap count_in (h.holds.empty i off));
      });
      drilled = λ none. (
        flat_map contents_in kept,
        drill_contents keep sources kept h.holds.inside
            (λ i s at t. h.holds.kept i s (taken_drill sources i s false at t) at (subst (λ (st : Option PackageFault). is_wanted st i ≡ true) (sym (sym stops ∙ none)) refl))
            (λ i s at t. h.holds.empty i (taken_drill sources i s true at t)),
        holes ∙ slot_holes kept,
      );
    }
