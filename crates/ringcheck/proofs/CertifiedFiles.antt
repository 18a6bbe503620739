-- The files that a certificate names, with their digests.
use Rattle.ringcheck.proofs.Common.{◌≡◌, ◌≤◌, ◌+◌, ◌++◌, ◌<◌, ◌∷◌, ◌∙◌, ℕ, zero, suc, Bool, false, false≢true, sym, Appends, Option, List, [], length, map, take, take_all, append-nil, slice_get, Some, arith, refl, ap, none-some, same_Some, subst, codes, flat_map_more, AllByRecursion, Entry, FileView, Relation, Status, Written, AreDigestsOf, true}
use Rattle.std.proofs.lemmas.List.{drop_all}
use Rattle.std.specs.List.{zip}
use Rattle.std.specs.Prelude.{decimal, drop}
use Rattle.sha2.specs.Sha256.{sha256}
use Rattle.ringcheck_files.proofs.Appending.{appends_both}
use Rattle.print_json.specs.ReadCertificates.{CertifiedView}
use Rattle.ringcheck_files.specs.declared.Status.TheVariants as status
use Rattle.ringcheck.specs.CertificateStatus.{AreOther, IsVerified, Names, changed, differs_lines, verdict_text}
use Rattle.ringcheck.specs.Inner.Certificates.{ListsOthers}

-- digests that each have their file are those of all files
pub digests_all : (digests : List (List ℕ)) (files : List FileView) → length digests ≡ length files → AreDigestsOf digests files (λ i. true) → digests ≡ map (λ file. sha256 file.bytes) files
digests_all [] [] same are = refl
digests_all [] (f ∷ fs) same are = absurd (omega (arith, same))
digests_all (d ∷ ds) [] same are = absurd (omega (arith, same))
digests_all (d ∷ ds) (f ∷ fs) same are =
    ap (λ (x : List ℕ). x ∷ ds) (are 0 f refl refl (omega arith))
    ∙ ap (λ (xs : List (List ℕ)). sha256 f.bytes ∷ xs) (digests_all ds fs (omega (arith, same)) (λ i file yes at inside. are (suc i) file yes at (omega (arith, inside))))

-- one more entry, which has a digest
pub zip_more : (entries : List Entry) (digests : List (List ℕ)) (k : ℕ) (e : Entry) (d : List ℕ) → slice_get entries k ≡ Some e → slice_get digests k ≡ Some d
    → zip (map (λ (x : Entry). x.file) (take (suc k) entries)) digests ≡ zip (map (λ (x : Entry). x.file) (take k entries)) digests ++ (e.file, d) ∷ []
zip_more [] ds k e d at is = absurd (none-some e at)
zip_more (x ∷ es) [] k e d at is = absurd (none-some d is)
zip_more (x ∷ es) (y ∷ ds) zero e d at is = λ j. ((same_Some x e at j).file, same_Some y d is j) ∷ []
zip_more (x ∷ es) (y ∷ ds) (suc k) e d at is = ap (λ (rest : List (List ℕ × List ℕ)). (x.file, y) ∷ rest) (zip_more es ds k e d at is)

-- one more entry, which has none
pub zip_past : (entries : List Entry) (digests : List (List ℕ)) (k : ℕ) → length digests ≤ k
    → zip (map (λ (x : Entry). x.file) (take (suc k) entries)) digests ≡ zip (map (λ (x : Entry). x.file) (take k entries)) digests
zip_past [] ds zero is = refl
zip_past [] ds (suc k) is = refl
zip_past (x ∷ es) [] zero is = refl
zip_past (x ∷ es) [] (suc k) is = refl
zip_past (x ∷ es) (y ∷ ds) zero is = absurd (omega (arith, is))
zip_past (x ∷ es) (y ∷ ds) (suc k) is = ap (λ (rest : List (List ℕ × List ℕ)). (x.file, y) ∷ rest) (zip_past es ds k (omega (arith, is)))

one_more : (k : ℕ) → k + 1 ≡ suc k
one_more k = omega arith

-- the same of the number of entries so far
pub zip_next : (entries : List Entry) (digests : List (List ℕ)) (k : ℕ) (e : Entry) (d : List ℕ) → slice_get entries k ≡ Some e → slice_get digests k ≡ Some d
    → zip (map (λ (x : Entry). x.file) (take (k + 1) entries)) digests ≡ zip (map (λ (x : Entry). x.file) (take k entries)) digests ++ (e.file, d) ∷ []
zip_next entries digests k e d at is =
    ap (λ (n : ℕ). zip (map (λ (x : Entry). x.file) (take n entries)) digests) (one_more k) ∙ zip_more entries digests k e d at is

pub zip_no_more : (entries : List Entry) (digests : List (List ℕ)) (k : ℕ) → length digests ≤ k
    → zip (map (λ (x : Entry). x.file) (take (k + 1) entries)) digests ≡ zip (map (λ (x : Entry). x.file) (take k entries)) digests
zip_no_more entries digests k past = ap (λ (n : ℕ). zip (map (λ (x : Entry). x.file) (take n entries)) digests) (one_more k) ∙ zip_past entries digests k past

-- what a slice wrote back to a vector of its length
pub written_back : (len : ℕ) (now items : List (List ℕ)) → length now ≡ len → length items ≡ len → take len (now ++ drop (length now) items) ≡ now
written_back len now items same size =
    ap (λ (rest : List (List ℕ)). take len (now ++ rest)) (drop_all (length now) items (omega (arith, same, size)))
    ∙ (ap (take len) (append-nil now) ∙ take_all len now (omega (arith, same)))

-- ---- lines

-- one number more, of which the same holds
all_with : (P : ℕ → Type 0) (ns : List ℕ) (n : ℕ) → AllByRecursion P ns → P n → AllByRecursion P (ns ++ n ∷ [])
all_with P [] n h k = (k, tt)
all_with P (m ∷ ns) n h k = (h.0, all_with P ns n h.1 k)

length_with : (ns : List ℕ) (n : ℕ) → 0 < length (ns ++ n ∷ [])
length_with [] n = omega arith
length_with (m ∷ ns) n = omega arith

-- the line on the file of this number
abbrev line_of : ℕ → List ℕ
line_of number = codes "differs file=" ++ (decimal number ++ codes "\n")

-- one line
pub only_line : (before after : Option (List ℕ)) (n m : ℕ) → n ≡ m → Appends before after (line_of n) → Appends before after (differs_lines (m ∷ []))
only_line before after n m same line = subst (λ k. Appends before after (line_of k ++ [])) same (subst (Appends before after) (sym (append-nil (line_of n))) line)

-- a line more
pub after_line : (IsOther : ℕ → Type 0) (before middle after : Option (List ℕ)) (any : Bool) → ListsOthers (AllByRecursion IsOther) before middle any → (number : ℕ) → IsOther number
    → Appends middle after (line_of number) → ListsOthers (AllByRecursion IsOther) before after true
after_line IsOther before middle after false so_far number is more = record {
  numbers = number ∷ [];
  written = only_line before after number number refl (rw (so_far.none refl) at more);
  other = λ _. ((is, tt), omega arith);
  none = λ none. absurd (false≢true (sym none));
}
after_line IsOther before middle after true so_far number is more = record {
  numbers = so_far.numbers ++ number ∷ [];
  written = subst (Appends before after) (flat_map_more line_of [] so_far.numbers number) (appends_both before middle after (differs_lines so_far.numbers) (line_of number) so_far.written more);
  other = λ _. (all_with IsOther so_far.numbers number (so_far.other refl).0 is, length_with so_far.numbers number);
  none = λ none. absurd (false≢true (sym none));
}

-- where files have changed nothing is certified
pub denied : (has : Relation) (given : List ℕ) (before after : Written) (middle : Option (List ℕ)) (it : CertifiedView) → Names given (Some it) → ListsOthers (AreOther has it) before.0 middle true
    → (s : Status) → s ≡ status.Findings → Appends middle after.0 (verdict_text false) → IsVerified has given before after s
denied has given before after middle it names lines s is line = by lines.numbers (lines.other refl).0 (lines.other refl).1 lines.written
  where
    by : (numbers : List ℕ) → AreOther has it numbers → 0 < length numbers → Appends before.0 middle (differs_lines numbers) → IsVerified has given before after s
    by [] others some written = absurd (omega (arith, some))
    by (first ∷ more) others some written = changed it names first more others (is, appends_both before.0 middle after.0 (differs_lines (first ∷ more)) (verdict_text false) written line)
