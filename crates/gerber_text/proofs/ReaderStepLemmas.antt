-- What one step of a reader does to the items and the rest.
use Rattle.gerber_text.proofs.Common.{◌≡◌, ◌≢◌, ℕ, suc, ◌+◌, ◌<◌, Bool, true, false, cond, eqb, List, [], ◌∷◌, ◌++◌, length, Result, Ok, Err, refl, sym, ap, subst, ◌∙◌, arith, enumerate_from, AllByRecursion, map-append, length-append, length-map, eqb-false, Profile, fault, with_place, Reason, Fault, IsInside, is_line_break, end_byte, IsUnfinished, is_end_item, OffsetByte, offset_bytes, bytes_of, first_offset, has_end, Splits, Entries, spelled_in, shown_by}
use Rattle.std.proofs.lemmas.List.FromFn.{length-enumerate_from}
use Rattle.gerber_text.proofs.OffsetByteLemmas.{offset_bytes-append, offset_bytes_from-kept, bytes_of-enumerate, AllR-weaker}
use Rattle.gerber_text.proofs.SplitsLemmas.{Splits-grow, Splits-close, IsUnfinished-append, bytes_of-push, has_end-push}
use Rattle.gerber_text.proofs.ShowsLemmas.{running_ok, show_push}

end_stays : (t : Bool) → is_line_break (cond t 37 42) ≡ false
end_stays true = refl
end_stays false = refl

-- what ends an item is no line break
pub ender_stays : (bytes : List ℕ) → is_line_break (end_byte bytes) ≡ false
ender_stays [] = refl
ender_stays (b ∷ bs) = end_stays (eqb b 37)

pub offset_bytes-push : (text : List ℕ) (b : ℕ) → is_line_break b ≡ false → offset_bytes (text ++ b ∷ []) ≡ offset_bytes text ++ (length text, b) ∷ []
offset_bytes-push text b h = offset_bytes-append text (b ∷ []) ∙ ap (λ (x : List OffsetByte). offset_bytes text ++ x) (offset_bytes_from-kept (length text) (b ∷ []) (h, tt))

pub first_is : (rest : List OffsetByte) (m : OffsetByte) (byte : ℕ) → (length rest ≡ 0 → byte ≡ m.0) → (0 < length rest → byte ≡ first_offset rest) → byte ≡ first_offset (rest ++ m ∷ [])
first_is [] m byte h k = h refl
first_is (x ∷ rest) m byte h k = k (omega arith)

pub length-bytes_of : (rest : List OffsetByte) → length (bytes_of rest) ≡ length rest
length-bytes_of rest = length-map rest (λ (x : OffsetByte). x.1)

-- ---- a run inside an item

pub record FaultsStay (text : List ℕ) (items : List (List OffsetByte)) (rest : List OffsetByte) (run : List ℕ) : Type 0 where
  pub more : List OffsetByte
  pub splits : Splits (offset_bytes (text ++ run)) items (rest ++ more)
  pub bytes : bytes_of (rest ++ more) ≡ bytes_of rest ++ run
  pub long : length (rest ++ more) ≡ length rest + length run

pub lengthens : (text : List ℕ) (items : List (List OffsetByte)) (rest : List OffsetByte) (run : List ℕ) → Splits (offset_bytes text) items rest → IsUnfinished (bytes_of rest ++ run) → AllByRecursion (λ b. is_line_break b ≡ false) run → FaultsStay text items rest run
lengthens text items rest run s unfinished kept =
    let more : List OffsetByte = enumerate_from (length text) run in
    let bytes : bytes_of (rest ++ more) ≡ bytes_of rest ++ run = map-append (λ (x : OffsetByte). x.1) rest more ∙ ap (λ (x : List ℕ). bytes_of rest ++ x) (bytes_of-enumerate (length text) run) in
    record {
      more = more;
      splits = subst (λ (ms : List OffsetByte). Splits ms items (rest ++ more)) (sym (offset_bytes-append text run ∙ ap (λ (x : List OffsetByte). offset_bytes text ++ x) (offset_bytes_from-kept (length text) run kept))) (Splits-grow (offset_bytes text) items rest more s (λ _. subst IsUnfinished (sym bytes) unfinished));
      bytes = bytes;
      long = omega (arith, length-append rest more, length-enumerate_from (length text) run);
    }

pub run_inside : (item run : List ℕ) → 0 < length item → IsUnfinished item → AllByRecursion (IsInside (end_byte item)) run → IsUnfinished (item ++ run)
run_inside item run long h k = IsUnfinished-append item run long h (AllR-weaker (IsInside (end_byte item)) (λ b. b ≢ end_byte item) (λ b i. eqb-false b (end_byte item) i.0) run k)

pub run_kept : (e : ℕ) (run : List ℕ) → AllByRecursion (IsInside e) run → AllByRecursion (λ b. is_line_break b ≡ false) run
run_kept e run k = AllR-weaker (IsInside e) (λ b. is_line_break b ≡ false) (λ b i. i.1) run k

-- ---- the last byte of an item

pub record Closed (profile : Profile) (text : List ℕ) (items : List (List OffsetByte)) (item : List OffsetByte) (bytes : List ℕ) (last place byte : ℕ) (cs : Entries) : Type 0 where
  pub splits : Splits (offset_bytes (text ++ last ∷ [])) (items ++ item ∷ []) []
  pub shows : shown_by profile (items ++ item ∷ []) [] ≡ spelled_in profile place byte bytes cs
  pub ends : has_end (items ++ item ∷ []) ≡ is_end_item bytes
  pub count : length (items ++ item ∷ []) ≡ length items + 1

pub closes : (profile : Profile) (text : List ℕ) (items : List (List OffsetByte)) (rest : List OffsetByte) (bytes : List ℕ) (last place byte : ℕ) (cs : Entries) → Splits (offset_bytes text) items rest → has_end items ≡ false → shown_by profile items rest ≡ Ok cs
    → last ≡ end_byte (bytes_of rest) → place ≡ suc (length items) → byte ≡ first_offset (rest ++ (length text, last) ∷ []) → bytes ≡ bytes_of rest ++ last ∷ [] → Closed profile text items (rest ++ (length text, last) ∷ []) bytes last place byte cs
closes profile text items rest bytes last place byte cs s none e last-is place-is byte-is bytes-are =
    let m : OffsetByte = (length text, last) in
    let item : List OffsetByte = rest ++ m ∷ [] in
    let stays : is_line_break last ≡ false = ap is_line_break last-is ∙ ender_stays (bytes_of rest) in
    let same : bytes_of item ≡ bytes = bytes_of-push rest m ∙ sym bytes-are in
    record {
      splits = subst (λ (ms : List OffsetByte). Splits ms (items ++ item ∷ []) []) (sym (offset_bytes-push text last stays)) (Splits-close (offset_bytes text) items rest m s none last-is);
      shows = show_push profile items item cs (running_ok profile items rest cs none e).0 ∙ (ap (λ p. spelled_in profile p (first_offset item) (bytes_of item) cs) (sym place-is) ∙ (ap (λ b. spelled_in profile place b (bytes_of item) cs) (sym byte-is) ∙ ap (λ (b : List ℕ). spelled_in profile place byte b cs) same));
      ends = has_end-push items item none ∙ ap is_end_item same;
      count = length-append items (item ∷ []);
    }

at_place : {A : Type 0} (place byte : ℕ) (r : Result A Reason) (f : Fault) → with_place place byte r ≡ Err f → f.place ≡ place
at_place place byte (Ok x) f e = absurd cc
at_place place byte (Err reason) f e = let same : fault place byte reason ≡ f = cc in sym (ap (λ (g : Fault). g.place) same)

-- the fault of an item is at its place
pub spelled_place : (profile : Profile) (place byte : ℕ) (bytes : List ℕ) (before : Entries) (f : Fault) → spelled_in profile place byte bytes before ≡ Err f → f.place ≡ place
unfolding spelled_in
spelled_place profile place byte bytes before f e = at_place place byte _ f e
