-- An item that a reader takes whole.
use Rattle.gerber_text.proofs.Common.{◌≡◌, ℕ, suc, ◌+◌, ◌≤◌, false, List, [], ◌∷◌, ◌++◌, length, Ok, refl, sym, ap, subst, ◌∙◌, arith, append_assoc, enumerate_from, AllByRecursion, le-ltb, length-append, Profile, Command, is_line_break, end_byte, IsUnfinished, IsItem, is_end_item, meaning_in, OffsetByte, offset_bytes, bytes_of, first_offset, has_end, Splits, Entries, latest_action, item_entries, spelled_in, shown_by, item_limit}
use Rattle.std.proofs.lemmas.List.FromFn.{length-enumerate_from}
use Rattle.gerber_text.proofs.OffsetByteLemmas.{offset_bytes-append, offset_bytes_from-kept, bytes_of-enumerate}
use Rattle.gerber_text.proofs.SplitsLemmas.{Splits-grow}
use Rattle.gerber_text.proofs.ShowsLemmas.{running_ok, show_ok}
use Rattle.gerber_text.proofs.ReaderStepLemmas.{closes}

pub spelled_ok : (profile : Profile) (place byte : ℕ) (item : List ℕ) (before : Entries) (commands : List Command) → length item ≤ item_limit → meaning_in profile (latest_action before) item ≡ Ok commands → spelled_in profile place byte item before ≡ Ok (before ++ item_entries place byte commands)
unfolding spelled_in
spelled_ok profile place byte item before commands le h = rw (le-ltb _ _ le, h) refl

all-prefix : (P : ℕ → Type 0) (xs ys : List ℕ) → AllByRecursion P (xs ++ ys) → AllByRecursion P xs
all-prefix P [] ys h = tt
all-prefix P (x ∷ xs) ys h = (h.0, all-prefix P xs ys h.1)

starts_at : (n k b : ℕ) (prefix : List ℕ) → k ≡ n + length prefix → n ≡ first_offset (enumerate_from n prefix ++ (k, b) ∷ [])
starts_at n k b [] e = omega (arith, e)
starts_at n k b (x ∷ prefix) e = refl

pub record Taken (profile : Profile) (text item : List ℕ) (items : List (List OffsetByte)) (place : ℕ) (cs : Entries) : Type 0 where
  pub last : List OffsetByte
  pub splits : Splits (offset_bytes (text ++ item)) (items ++ last ∷ []) []
  pub shows : shown_by profile (items ++ last ∷ []) [] ≡ spelled_in profile place (length text) item cs
  pub ends : has_end (items ++ last ∷ []) ≡ is_end_item item
  pub count : length (items ++ last ∷ []) ≡ length items + 1

-- an item without line breaks, after items that have ended
pub takes : (profile : Profile) (text item : List ℕ) (items : List (List OffsetByte)) (rest : List OffsetByte) (place : ℕ) (cs : Entries) → Splits (offset_bytes text) items rest → rest ≡ [] → has_end items ≡ false → shown_by profile items rest ≡ Ok cs → IsItem item → AllByRecursion (λ b. is_line_break b ≡ false) item → length item ≤ item_limit → place ≡ suc (length items)
    → Taken profile text item items place cs
takes profile text item items rest place cs s none running e one kept short place-is =
    let prefix = one.prefix in
    let last = end_byte prefix in
    let more : List OffsetByte = enumerate_from (length text) prefix in
    let bytes : bytes_of more ≡ prefix = bytes_of-enumerate (length text) prefix in
    let prefix_kept = all-prefix (λ b. is_line_break b ≡ false) prefix (last ∷ []) (subst (AllByRecursion (λ b. is_line_break b ≡ false)) one.whole kept) in
    let grown = Splits-grow (offset_bytes text) items [] more (subst (Splits (offset_bytes text) items) none s) (λ _. subst IsUnfinished (sym bytes) one.unfinished) in
    let splits : Splits (offset_bytes (text ++ prefix)) items more = subst (λ (ms : List OffsetByte). Splits ms items more) (sym (offset_bytes-append text prefix ∙ ap (λ (x : List OffsetByte). offset_bytes text ++ x) (offset_bytes_from-kept (length text) prefix prefix_kept))) grown in
    let size : length more ≤ item_limit = omega (arith, length-enumerate_from (length text) prefix, ap length one.whole, length-append prefix (last ∷ []), short) in
    let shows = show_ok profile items more cs running (running_ok profile items rest cs running e).0 size in
    let joined : (text ++ prefix) ++ last ∷ [] ≡ text ++ item = append_assoc text prefix (last ∷ []) ∙ ap (λ (x : List ℕ). text ++ x) (sym one.whole) in
    let m : OffsetByte = (length (text ++ prefix), last) in
    let k = closes profile (text ++ prefix) items more item last place (length text) cs splits running shows (ap end_byte (sym bytes)) place-is (starts_at (length text) (length (text ++ prefix)) last prefix (length-append text prefix)) (one.whole ∙ ap (λ (x : List ℕ). x ++ last ∷ []) (sym bytes)) in
    record {
      last = more ++ m ∷ [];
      splits = subst (λ (t : List ℕ). Splits (offset_bytes t) (items ++ (more ++ m ∷ []) ∷ []) []) joined k.splits;
      shows = k.shows;
      ends = k.ends;
      count = k.count;
    }
