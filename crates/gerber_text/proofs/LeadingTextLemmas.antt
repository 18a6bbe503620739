-- Comments and attributes at the start of bytes, as a search for their end finds them, and what they spell.
use Rattle.gerber_text.proofs.Common.{◌≡◌, inl, inr, ℕ, ◌+◌, ◌≤◌, false, ◌||◌, eqb, Option, List, [], ◌∷◌, ◌++◌, length, take, drop, All, None, Ok, refl, sym, ap, subst, ◌∙◌, arith, append_assoc, list_any, AllByRecursion, take-append_seam, length-append, length-take, take-append-drop, recursion_from_All, Profile, Strict, Attribute, Remove, Meaning, HasNo, is_line_break, IsItem, is_end_item, meaning_in, action_of, HasLeadingText, is_negative_text, text_code, text_end, text_command, IsItemIn, IsInside, Action}
use Rattle.gerber_commands.specs.declared.command.AttributeKind.TheVariants as attributes
use Rattle.gerber_text.specs.declared.text_items.LeadingText.{LeadingText}
use Rattle.gerber_text.specs.declared.text_items.TextKind.{TextKind}
use Rattle.gerber_text.specs.declared.text_items.TextKind.TheVariants as kinds
use Rattle.gerber_text.proofs.GrammarItems.{Means, item_means, item_anywhere}
use Rattle.gerber_text.proofs.OffsetByteLemmas.{AllR-append}
use Rattle.gerber_text.proofs.ReaderStepLemmas.{run_kept}

-- ---- found by its end

none_inside : (text : List ℕ) → AllByRecursion (IsInside 42) text → HasNo 42 text
none_inside [] h = refl
none_inside (b ∷ bs) h = ap (λ t. t || list_any (λ c. eqb c 42) bs) h.0.0 ∙ none_inside bs h.1

regroup : (code text end more : List ℕ) → code ++ (text ++ (end ++ more)) ≡ ((code ++ text) ++ end) ++ more
regroup code text end more = sym (append_assoc (code ++ text) end more ∙ append_assoc code text (end ++ more))

pub text_found : (bytes rest text end more : List ℕ) (found : LeadingText) → bytes ≡ text_code found.kind ++ rest → found.text_len ≤ length rest → All (IsInside 42) (take found.text_len rest) → text ≡ take found.text_len rest → end ≡ drop found.text_len rest → end ≡ text_end found.kind ++ more
    → list_any (λ b. eqb b 37) text ≡ false → is_negative_text found.kind text ≡ false → found.len ≡ 3 + (found.text_len + length (text_end found.kind)) → found.len ≤ 1048576 → HasLeadingText bytes found
text_found bytes rest text end more found is within inside text_is end_is ends percent positive item_long short =
    let run = recursion_from_All (IsInside 42) text (subst (All (IsInside 42)) (sym text_is) inside) in
    let split : rest ≡ text ++ (text_end found.kind ++ more) = sym (take-append-drop found.text_len rest) ∙ (λ i. sym text_is i ++ (sym end_is ∙ ends) i) in
    record {
      text = text;
      rest = more;
      whole = is ∙ (ap (λ (x : List ℕ). text_code found.kind ++ x) split ∙ regroup (text_code found.kind) text (text_end found.kind) more);
      long = omega (arith, ap length text_is, length-take found.text_len rest, within);
      item_long = item_long;
      one_line = run_kept 42 text run;
      no_star = none_inside text run;
      no_percent = percent;
      positive = positive;
      short = short;
    }

-- ---- what it spells

-- the item of a text
abbrev pub item_of : TextKind → List ℕ → List ℕ
item_of kind text = text_code kind ++ text ++ text_end kind

item_for : (latest : Option Action) (kind : TextKind) (text : List ℕ) → HasNo 42 text → HasNo 37 text → is_negative_text kind text ≡ false → IsItemIn Strict latest (item_of kind text) (text_command kind text ∷ [])
item_for latest kinds.Comment text star percent positive = inl (text_code kinds.Comment ++ text, refl, star, inr (inr (inl (text, refl, refl, positive, percent))))
item_for latest (kinds.Attribute attributes.File) text star percent positive = inr (84 ∷ 70 ∷ text, refl, percent, inr (star, inr (inl (Attribute attributes.File text, (refl, positive), refl))))
item_for latest (kinds.Attribute attributes.Aperture) text star percent positive = inr (84 ∷ 65 ∷ text, refl, percent, inr (star, inr (inl (Attribute attributes.Aperture text, refl, refl))))
item_for latest (kinds.Attribute attributes.Object) text star percent positive = inr (84 ∷ 79 ∷ text, refl, percent, inr (star, inr (inl (Attribute attributes.Object text, refl, refl))))
item_for latest kinds.Remove text star percent positive = inr (84 ∷ 68 ∷ text, refl, percent, inr (star, inr (inl (Remove text, refl, refl))))

not_end : (kind : TextKind) (text : List ℕ) → is_end_item (item_of kind text) ≡ false
not_end kinds.Comment text = refl
not_end (kinds.Attribute attributes.File) text = refl
not_end (kinds.Attribute attributes.Aperture) text = refl
not_end (kinds.Attribute attributes.Object) text = refl
not_end kinds.Remove text = refl

abbrev IsKept : List ℕ → Type 0
IsKept bytes = AllByRecursion (λ b. is_line_break b ≡ false) bytes

code_kept : (kind : TextKind) → IsKept (text_code kind)
code_kept kinds.Comment = (refl, (refl, (refl, tt)))
code_kept (kinds.Attribute attributes.File) = (refl, (refl, (refl, tt)))
code_kept (kinds.Attribute attributes.Aperture) = (refl, (refl, (refl, tt)))
code_kept (kinds.Attribute attributes.Object) = (refl, (refl, (refl, tt)))
code_kept kinds.Remove = (refl, (refl, (refl, tt)))

end_kept : (kind : TextKind) → IsKept (text_end kind)
end_kept kinds.Comment = (refl, tt)
end_kept (kinds.Attribute which) = (refl, (refl, tt))
end_kept kinds.Remove = (refl, (refl, tt))

item_kept : (kind : TextKind) (text : List ℕ) → IsKept text → IsKept (item_of kind text)
item_kept kind text h = AllR-append (λ b. is_line_break b ≡ false) (text_code kind ++ text) (text_end kind) (AllR-append (λ b. is_line_break b ≡ false) (text_code kind) text (code_kept kind) h) (end_kept kind)

-- the code is three bytes long
pub code_long : (kind : TextKind) → length (text_code kind) ≡ 3
code_long kinds.Comment = refl
code_long (kinds.Attribute attributes.File) = refl
code_long (kinds.Attribute attributes.Aperture) = refl
code_long (kinds.Attribute attributes.Object) = refl
code_long kinds.Remove = refl

after_three : (kind : TextKind) (text end more : List ℕ) → drop 3 (((text_code kind ++ text) ++ end) ++ more) ≡ (text ++ end) ++ more
after_three kinds.Comment text end more = refl
after_three (kinds.Attribute attributes.File) text end more = refl
after_three (kinds.Attribute attributes.Aperture) text end more = refl
after_three (kinds.Attribute attributes.Object) text end more = refl
after_three kinds.Remove text end more = refl

abbrev spells : TextKind → List ℕ → Meaning
spells kind text = Ok (text_command kind text ∷ [])

-- an item that spells the command of this text, whatever stands before it
pub record IsTextItem (bytes : List ℕ) (found : LeadingText) : Type 0 where
  pub one : IsItem (take found.len bytes)
  pub kept : AllByRecursion (λ b. is_line_break b ≡ false) (take found.len bytes)
  pub goes_on : is_end_item (take found.len bytes) ≡ false
  pub parses : (profile : Profile) (latest : Option Action) → meaning_in profile latest (take found.len bytes) ≡ Ok (text_command found.kind (take found.text_len (drop 3 bytes)) ∷ [])

pub text_item : (bytes : List ℕ) (found : LeadingText) → HasLeadingText bytes found → IsTextItem bytes found
text_item bytes found h =
    let kind = found.kind in
    let end = text_end kind in
    let item = item_of kind h.text in
    let size : found.len ≡ length item = omega (arith, length-append (text_code kind ++ h.text) end, length-append (text_code kind) h.text, h.long, h.item_long, code_long kind) in
    let prefix : take found.len bytes ≡ item = (λ i. take (size i) (h.whole i)) ∙ take-append_seam item h.rest in
    let text : take found.text_len (drop 3 bytes) ≡ h.text =
    (λ i. take (sym h.long i) (drop 3 (h.whole i))) ∙ (ap (take (length h.text)) (after_three kind h.text end h.rest ∙ append_assoc h.text end h.rest) ∙ take-append_seam h.text (end ++ h.rest)) in
    let means : (profile : Profile) (latest : Option Action) → Means profile latest item (text_command kind h.text ∷ []) = λ profile latest. item_means profile latest item (text_command kind h.text ∷ []) (item_anywhere profile latest item (text_command kind h.text ∷ []) (item_for latest kind h.text h.no_star h.no_percent h.positive)) in
    record {
      one = subst IsItem (sym prefix) (means Strict None).0;
      kept = subst IsKept (sym prefix) (item_kept kind h.text h.one_line);
      goes_on = ap is_end_item prefix ∙ not_end kind h.text;
      parses = λ profile latest. ap (meaning_in profile latest) prefix ∙ ((means profile latest).1 ∙ ap (spells kind) (sym text));
    }

-- a text leaves the last operation as it was
pub no_action : (kind : TextKind) (text : List ℕ) → action_of (text_command kind text) ≡ None
no_action kinds.Comment text = refl
no_action (kinds.Attribute which) text = refl
no_action kinds.Remove text = refl
