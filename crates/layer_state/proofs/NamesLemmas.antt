-- An ordered table of what names stand for, with one name more.
use Rattle.layer_state.proofs.Common.{◌≡◌, ℕ, Bool, true, false, cond, List, None, Some, refl, sym, subst, ◌∙◌, nat_eq, option_or}
use Rattle.std.specs.Cmp.{eq_by_cmp_equiv}
use Rattle.std.specs.Cmp.Lexicographic.{slice_cmp, pointwise, bytes_decides, nat_list_cmp_total, nat_list_eq_equiv}
use Rattle.std.specs.Global.{Vec}
use Rattle.std.specs.Map.{lookup, AreApart, IsKeyTest, KeepsOthers}
use Rattle.std.specs.Ordering.{eq_by_cmp, is_eq, nat_cmp}
use Rattle.std.specs.declared.cmp.Ordering.{Ordering}
use Rattle.std.proofs.lemmas.Map.Text.{is_eq-slice_cmp}

-- whether a key has these bytes
abbrev pub has_bytes : List ℕ → Vec ℕ → Bool
has_bytes bytes key = is_eq (slice_cmp nat_cmp bytes key.items)

abbrev by_bytes : Vec ℕ → Vec ℕ → Ordering
by_bytes a b = slice_cmp nat_cmp a.items b.items

-- a change at one key leaves what is found at others
others_stay : {X : Type 0} (key : Vec ℕ) (old new : List (Vec ℕ × X)) → KeepsOthers (eq_by_cmp by_bytes) (has_bytes key.items) old new → (other : Vec ℕ → Bool) → IsKeyTest (eq_by_cmp by_bytes) other
    → AreApart (has_bytes key.items) other → lookup other new ≡ lookup other old
unfolding KeepsOthers
others_stay key old new h = h

-- what stands for a name after one more entry
pub lookup_inserted : {X : Type 0} (bytes : List ℕ) (key : Vec ℕ) (v : X) (old new : List (Vec ℕ × X)) → lookup (has_bytes key.items) new ≡ Some v → KeepsOthers (eq_by_cmp by_bytes) (has_bytes key.items) old new
    → lookup (has_bytes bytes) new ≡ option_or (cond (pointwise nat_eq key.items bytes) (Some v) None) (lookup (has_bytes bytes) old)
lookup_inserted bytes key v old new here others = by (pointwise nat_eq key.items bytes) refl
  where
    by : (b : Bool) → pointwise nat_eq key.items bytes ≡ b → lookup (has_bytes bytes) new ≡ option_or (cond b (Some v) None) (lookup (has_bytes bytes) old)
    by true e = subst (λ (l : List ℕ). lookup (has_bytes l) new ≡ Some v) ((bytes_decides key.items bytes).0 e) here
    by false e =
        others_stay key old new others (has_bytes bytes) (λ x y. (eq_by_cmp_equiv nat_list_cmp_total).congr bytes x.items y.items)
        (λ k t. is_eq-slice_cmp bytes k.items ∙ nat_list_eq_equiv.symm bytes k.items ∙ sym (nat_list_eq_equiv.congr key.items k.items bytes (sym (is_eq-slice_cmp key.items k.items) ∙ t)) ∙ e)
