-- Flashes that are added to others.
use Rattle.layer_state.proofs.Common.{◌≡◌, ◌+◌, cond, Bool, true, false, ℕ, suc, List, [], ◌∷◌, ◌++◌, length, length-append, refl, sym, ap, ◌∙◌, append-nil, append_assoc, arith, cons_option, Flash, Flashes, pads_of, pad_in, is_other, other_count, Adds, keeps_flashes, keeps_pads}
use Rattle.std.proofs.lemmas.List.Elements.{filter_map-append}
use Rattle.std.proofs.lemmas.List.Sums.{sum_by-append}
use Rattle.pad_shapes.specs.declared.pad.Pad.{Pad}
use Rattle.layer_state.specs.declared.flash.What.{What}
use Rattle.layer_state.specs.declared.flash.What.TheVariants as what

-- nothing is kept of nothing
pub kept_none : {A : Type 0} (b : Bool) (xs : List A) → xs ≡ xs ++ cond b [] []
kept_none true xs = sym (append-nil xs)
kept_none false xs = sym (append-nil xs)

-- a list is kept where its parts are
pub kept_append : {A : Type 0} (b : Bool) (xs ys : List A) → cond b (xs ++ ys) [] ≡ cond b xs [] ++ cond b ys []
kept_append true xs ys = refl
kept_append false xs ys = refl

pub kept_pads : (b : Bool) (first more : List Flash) → cond b (pads_of (first ++ more)) [] ≡ cond b (pads_of first) [] ++ cond b (pads_of more) []
kept_pads b first more = ap (λ l. cond b l []) (filter_map-append (λ (f : Flash). pad_in f.what) first more) ∙ kept_append b (pads_of first) (pads_of more)

pub others_append : (first more : List Flash) → other_count (first ++ more) ≡ other_count first + other_count more
others_append first more = sum_by-append (λ (f : Flash). cond (is_other f.what) 1 0) first more

-- a flash is a pad, or it is counted among the others
one_more : (w : What) (pads : List Pad) (n m : ℕ) → length pads + n ≡ m → length (cons_option (pad_in w) pads) + ((0 + cond (is_other w) 1 0) + n) ≡ suc m
one_more (what.Pad pad) pads n m h = omega (arith, h)
one_more (what.Other why) pads n m h = omega (arith, h)

pub pads_and_others : (flashes : List Flash) → length (pads_of flashes) + other_count flashes ≡ length flashes
pads_and_others [] = refl
pads_and_others (flash ∷ flashes) =
    ap (λ n. length (pads_of (flash ∷ flashes)) + n) (others_append (flash ∷ []) flashes) ∙ one_more flash.what (pads_of flashes) (other_count flashes) (length flashes) (pads_and_others flashes)

pub adds_none : (kept : Flashes) → Adds kept [] kept
adds_none kept = record { same = refl; count = omega arith; others = omega arith; pads = kept_none (keeps_pads kept.keep) kept.pads.items; all = kept_none (keeps_flashes kept.keep) kept.all.items }

pub adds_more : (old mid new : Flashes) (first more : List Flash) → Adds old first mid → Adds mid more new → Adds old (first ++ more) new
adds_more old mid new first more a b = record {
  same = b.same ∙ a.same;
  count = omega (arith, a.count, b.count, length-append first more);
  others = omega (arith, a.others, b.others, others_append first more);
  pads = b.pads ∙ (λ i. a.pads i ++ cond (keeps_pads (a.same i)) (pads_of more) []) ∙ append_assoc old.pads.items (cond (keeps_pads old.keep) (pads_of first) []) _ ∙ ap (λ l. old.pads.items ++ l) (sym (kept_pads (keeps_pads old.keep) first more));
  all = b.all ∙ (λ i. a.all i ++ cond (keeps_flashes (a.same i)) more []) ∙ append_assoc old.all.items (cond (keeps_flashes old.keep) first []) _ ∙ ap (λ l. old.all.items ++ l) (sym (kept_append (keeps_flashes old.keep) first more));
}
