-- Which holes are bare, by their best pads or where no pad is near.
use Rattle.board.proofs.Common.{◌≡◌, ◌↔◌, ℕ, ◌<◌, ◌+◌, inl, inr, Bool, true, false, Option, Some, None, List, [], ◌∷◌, length, map, get_or, refl, sym, subst, ap, ◌∙◌, arith, cases_lt, get_or-map, get_or-replicate, length-map, length-replicate, list_all, replicate, GridPoint, GridHole, covers_both_ends, CoversNone, Zone, default_hole, hole_at, Drilled, IsBare, IsBestPad, AreBestPads, AreBare, has_no_best_pad, BestPad}
use Rattle.std.proofs.lemmas.List.Folds.{list_all_at}
use Rattle.board.specs.Inner.Zones.{CoversNothing}

never : {P : Type 0} (b : Bool) → b ≡ true → b ≡ false → P
never b e f = absurd (let g : true ≡ false = sym e ∙ f in cc)

some_of : {S : Type 0} (xs : List S) (k : ℕ) → k < length xs → S
some_of [] k h = absurd (omega (arith, h))
some_of (x ∷ xs) k h = x

module _ {S : Type 0} (covers : S → GridPoint → ℕ → Bool) where
  told : (pads : List S) (h : GridHole) (b : Option BestPad) → IsBestPad covers pads h b → (has_no_best_pad b ≡ true) ↔ IsBare covers pads h
  told pads h None bare = (λ e. bare, λ e. refl)
  told pads h (Some best) is = (λ e. absurd cc, λ bare. held bare) where
    held : IsBare covers pads h → has_no_best_pad (Some best) ≡ true
    held none =
        let p : S = some_of pads best.pad is.inside in
        never (covers_both_ends covers (get_or pads best.pad p) h.from h.to best.depth) (is.covered p) (none p best.pad best.depth is.inside)

  -- which of some holes are bare
  pub bare_by_bests : (pads : List S) (holes : List Drilled) (bests : List (Option BestPad)) → AreBestPads covers pads holes bests → AreBare covers pads holes (map has_no_best_pad bests)
  bare_by_bests pads holes bests all = record {
    size = length-map bests has_no_best_pad ∙ all.size;
    each = λ k h.
        let size = all.size in
        let is : get_or (map has_no_best_pad bests) k false ≡ has_no_best_pad (get_or bests k None) = get_or-map has_no_best_pad bests k None false (omega (arith, h, size)) in
        let tells = told pads (hole_at holes k) (get_or bests k None) (all.each k h) in (λ e. tells.0 (sym is ∙ e), λ bare. is ∙ tells.1 bare);
  }

  -- holes that one pad covers at both ends are not bare
  pub none_bare : (pads : List S) (holes : List Drilled) (place : ℕ) (pad : S) → place < length pads → ((s : S) → get_or pads place s ≡ pad) → list_all (λ d. covers_both_ends covers pad d.hole.from d.hole.to 0) holes ≡ true → AreBare covers pads holes (replicate (length holes) false)
  none_bare pads holes place pad inside is all = record {
    size = length-replicate (length holes) false;
    each = λ k h. (
      λ e. never false (sym (get_or-replicate (length holes) k false false h) ∙ e) refl,
      λ bare. never true refl (sym all ∙ list_all_at (λ (d : Drilled). covers_both_ends covers pad d.hole.from d.hole.to 0) holes k default_hole h (ap (λ s. covers_both_ends covers s (hole_at holes k).from (hole_at holes k).to 0) (sym (is pad)) ∙ bare pad place 0 inside)),
    );
  }

-- one more pad that covers nothing of a zone
pub none_more : {S : Type 0} (covers : S → GridPoint → ℕ → Bool) (pads : List S) (count : ℕ) (pad : S) (zone : Zone) → ((s : S) → get_or pads count s ≡ pad) → CoversNothing covers pads count zone → CoversNone covers pad 0 zone → CoversNothing covers pads (count + 1) zone
none_more covers pads count pad zone is none next s k h = elim (cases_lt k count) [
  | inl less ↦ none s k less
  | inr more ↦
      let last : k ≡ count = omega (arith, h, more) in subst (λ x. CoversNone covers x 0 zone) (sym (ap (λ (n : ℕ). get_or pads n s) last ∙ is s)) next
]
