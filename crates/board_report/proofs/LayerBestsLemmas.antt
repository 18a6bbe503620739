-- The best pads of the layers of a board, layer by layer.
use Rattle.board_report.proofs.Common.{◌≡◌, ℕ, ◌+◌, ◌++◌, ◌∷◌, inl, inr, List, [], Option, get_or, map, refl, sym, subst, ap, ◌∙◌, arith, Vec, cases_lt, get_or_append_left, get_or_push, length-append, map_push, wide_pad_covers, AreBestPads, BestPad, BoardView, AreLayerBests}

module _ (board : BoardView) where
  -- no layer yet
  pub none_kept : AreLayerBests board 0 []
  none_kept = record { size = refl; each = λ layer l. absurd (omega (arith, l)) }

  next_kept : (count : ℕ) (old : List (List (Option BestPad))) (bests : List (Option BestPad)) → AreLayerBests board count old → AreBestPads wide_pad_covers (get_or board.layers count []) board.holes bests → AreLayerBests board (count + 1) (old ++ bests ∷ [])
  next_kept count old bests was is = record {
    size = (let size = length-append old (bests ∷ []) in omega (arith, size, was.size));
    each = λ layer l. elim (cases_lt layer count) [
      | inl low ↦ subst (λ (b : List (Option BestPad)). AreBestPads wide_pad_covers (get_or board.layers layer []) board.holes b) (sym (get_or_append_left old (bests ∷ []) [] layer (omega (arith, low, was.size)))) (was.each layer low)
      | inr high ↦ (
          let last : count ≡ layer = omega (arith, l, high) in
          subst (λ (n : ℕ). AreBestPads wide_pad_covers (get_or board.layers n []) board.holes (get_or (old ++ bests ∷ []) n [])) last
          (subst (λ (b : List (Option BestPad)). AreBestPads wide_pad_covers (get_or board.layers count []) board.holes b) (sym (get_or_push old bests [] count was.size)) is))
    ];
  }

  -- the best pads of one more layer
  pub one_more : (count : ℕ) (old new : List (Vec (Option BestPad))) (bests : Vec (Option BestPad)) → new ≡ old ++ bests ∷ [] → AreLayerBests board count (map (λ b. b.items) old)
      → AreBestPads wide_pad_covers (get_or board.layers count []) board.holes bests.items → AreLayerBests board (count + 1) (map (λ b. b.items) new)
  one_more count old new bests e was is =
      subst (AreLayerBests board (count + 1)) (sym (ap (map (λ b. b.items)) e ∙ map_push (λ b. b.items) old bests)) (next_kept count (map (λ b. b.items) old) bests.items was is)

  -- the best pads of all layers
  pub all_kept : (count all : ℕ) (bests : List (List (Option BestPad))) → count ≡ all → AreLayerBests board count bests → AreLayerBests board all bests
  all_kept count all bests e is = subst (λ (n : ℕ). AreLayerBests board n bests) e is
