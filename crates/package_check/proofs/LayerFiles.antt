-- The copper files of a board.
use Rattle.package_check.proofs.Common.{◌≡◌, ◌+◌, ◌∙◌, ◌∷◌, ℕ, suc, List, [], length, ap, refl, sym, enumerate_from, flat_map, flat_map-cons, BoardView, Content, index_of, pads_of, ◌++◌, LayersHaveFiles}
use Rattle.package_check.specs.declared.contents.Content.TheVariants as content

-- each copper file is one layer, and has one index
pub indexed_from : (n : ℕ) (contents : List Content) → length (flat_map pads_of contents) ≡ length (flat_map index_of (enumerate_from n contents))
indexed_from n [] = refl
indexed_from n (c ∷ cs) = ap length (flat_map-cons pads_of c cs) ∙ (by c (indexed_from (n + 1) cs) ∙ sym (ap length (flat_map-cons index_of (n, c) (enumerate_from (n + 1) cs))))
  where
    by : (d : Content) → length (flat_map pads_of cs) ≡ length (flat_map index_of (enumerate_from (n + 1) cs)) → length (pads_of d ++ flat_map pads_of cs) ≡ length (index_of (n, d) ++ flat_map index_of (enumerate_from (n + 1) cs))
    by (content.Layer image) is = ap suc is
    by d is = is

pub layers_have_files : LayersHaveFiles
layers_have_files sources board b = ap (λ (x : BoardView). length x.layers) b.is ∙ (indexed_from 0 b.contents ∙ sym (ap (λ (x : BoardView). length x.layer_indexes) b.is))
