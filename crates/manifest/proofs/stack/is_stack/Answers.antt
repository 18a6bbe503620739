use Rattle.manifest.proofs.Common.{◌∙◌, ap, IsNonDecreasingBy-from_sort, are_one_to_n}
use Rattle.manifest.proofs.OneToN.{counted_moves}
use Rattle.manifest.proofs.stack.is_stack.Goals as goal

pub ascend_from_one-requires : goal.ascend_from_one-requires
ascend_from_one-requires c = rw c.deref.ensures.value (IsNonDecreasingBy-from_sort (λ n. n) c.sort_unstable.new.self.items c.sort_unstable.ensures.sorted)

pub returns : goal.returns
returns c =
    c.ascend_from_one.ensures ∙ ap are_one_to_n c.deref.ensures.value ∙ counted_moves c.in_ok-layers.layers.items c.sort_unstable.new.self.items c.sort_unstable.ensures.permutation ∙ ap are_one_to_n c.in_ok-layers.ensures
