-- The nodes of a tree over spots, and marks in them.
use Rattle.ring_rules.proofs.Common.{◌≡◌, ℕ, ◌+◌, ◌<◌, ◌≤◌, inl, inr, Bool, true, false, List, [], ◌∷◌, ◌++◌, length, get_or, set, refl, sym, ap, subst, ◌∙◌, arith, not, cases_eq, cases_lt, get_or-set_same, get_or-set_other, get_or_append_left, get_or_push, length_push, length-set, is_marked, RemovesMarks, HasNoMarkFrom, NoMarkPassesFrom, AreMarksOver, AreNodes, IsNode, default_node, node_at, point_at, GridPoint, IsInZone, Node, RingIndex, Spot, either}
use Rattle.pad_shapes.specs.declared.zone.Zone.{Zone}

unmarked_still : (test : ℕ → Bool) (a b : List Bool) → RemovesMarks test a b → (k : ℕ) → is_marked a k ≡ false → is_marked b k ≡ false
unmarked_still test a b removes k none = elim (either (is_marked b k)) [
  | inl still ↦ absurd (let e : true ≡ false = sym (removes.kept k still) ∙ none in cc)
  | inr gone ↦ gone
]

pub not_is_true : (b : Bool) → not b ≡ true → b ≡ false
not_is_true true e = absurd cc
not_is_true false e = refl

-- two runs, of which the second begins where the first ends, or before
pub passes_both : (test : ℕ → Bool) (start middle from end : ℕ) (a b : List Bool) → RemovesMarks test a b → from ≤ middle → NoMarkPassesFrom test start middle a → NoMarkPassesFrom test from end b → NoMarkPassesFrom test start end b
passes_both test start middle from end a b removes less before here i at below marked = elim (cases_lt i middle) [
  | inl early ↦ before i at early (removes.kept i marked)
  | inr late ↦ here i (omega (arith, less, late)) below marked
]

-- fewer marks over the same index
pub still_over : (index : RingIndex) (test : ℕ → Bool) (open_nodes a b : List Bool) → RemovesMarks test a b → AreMarksOver index open_nodes a → AreMarksOver index open_nodes b
still_over index test open_nodes a b removes over = record {
  ready = over.ready;
  size = removes.size ∙ over.size;
  open_nodes = over.open_nodes;
  closed = λ i h is k from below. unmarked_still test a b removes k (over.closed i h is k from below);
}

-- one more node that may be closed
pub over_more : (index : RingIndex) (open_nodes marks : List Bool) (i : ℕ) (is_open : Bool) → i < length open_nodes → AreMarksOver index open_nodes marks
    → (is_open ≡ false → HasNoMarkFrom (node_at index.cells.nodes.items i).run.start (node_at index.cells.nodes.items i).run.end marks) → AreMarksOver index (set open_nodes i is_open) marks
over_more index open_nodes marks i is_open inside over none = record {
  ready = over.ready;
  size = over.size;
  open_nodes = length-set open_nodes i is_open ∙ over.open_nodes;
  closed = λ j h is. elim (cases_eq j i) [
    | inl e ↦ subst (λ (n : ℕ). HasNoMarkFrom (node_at index.cells.nodes.items n).run.start (node_at index.cells.nodes.items n).run.end marks) (sym e)
        (none (sym (get_or-set_same open_nodes i is_open false inside) ∙ (ap (λ (n : ℕ). get_or (set open_nodes i is_open) n false) (sym e) ∙ is)))
    | inr d ↦ over.closed j h (sym (get_or-set_other open_nodes i j is_open false d) ∙ is)
  ];
}

module _ (spots : List Spot) where
  -- a zone with two zones that contain the entry points of the spots up to one, and from it on
  pub holds_both : (start middle end : ℕ) (a b both : Zone) → ((p : GridPoint) → IsInZone a p → IsInZone both p) → ((p : GridPoint) → IsInZone b p → IsInZone both p)
      → ((k : ℕ) → start ≤ k → k < middle → IsInZone a (point_at spots k)) → ((k : ℕ) → middle ≤ k → k < end → IsInZone b (point_at spots k)) → (k : ℕ) → start ≤ k → k < end → IsInZone both (point_at spots k)
  holds_both start middle end a b both in_first in_second first second k from below = elim (cases_lt k middle) [
    | inl less ↦ in_first (point_at spots k) (first k from less)
    | inr more ↦ in_second (point_at spots k) (second k more below)
  ]

  module _ (nodes : List Node) (at : ℕ) (node : Node) (are : AreNodes spots nodes) (is : IsNode spots at node) where
    pub nodes_pushed : length nodes ≡ at → AreNodes spots (nodes ++ node ∷ [])
    nodes_pushed last i h = elim (cases_lt i (length nodes)) [
      | inl less ↦ subst (IsNode spots i) (sym (get_or_append_left nodes (node ∷ []) default_node i less)) (are i less)
      | inr more ↦
          let e : i ≡ at = omega (arith, h, more, last, length_push nodes node) in
          subst (IsNode spots i) (sym (get_or_push nodes node default_node i (last ∙ sym e))) (subst (λ (n : ℕ). IsNode spots n node) (sym e) is)
    ]

    pub nodes_set : at < length nodes → AreNodes spots (set nodes at node)
    nodes_set inside i h = elim (cases_eq i at) [
      | inl e ↦ subst (λ (n : ℕ). IsNode spots n (node_at (set nodes at node) n)) (sym e) (subst (IsNode spots at) (sym (get_or-set_same nodes at node default_node inside)) is)
      | inr d ↦ subst (IsNode spots i) (sym (get_or-set_other nodes at i node default_node d)) (are i (omega (arith, h, length-set nodes at node)))
    ]
