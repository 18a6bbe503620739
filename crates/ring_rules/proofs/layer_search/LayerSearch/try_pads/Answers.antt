use Rattle.ring_rules.proofs.Common.{◌≡◌, ℕ, ◌<◌, Bool, List, ◌++◌, map, length, sym, subst, ◌∙◌, ◌&&◌, not, list_any, with_items_is, is_ring_finding, spot_at, GridRules, AreMarkedBy, Covering, is_marked, gives_ring, AreMarksOver, Spot}
use Rattle.std.specs.Vec.{with_items}
use Rattle.ring_rules.proofs.MarksAfterPads.{marked_more}
use Rattle.ring_rules.proofs.TriedPads.{marked_by_coverings}
use Rattle.ring_rules.proofs.layer_search.LayerSearch.try_pads.Goals as goal

pub returns-clause-over : goal.returns-clause-over
returns-clause-over g c =
    let marks : (with_items c.args.self.now.marks c.try_pads.new.marks).items ≡ c.try_pads.new.marks =
    with_items_is c.args.self.now.marks c.try_pads.new.marks (c.try_pads.auto.marks ∙ c.deref_mut-2.ensures.len) in
    let opened : (with_items c.args.self.now.open_nodes c.try_pads.new.open_nodes).items ≡ c.try_pads.new.open_nodes =
    with_items_is c.args.self.now.open_nodes c.try_pads.new.open_nodes (c.try_pads.auto.open_nodes ∙ c.deref_mut.ensures.len) in
    subst (λ (ms : List Bool). AreMarksOver c.args.index.now (with_items c.args.self.now.open_nodes c.try_pads.new.open_nodes).items ms) (sym marks)
    (subst (λ (os : List Bool). AreMarksOver c.args.index.now os c.try_pads.new.marks) (sym opened) c.try_pads.ensures.over)

pub returns-clause-tried : goal.returns-clause-tried
returns-clause-tried g c = λ holes layer tried was.
    let index = c.args.index.now in
    let spots : List Spot = c.args.index.now.cells.spots in
    let rules : GridRules = c.args.index.now.rules in
    let more : List Covering = map g.S.PadShape.covers c.args.more.now in
    let now : List Bool = c.try_pads.new.marks in
    let marks : (with_items c.args.self.now.marks c.try_pads.new.marks).items ≡ c.try_pads.new.marks =
    with_items_is c.args.self.now.marks c.try_pads.new.marks (c.try_pads.auto.marks ∙ c.deref_mut-2.ensures.len) in
    let marked = subst (λ (ms : List Bool). (i : ℕ) → i < length spots → is_marked now i ≡ (is_marked ms i && not (list_any (gives_ring g.S.PadShape.covers c.args.index.now.rules.profile c.args.index.now.rules.ring (spot_at spots i).hole) c.args.more.now))) c.deref_mut-2.ensures.value c.try_pads.ensures.marked in
    record {
      listed = was.listed;
      over = returns-clause-over g c;
      same_layer = was.same_layer;
      marks = subst (λ (ms : List Bool). AreMarkedBy (is_ring_finding (λ covering. covering) c.args.index.now.rules.profile c.args.index.now.rules.ring layer (tried ++ map g.S.PadShape.covers c.args.more.now)) holes index ms) (sym marks)
          (marked_more (λ covering. covering) rules.profile rules.ring layer holes spots was.listed.listed c.args.self.now.marks.items now tried more was.marks
          (marked_by_coverings g.S.PadShape.covers rules.profile rules.ring spots c.args.self.now.marks.items now c.args.more.now marked));
    }
