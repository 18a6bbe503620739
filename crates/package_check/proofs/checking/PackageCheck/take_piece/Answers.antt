use Rattle.package_check.proofs.Common.{◌++◌, ℕ, ap, subst, sym, ◌∙◌, CheckView, is_wanted, HasReadCopper}
use Rattle.package_check.specs.CheckViews.{holes_of}
use Rattle.package_check.proofs.checking.PackageCheck.take_piece.Goals as goal

pub returns : goal.returns
returns c = λ start index layer said text h.
    let file = c.args.file.now in
    let view = c.self.view_is in
    let inside = c.self.inside in
    let after = c.read.new.self in
    record {
      same_index = c.read.ensures.index ∙ h.same_index;
      same_layer = c.read.ensures.layer ∙ h.same_layer;
      same_layers = ap (λ (v : CheckView). v.layers) view ∙ h.same_layers;
      same_holes = c.read.ensures.holes ∙ (ap (λ (v : CheckView). v.holes) view ∙ h.same_holes);
      same_rules = c.read.ensures.rules ∙ (ap (λ (v : CheckView). v.rules) view ∙ h.same_rules);
      same_slots = ap (λ (v : CheckView). v.slots) view ∙ h.same_slots;
      same_stop = ap (λ (v : CheckView). v.stopped) view ∙ h.same_stop;
      reads = λ on.
          let was = h.reads (sym (ap (λ (v : CheckView). is_wanted v.stopped index) view) ∙ on) in
          let within = subst (λ (v : CheckView). HasReadCopper (holes_of v) layer said v.layers file.reading text) (sym view) was in
          let own = subst (λ (k : ℕ). HasReadCopper inside.holes k said inside.layers file.reading text) (sym h.same_layer) within in
          subst (λ (k : ℕ). HasReadCopper c.read.new.holes k said inside.layers after.reading (text ++ c.args.piece.now)) h.same_layer (c.read.ensures.read said inside.layers text own);
    }
