-- What is flashed at the origin, moved to each copy.
use Rattle.layer_state.proofs.Common.{◌≡◌, ◌∙◌, [], List, None, map, ap, subst, OnOk, option_map_or, Flash, current_aperture, copies, copies_at, aperture_flashes, flash_moved, Adds, state_of}
use Rattle.layer_state.proofs.MovedFlashes.{flashes_moved}
use Rattle.layer_state.proofs.state.State.flash.Goals as goal

pub returns-clause-flashes : goal.returns-clause-flashes
returns-clause-flashes c =
    let s = state_of c.args.self.now in
    let all : map (flash_moved c.what-what.result) (copies c.grid-grid.result) ≡ option_map_or (aperture_flashes s None None) (current_aperture s) [] =
    (λ i. map (flash_moved (c.what-what.ensures i)) (copies (c.grid-grid.ensures.value i))) ∙ flashes_moved s c.in-Some.aperture (copies_at s None None) ∙ ap (λ o. option_map_or (aperture_flashes s None None) o []) c.in-Some.ensures in
    subst (λ (l : List Flash). OnOk c.lay.result (Adds c.args.self.now.flashes l c.lay.new.self)) all c.lay.ensures
