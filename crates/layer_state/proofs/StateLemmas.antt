-- A judge that has taken in one more command knows it.
use Rattle.layer_state.proofs.Common.{◌≡◌, ◌+◌, ℕ, ℤ, Option, None, option_map_or, Action, Current, GraphicsState, ◌≤◌, copies_at, list_any, is_far_pad, is_far_point, flashes_too_far, reaches_too_far, makes_too_many_flashes, or_is_false, ltb-false, current_after, current_aperture, state_with, cond, true, is_flash, List, [], ◌∷◌, ◌++◌, length, length-append, pos, false, sym, ap, subst, ◌∙◌, append_assoc, Flash, Flashes, KeptParts, flash_count, keeps_flashes, keeps_pads, KeepsFlashes, Adds, Command, State, state_after, no_repeat, unit_set, format_set, region_set, definition_set, defines_macro, aperture_selected, x_set, y_set, turn_set, scale_set, block_set, first_broken, added_flashes, flashes_of, pads_of, other_count, IsStateAfter, Applies, after, state_of, last_set, last_set-more, last_or-more, with_prefixes, with_prefixes-append, Defined, aperture_at, has_name, defined_numbered, defined_set, macro_named, macro_set, option_or, keeps_shapes, list_any-more, flat_positions-more, refl, Profile, Strict, Wide, is_allowed_again, may_define_again, profile_of, template_at, template_numbered, template_set, broken_rule_in}
use Rattle.layer_state.specs.Rules.{max_flashes}
use Rattle.layer_state.proofs.RulesLemmas.{few_flashes, near_flash, not_too_far, not_too_many}
use Rattle.layer_state.proofs.KeptFlashesLemmas.{kept_append, kept_pads, others_append}
use Rattle.gerber_commands.specs.Pieces.{unit_scale}
use Rattle.gerber_commands.specs.declared.command.Command.TheVariants as command
use Rattle.gerber_commands.specs.declared.command.Template.{Template}

-- the state after one more command
pub state_after-more : (before : List Command) (c : Command) → state_after (before ++ c ∷ []) ≡ after c (state_after before)
state_after-more before c = λ i. record {
  unit = last_set-more unit_set before c i;
  format = last_set-more format_set before c i;
  in_region = last_or-more region_set false before c i;
  definition = λ number. last_set-more (definition_set number) before c i;
  has_macro = λ name. list_any-more (defines_macro name) before c i;
  selected = last_set-more aperture_selected before c i;
  x = last_or-more x_set (pos 0) before c i;
  y = last_or-more y_set (pos 0) before c i;
  turn = last_or-more turn_set (pos 0) before c i;
  scale = last_or-more scale_set unit_scale before c i;
  block = last_or-more block_set no_repeat before c i;
}

-- the aperture of a number after one more command
pub defined_numbered-more : (before : List Command) (c : Command) (number : ℕ) → defined_numbered (before ++ c ∷ []) number ≡ option_or (defined_set (last_set unit_set before) (macro_named before) number c) (defined_numbered before number)
defined_numbered-more before c number =
    let sets : List Command × Command → Option Defined = λ p. defined_set (last_set unit_set p.0) (macro_named p.0) number p.1 in
    ap (last_set sets) (with_prefixes-append before (c ∷ [])) ∙ last_set-more sets (with_prefixes before) (before, c)

-- the judge once the point of an operation is the current one
pub at_point : (old : State) (now : Current) (action : Action) (x y i j : Option ℤ) → now ≡ current_after (command.Operate action x y i j) old.current
    → state_with now (aperture_at old.apertures) (has_name old.macros) ≡ after (command.Operate action x y i j) (state_of old)
at_point old now action x y i j h = λ k. state_with (h k) (aperture_at old.apertures) (has_name old.macros)

-- a flash at the current point is near, and its copies are not too many
pub record FlashFits (s : GraphicsState) (count : ℕ) : Type 0 where
  pub points : list_any is_far_point (copies_at s None None) ≡ false
  pub pad : option_map_or (is_far_pad s) (current_aperture s) false ≡ false
  pub few : count + length (copies_at s None None) ≤ max_flashes

-- so it is with one that breaks no rule, once its point is the current one
pub flash_fits : (old : State) (now : Current) (c : Command) (action : Action) (x y i j : Option ℤ) → first_broken (is_allowed_again old.apertures c) (state_of old) (flash_count old.flashes) c ≡ None → now ≡ current_after c old.current
    → c ≡ command.Operate action x y i j → is_flash action ≡ true → FlashFits (state_with now (aperture_at old.apertures) (has_name old.macros)) (flash_count old.flashes)
flash_fits old now c action x y i j legal is what flash =
    let s = state_of old in
    let count = flash_count old.flashes in
    let near : flashes_too_far s x y ≡ false = near_flash s action x y i j (subst (λ (d : Command). reaches_too_far s d ≡ false) what (not_too_far (is_allowed_again old.apertures c) s count c legal)) flash in
    let both = or_is_false (list_any is_far_point (copies_at s x y)) (option_map_or (is_far_pad s) (current_aperture s) false) near in
    let few = ltb-false _ _ (few_flashes s count action x y i j (subst (λ (d : Command). makes_too_many_flashes s count d ≡ false) what (not_too_many (is_allowed_again old.apertures c) s count c legal)) flash) in
    subst (λ (t : GraphicsState). FlashFits t count) (sym (at_point old now action x y i j (is ∙ ap (λ (d : Command). current_after d old.current) what))) (record { points = both.0; pad = both.1; few = few })

-- by equal templates a command may define the same again, and in the strict profile by whatever templates
same_again : (p q : Profile) (f g : ℕ → Option Template) (c : Command) → p ≡ q → (q ≡ Wide → f ≡ g) → may_define_again p f c ≡ may_define_again q g c
same_again p Strict f g c same equal = ap (λ (r : Profile). may_define_again r f c) same
same_again p Wide f g c same equal = λ i. may_define_again (same i) (equal refl i) c

-- the rule that a command breaks after these is the one that the judge finds
pub same_rule : (state : State) (parts : KeptParts) (before : List Command) (c : Command) → IsStateAfter state parts before
    → first_broken (is_allowed_again state.apertures c) (state_of state) (flash_count state.flashes) c ≡ broken_rule_in parts.profile before c
same_rule state parts before c is_state =
    let again = same_again (profile_of state.apertures) parts.profile (template_at state.apertures) (template_numbered before) c is_state.profile is_state.templates in
    λ i. first_broken (again i) (is_state.state_after i) (is_state.flashes.count i) c

-- what is kept of some flashes, and of those that are added
pub keeps_more : (old new : Flashes) (parts : KeptParts) (first more : List Flash) → KeepsFlashes old parts first → Adds old more new → KeepsFlashes new parts (first ++ more)
keeps_more old new parts first more keeps adds = record {
  same = adds.same ∙ keeps.same;
  count = adds.count ∙ (λ i. keeps.count i + length more) ∙ sym (length-append first more);
  others = adds.others ∙ (λ i. keeps.others i + other_count more) ∙ sym (others_append first more);
  pads = ap (λ l. parts.taken ++ l) adds.pads ∙ sym (append_assoc parts.taken old.pads.items _) ∙ (λ i. keeps.pads i ++ cond (keeps_pads (keeps.same i)) (pads_of more) []) ∙ sym (kept_pads (keeps_pads parts.keep) first more);
  all = ap (λ l. parts.dropped ++ l) adds.all ∙ sym (append_assoc parts.dropped old.all.items _) ∙ (λ i. keeps.all i ++ cond (keeps_flashes (keeps.same i)) more []) ∙ sym (kept_append (keeps_flashes parts.keep) first more);
}

pub state_after_one_more : (old new : State) (parts : KeptParts) (before : List Command) (c : Command) → IsStateAfter old parts before → Applies old c new → IsStateAfter new parts (before ++ c ∷ [])
state_after_one_more old new parts before c is_state takes =
    let fs : flashes_of before ++ added_flashes (state_of old) c ≡ flashes_of (before ++ c ∷ []) =
    (λ i. flashes_of before ++ added_flashes (is_state.state_after i) c) ∙ sym (flat_positions-more (λ first d. added_flashes (state_after first) d) before c) in
    let same : keeps_shapes old.flashes.keep ≡ keeps_shapes parts.keep = ap keeps_shapes is_state.flashes.same in
    record {
      state_after = takes.state_after ∙ ap (after c) is_state.state_after ∙ sym (state_after-more before c);
      profile = takes.profile ∙ is_state.profile;
      templates = λ wide.
          takes.templates (is_state.profile ∙ wide) ∙ (λ i number. option_or (template_set number c) (is_state.templates wide i number)) ∙ sym (λ i number. last_set-more (template_set number) before c i);
      macros = λ asked. takes.macros (same ∙ asked) ∙ (λ i name. option_or (macro_set name c) (is_state.macros asked i name)) ∙ sym (λ i name. last_set-more (macro_set name) before c i);
      apertures = λ asked.
          takes.apertures (same ∙ asked) ∙ (λ i number. option_or (defined_set (is_state.state_after i).unit (is_state.macros asked i) number c) (is_state.apertures asked i number)) ∙ sym (λ i number. defined_numbered-more before c number i);
      flashes = subst (KeepsFlashes new.flashes parts) fs (keeps_more old.flashes new.flashes parts (flashes_of before) (added_flashes (state_of old) c) is_state.flashes takes.flashes);
    }
