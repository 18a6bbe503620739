-- What a file says by the grammar of its format, it says once.
use Rattle.package_check.proofs.Common.{◌≡◌, List, map, ap, sym, subst, ◌∙◌, GridHole, Drilled, Command, Profile, Strict, Wide, WidePad, LayerSpan, CalledIsListed, Role, holes_with_platings, plain, DrillCommand, AreDrilledBy, format_in, HolesAreSaidOnce, MakePads, PadsAreSaidOnce, TextsSpellOneListIn, WidePadsAreUnique, PadsAreUnique, AreHoles, DrillsAtMostOneList, IsTextOfAtMostOne}
use Rattle.std.specs.Prelude.{Option}
use Rattle.manifest.specs.declared.Role.TheVariants as role

makes_once : PadsAreUnique → WidePadsAreUnique → (profile : Profile) (commands : List Command) (a b : List WidePad) → MakePads profile commands a → MakePads profile commands b → a ≡ b
makes_once one_list wide_list Strict commands a b h k = h.2 ∙ (ap (map plain) (one_list commands h.0 k.0 h.1 k.1) ∙ sym k.2)
makes_once one_list wide_list Wide commands a b h k = wide_list commands a b h k

pub pads_once : TextsSpellOneListIn → PadsAreUnique → WidePadsAreUnique → PadsAreSaidOnce
pads_once one_text one_list wide_list file a b s t =
    let same : s.commands ≡ t.commands = one_text file.setting.profile file.bytes s.commands t.commands s.written t.written in
    makes_once one_list wide_list file.setting.profile t.commands a b (subst (λ (cs : List Command). MakePads file.setting.profile cs a) same s.made) t.made

-- the platings of the holes of these commands are said once
drilled_once : CalledIsListed → (q : Role) (span : Option LayerSpan) (commands : List DrillCommand) (holes : List GridHole) (a b : List Drilled) → AreDrilledBy q span commands holes a → AreDrilledBy q span commands holes b → a ≡ b
drilled_once listed role.Mixed span commands holes a b h k = h.2 ∙ (ap (holes_with_platings span holes) (listed commands h.0 h.1 ∙ sym (listed commands k.0 k.1)) ∙ sym k.2)
drilled_once listed q span commands holes a b h k = h ∙ sym k

pub holes_once : IsTextOfAtMostOne → DrillsAtMostOneList → CalledIsListed → HolesAreSaidOnce
holes_once one_text one_list listed file a b s t =
    let same : s.commands ≡ t.commands = one_text file.setting.profile (format_in file.setting.profile file.said.format) file.bytes s.commands t.commands s.written t.written in
    let holes : s.holes ≡ t.holes = one_list t.commands s.holes t.holes (subst (λ (cs : List DrillCommand). AreHoles cs s.holes) same s.made) t.made in
    let moved : AreDrilledBy file.role file.said.span t.commands s.holes a = subst (λ (cs : List DrillCommand). AreDrilledBy file.role file.said.span cs s.holes a) same s.is in
    drilled_once listed file.role file.said.span t.commands t.holes a b (subst (λ (hs : List GridHole). AreDrilledBy file.role file.said.span t.commands hs a) holes moved) t.is
