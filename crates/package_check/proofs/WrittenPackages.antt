-- What is sound by what is read of it is sound by what is written.
use Rattle.package_check.proofs.Common.{◌≡◌, ◌↔◌, ◌⊎◌, inl, inr, ◌<◌, ℕ, zero, suc, Bool, true, false, not, ◌||◌, ◌&&◌, leb, List, [], ◌∷◌, ◌++◌, map, length, get_or, refl, sym, ap, subst, ◌∙◌, arith, AllZip, Contains, filter, flat_map, leb-true, flat_map-cons, Contains-append_cases, GridHole, LayerSpan, is_in_span, Profile, Strict, Wide, WidePad, Drilled, AreAllApart, Command, without_places, KindsReadTheSame, ListedIsCalled, plated_of, ReadsBy, ReadsIn, by_role, Fault, CoordinateFormat, DrillCommand, Role, Said, DrillView, LayerView, plain, HasLayerView, ReadsDrill, drill_kind, format_in, mixed_kind, is_copper_function, Content, FileView, Setting, HasContent, HasDrillContent, HasMixedContent, HaveContents, is_bad_span, is_copper, layers, pads_of, AreDrilledBy, IsRun, MakePads, SaysHoles, SaysPads, IsPlatedThrough, SoundAsReadIsSound, drilled_in, SpelledTextsAreWrittenIn, LegalWidePads, LayerPads, ListedHolesAreDrilled, ReadIsWritten, SpelledIsWritten, WideHolesAreDrilled, AreHoles}
use Rattle.std.specs.Prelude.{Option, None, Some, Result, Ok}
use Rattle.grid_units.specs.Lists.{last_set}
use Rattle.gerber_text.specs.Grammar.{IsTextIn}
use Rattle.layer_features.specs.WidePads.{AreWidePads}
use Rattle.layer_state.specs.FileFunction.{function_set}
use Rattle.layer_state.specs.Flashes.{flashes_of}
use Rattle.layer_image.proofs.KeptLemmas.{plain_of_flashes}
use Rattle.drill_text.specs.Grammar.{IsText}
use Rattle.drill_text.specs.Holes.{holes_of}
use Rattle.drill_text.specs.Profiles.{Reads}
use Rattle.drill_text.specs.Texts.{IsDrillText as IsLegalText}
use Rattle.manifest.specs.declared.Role.TheVariants as role
use Rattle.package_check.specs.declared.contents.Content.TheVariants as content

-- ---- spans

run_of : (copper : Bool) (a b c : Bool) → (copper || not (a && (b && c))) ≡ false → (a ≡ true) × (b ≡ true) × (c ≡ true)
run_of false true true true e = (refl, refl, refl)
run_of copper a b c e = absurd cc

-- a span that is not bad is a run of the copper files
good_run : (q : Role) (span : Option LayerSpan) (n : ℕ) → is_bad_span q span n ≡ false → IsRun n span
good_run q None n e = tt
good_run q (Some s) n e =
    let all = run_of (is_copper q) (leb 1 s.first) (leb s.first s.last) (leb s.last n) e in
    (leb-true 1 s.first all.0, leb-true s.first s.last all.1, leb-true s.last n all.2)

-- a copper file has no span
no_span : (span : Option LayerSpan) (n : ℕ) → is_bad_span role.Copper span n ≡ false → span ≡ None
no_span None n e = refl
no_span (Some s) n e = absurd cc

-- ---- the holes of all files

-- the holes of each drill file
abbrev holes_by_file : List Content → List (List Drilled)
holes_by_file [] = []
holes_by_file (content.Layer image ∷ cs) = holes_by_file cs
holes_by_file (c ∷ cs) = drilled_in c ∷ holes_by_file cs

holes_joined : (cs : List Content) → flat_map (λ (one : List Drilled). one) (holes_by_file cs) ≡ flat_map drilled_in cs
holes_joined [] = refl
holes_joined (content.Layer image ∷ cs) = holes_joined cs ∙ sym (flat_map-cons drilled_in (content.Layer image) cs)
holes_joined (c ∷ cs) =
    flat_map-cons (λ (one : List Drilled). one) (drilled_in c) (holes_by_file cs) ∙ (ap (λ (ds : List Drilled). drilled_in c ++ ds) (holes_joined cs) ∙ sym (flat_map-cons drilled_in c cs))

-- the hole of an element of a file's holes is among its holes
pub hole_among : (plated : Bool) (span : Option LayerSpan) (holes : List GridHole) (d : Drilled) → Contains (map (λ (hole : GridHole). let one : Drilled = record { hole = hole; plated = plated; span = span } in one) holes) d
    → Contains holes d.hole × (d.plated ≡ plated) × (d.span ≡ span)
hole_among plated span holes d h = by holes h.0 h.1 h.2
  where
    by : (hs : List GridHole) (k : ℕ) → k < length (map (λ (hole : GridHole). let one : Drilled = record { hole = hole; plated = plated; span = span } in one) hs) → get_or (map (λ (hole : GridHole). let one : Drilled = record { hole = hole; plated = plated; span = span } in one) hs) k d ≡ d
        → Contains hs d.hole × (d.plated ≡ plated) × (d.span ≡ span)
    by [] k lt e = absurd (omega arith)
    by (h ∷ hs) zero lt e = ((0, omega arith, ap (λ (x : Drilled). x.hole) e), sym (ap (λ (x : Drilled). x.plated) e), sym (ap (λ (x : Drilled). x.span) e))
    by (h ∷ hs) (suc k) lt e = let rest = by hs k (omega arith) e in ((suc rest.0.0, (let inside = rest.0.1 in omega arith), rest.0.2), rest.1, rest.2)

-- a hole that goes through a layer in a list of files does so with one file more
through_more : (c : Content) (cs : List Content) (layer : ℕ) (hole : GridHole) → IsPlatedThrough cs layer hole → IsPlatedThrough (c ∷ cs) layer hole
through_more c cs layer hole h = record {
  content = h.content;
  file = (suc h.file.0, (let inside = h.file.1 in omega arith), h.file.2);
  drilled = h.drilled;
  among = h.among;
  same = h.same;
  plated = h.plated;
  through = h.through;
}

-- a plated hole among those of all files is one of some file
is_through : (cs : List Content) (layer : ℕ) (d : Drilled) → Contains (flat_map drilled_in cs) d → d.plated ≡ true → is_in_span layer d.span ≡ true → IsPlatedThrough cs layer d.hole
is_through [] layer d h plated within = absurd (let lt = h.1 in omega arith)
is_through (c ∷ cs) layer d h plated within =
    by (Contains-append_cases (drilled_in c) (flat_map drilled_in cs) d (subst (λ (ds : List Drilled). Contains ds d) (flat_map-cons drilled_in c cs) h)) (λ later. is_through cs layer d later plated within)
  where
    by : Contains (drilled_in c) d ⊎ Contains (flat_map drilled_in cs) d → (Contains (flat_map drilled_in cs) d → IsPlatedThrough cs layer d.hole) → IsPlatedThrough (c ∷ cs) layer d.hole
    by (inr later) rest = through_more c cs layer d.hole (rest later)
    by (inl here) rest = record { content = c; file = (0, omega arith, refl); drilled = d; among = here; same = refl; plated = plated; through = within }

-- ---- one file

module _ (texts : SpelledTextsAreWrittenIn) (layer_pads : LayerPads) (wide_pads : LegalWidePads) (lines : SpelledIsWritten) (listed : ListedHolesAreDrilled) (wide_lines : ReadIsWritten) (wide_listed : WideHolesAreDrilled)
    (drill_texts : (text : List ℕ) (commands : List DrillCommand) → (Reads text (Ok commands)) ↔ (IsLegalText text commands))
    (strictly : (text : List ℕ) (answer : Result (List DrillCommand) Fault) → (ReadsIn Strict text answer) ↔ (Reads text answer)) (same : KindsReadTheSame) (called : ListedIsCalled) where
  made_by : (profile : Profile) (bytes : List ℕ) (image : LayerView) → HasLayerView profile bytes image
      → (commands : List Command) × IsTextIn profile bytes commands × MakePads profile commands image.pads × (is_copper_function (last_set function_set commands) ≡ image.is_copper)
  made_by Strict bytes image h =
      let layer = h.0 in
      let commands = without_places layer.commands in (
        commands,
        texts Strict bytes layer.commands h.1.0.spells,
        (layer.pads, layer_pads bytes layer h.1, ap (λ v. v.pads) h.2 ∙ plain_of_flashes (flashes_of commands) ∙ ap (map plain) (sym (ap (λ l. l.pads) h.1.1))),
        sym (ap (λ v. v.is_copper) h.2),
      )
  made_by Wide bytes image h =
      let commands = without_places h.0.commands in (
        commands,
        texts Wide bytes h.0.commands h.1.0.spells,
        subst (AreWidePads commands) (sym (ap (λ v. v.pads) h.2)) (wide_pads Wide commands h.1.0.legal),
        sym (ap (λ v. v.is_copper) h.2),
      )

  says_pads : (s : FileView) (image : LayerView) → HasLayerView s.setting.profile s.bytes image → image.is_copper ≡ true → s.said.span ≡ None → SaysPads s image.pads
  says_pads s image h copper none =
      let made = made_by s.setting.profile s.bytes image h in
      record { commands = made.0; written = made.1; made = made.2; copper = made.3 ∙ copper; spanless = none }

  drilled_by : (profile : Profile) (format : Option CoordinateFormat) (plated : Bool) (bytes : List ℕ) (drill : DrillView) → ReadsDrill profile format plated bytes (Ok drill) → (commands : List DrillCommand) × IsText profile (format_in profile format) bytes commands × AreHoles commands drill.holes
  drilled_by Strict format plated bytes drill h = (h.0, ((lines bytes h.0).0 h.1.spells).1, subst (λ (d : DrillView). AreHoles h.0 d.holes) (sym h.2) (listed bytes h.0 h.1))
  drilled_by Wide format plated bytes drill h =
      let written = wide_lines format bytes h.0 ((same (drill_kind Wide format plated) bytes h.0).0 h.1).0 in
      (h.0, written.1, subst (λ (d : DrillView). AreHoles h.0 d.holes) (sym h.2) (wide_listed format bytes h.0 written.1 written.2))

  says_holes : (s : FileView) (plated has : Bool) (through : Option LayerSpan) (drill : DrillView) → HasDrillContent s.setting.profile plated s.said s.bytes (content.Drill has through drill)
      → ((commands : List DrillCommand) (drilled : List Drilled) → drilled ≡ map (λ (hole : GridHole). let d : Drilled = record { hole = hole; plated = plated; span = s.said.span } in d) drill.holes → AreDrilledBy s.role s.said.span commands drill.holes drilled)
      → IsRun s.setting.layers s.said.span → SaysHoles s (drilled_in (content.Drill has through drill))
  says_holes s plated has through drill h named run =
      let drilled = drilled_by s.setting.profile s.said.format plated s.bytes drill h.0 in
      record {
        commands = drilled.0;
        written = drilled.1;
        holes = drill.holes;
        made = drilled.2;
        run = run;
        is = named drilled.0 (drilled_in (content.Drill has through drill)) (λ i. map (λ (hole : GridHole). let d : Drilled = record { hole = hole; plated = h.1 i; span = h.2 i } in d) drill.holes);
      }

  -- the commands of a mixed file are those of its text, and drill its holes
  mixed_by : (profile : Profile) (format : Option CoordinateFormat) (bytes : List ℕ) (commands : List DrillCommand) → ReadsBy (by_role profile (format_in profile format)) bytes (Ok commands) → IsText profile (format_in profile format) bytes commands × AreHoles commands (holes_of commands)
  mixed_by Strict format bytes commands h = let d = (drill_texts bytes commands).0 ((strictly bytes (Ok commands)).0 h) in (((lines bytes commands).0 d.spells).1, listed bytes commands d)
  mixed_by Wide format bytes commands h = let written = wide_lines format bytes commands h in (written.1, wide_listed format bytes commands written.1 written.2)

  says_mixed : (name : List ℕ) (said : Said) (bytes : List ℕ) (n : Setting) (through : Option LayerSpan) (holes : List Drilled) → HasMixedContent n.profile said bytes (content.Mixed through holes) → IsRun n.layers said.span
      → SaysHoles (record { role = role.Mixed; name = name; said = said; bytes = bytes; setting = n }) holes
  says_mixed name said bytes n through holes h run =
      let commands = h.0.0 in
      let read = (same (mixed_kind n.profile said.format) bytes commands).0 h.0.1 in
      let text = mixed_by n.profile said.format bytes commands read.0 in
      record {
        commands = commands;
        written = text.0;
        holes = holes_of commands;
        made = text.1;
        run = run;
        is = (plated_of commands, called commands read.1, h.0.2);
      }

  -- what one more file says is among what all say
  one_more_layer : (q : Role) (name : List ℕ) (said : Said) (bytes : List ℕ) (n : Setting) (c : Content) (ss : List FileView) (rest : List (List WidePad))
      → HasContent (record { role = q; name = name; said = said; bytes = bytes; setting = n }) c → AllZip SaysPads (filter (λ s. is_copper s.role) ss) rest
      → AllZip SaysPads (filter (λ s. is_copper s.role) (record { role = q; name = name; said = said; bytes = bytes; setting = n } ∷ ss)) (pads_of c ++ rest)
  one_more_layer role.Copper name said bytes n (content.Layer image) ss rest h all =
      (says_pads (record { role = role.Copper; name = name; said = said; bytes = bytes; setting = n }) image h.1.0 h.1.1 (no_span said.span n.layers h.0), all)
  one_more_layer role.Plated name said bytes n (content.Drill plated through drill) ss rest h all = all
  one_more_layer role.Unplated name said bytes n (content.Drill plated through drill) ss rest h all = all
  one_more_layer role.Mixed name said bytes n (content.Mixed through holes) ss rest h all = all
  one_more_layer q name said bytes n c ss rest h all = absurd h.1

  one_more_drill : (q : Role) (name : List ℕ) (said : Said) (bytes : List ℕ) (n : Setting) (c : Content) (ss : List FileView) (cs : List Content)
      → HasContent (record { role = q; name = name; said = said; bytes = bytes; setting = n }) c → AllZip SaysHoles (filter (λ s. not (is_copper s.role)) ss) (holes_by_file cs)
      → AllZip SaysHoles (filter (λ s. not (is_copper s.role)) (record { role = q; name = name; said = said; bytes = bytes; setting = n } ∷ ss)) (holes_by_file (c ∷ cs))
  one_more_drill role.Copper name said bytes n (content.Layer image) ss cs h all = all
  one_more_drill role.Plated name said bytes n (content.Drill plated through drill) ss cs h all =
      (says_holes (record { role = role.Plated; name = name; said = said; bytes = bytes; setting = n }) true plated through drill h.1 (λ commands drilled is. is) (good_run role.Plated said.span n.layers h.0), all)
  one_more_drill role.Unplated name said bytes n (content.Drill plated through drill) ss cs h all =
      (says_holes (record { role = role.Unplated; name = name; said = said; bytes = bytes; setting = n }) false plated through drill h.1 (λ commands drilled is. is) (good_run role.Unplated said.span n.layers h.0), all)
  one_more_drill role.Mixed name said bytes n (content.Mixed through holes) ss cs h all = (says_mixed name said bytes n through holes h.1 (good_run role.Mixed said.span n.layers h.0), all)
  one_more_drill q name said bytes n c ss cs h all = absurd h.1

  -- ---- all files

  all_layers : (ss : List FileView) (cs : List Content) → HaveContents ss cs → AllZip SaysPads (filter (λ s. is_copper s.role) ss) (layers cs)
  all_layers [] [] h = tt
  all_layers (s ∷ ss) (c ∷ cs) h =
      subst (λ (ls : List (List WidePad)). AllZip SaysPads (filter (λ (f : FileView). is_copper f.role) (s ∷ ss)) ls) (sym (flat_map-cons pads_of c cs))
      (one_more_layer s.role s.name s.said s.bytes s.setting c ss (layers cs) h.0 (all_layers ss cs h.1))
  all_layers ss cs h = absurd h

  all_drills : (ss : List FileView) (cs : List Content) → HaveContents ss cs → AllZip SaysHoles (filter (λ s. not (is_copper s.role)) ss) (holes_by_file cs)
  all_drills [] [] h = tt
  all_drills (s ∷ ss) (c ∷ cs) h = one_more_drill s.role s.name s.said s.bytes s.setting c ss cs h.0 (all_drills ss cs h.1)
  all_drills ss cs h = absurd h

  pub sound_as_read_is_sound : SoundAsReadIsSound
  sound_as_read_is_sound sources rules sound =
      let cs = sound.contents in
      let joined = holes_joined cs in
      record {
        layers = layers cs;
        drills = holes_by_file cs;
        pads = all_layers sources cs sound.read;
        holes = all_drills sources cs sound.read;
        held = λ layer d inside among plated within.
            let through = is_through cs layer d (subst (λ (ds : List Drilled). Contains ds d) joined among) plated within in
            sound.held layer d.hole inside through;
        gaps = λ i j d before inside. (subst (λ (ds : List Drilled). AreAllApart rules.gap ds) (sym joined) sound.gaps i j d before inside).0;
      }
