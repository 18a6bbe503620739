-- A check that reads a copper file piece by piece.
use Rattle.package_check.proofs.Common.{◌≡◌, ℕ, Bool, true, false, List, [], Ok, Err, Option, None, Result, OnOk, ap, subst, sym, ◌∙◌, AllocError, GridRules, Answers, Said, LayerSpan, Fail, Drilled, CheckView, AreHolesOf, HasJudged, IsJudgedOf, TakesCopper, HoldsThose, is_wanted, HasTriedPadsOf, Judges, HasFailed, HasOpenedCopper, HasReadCopper, Setting, FileView, is_bad_span, unnamed_file, PackageFault, Judged, Profile, LayerStands, HolesView, LayerReader}
use Rattle.grid_units.specs.declared.fault.Fail.TheVariants as fails
use Rattle.manifest.specs.declared.Role.TheVariants as role
use Rattle.package_check.specs.CheckViews.{holes_of, setting_of}
use Rattle.layer_features.specs.declared.keep.Keep.TheVariants as keep
use Rattle.package_check.proofs.JudgedCopper.{none_tried}
use Rattle.package_check.specs.declared.open_copper.OpenCopper.{OpenCopper}
use Rattle.package_check.proofs.OpenFiles.{failed_read}

-- a span that there is not is not bad
pub no_span : (span : Option LayerSpan) (n : ℕ) → span ≡ None → is_bad_span role.Copper span n ≡ false
no_span span n none = ap (λ (s : Option LayerSpan). is_bad_span role.Copper s n) none

-- a file that has failed is refused in the end
pub failed_judged : (rules : GridRules) (holes : List Drilled) (layer : ℕ) (said : Said) (n : Setting) (text : List ℕ) (e : Fail) → HasFailed role.Copper said n e text
    → Answers {T = Judged} (λ one. one) (Judges rules holes layer (unnamed_file role.Copper said n text)) (Err e)
failed_judged rules holes layer said n text fails.Memory h = tt
failed_judged rules holes layer said n text (fails.Refused f) h = failed_read role.Copper said n text (fails.Refused f) h

-- a check stands as it did
module _ (start check : CheckView) (holes : check.holes ≡ start.holes) (rules : check.rules ≡ start.rules) (slots : check.slots ≡ start.slots) (stops : check.stopped ≡ start.stopped) where
  judged_since : (sources : List FileView) (under : GridRules) (taken : ℕ → Bool) → HasJudged start sources under taken → HasJudged check sources under taken
  judged_since sources under taken h = record {
    same_rules = rules ∙ h.same_rules;
    holds = subst (λ (rs : GridRules). HoldsThose (IsJudgedOf rs check.holes sources) check.slots check.stopped sources taken) (sym rules)
        (subst (λ (hs : List Drilled). HoldsThose (IsJudgedOf start.rules hs sources) check.slots check.stopped sources taken) (sym holes)
        (subst (λ (os : List (Option Judged)). HoldsThose (IsJudgedOf start.rules start.holes sources) os check.stopped sources taken) (sym slots)
        (subst (λ (st : Option PackageFault). HoldsThose (IsJudgedOf start.rules start.holes sources) start.slots st sources taken) (sym stops) h.holds)));
    drilled = λ none. subst (AreHolesOf sources) (sym holes) (h.drilled (sym stops ∙ none));
  }

  -- what it has taken since then it has taken since the start
  since : (after : CheckView) (index layer : ℕ) (source : FileView) (r : Result (Unit {0}) AllocError) → OnOk r (TakesCopper check after index layer source) → OnOk r (TakesCopper start after index layer source)
  since after index layer source (Ok v) takes = λ sources at number under taken h. takes sources at number under taken (judged_since sources under taken h)
  since after index layer source (Err e) takes = tt

-- an open file has read its text as the layer that it is
pub own_copper : (start check : CheckView) (index layer : ℕ) (said : Said) (file : OpenCopper) (text : List ℕ) → HasOpenedCopper start check index layer said file text → is_wanted check.stopped file.index ≡ true
    → HasReadCopper (holes_of check) file.layer said check.layers file.reading text
own_copper start check index layer said file text h on =
    subst (λ (k : ℕ). HasReadCopper (holes_of check) k said check.layers file.reading text) (sym h.same_layer) (h.reads (ap (λ (k : ℕ). is_wanted check.stopped k) (sym h.same_index) ∙ on))

-- an open file is ended
pub ended : (start check after : CheckView) (file : OpenCopper) (index layer : ℕ) (said : Said) (text name : List ℕ) (r : Result (Unit {0}) AllocError) → HasOpenedCopper start check index layer said file text
    → OnOk r (TakesCopper check after file.index file.layer (record { role = role.Copper; name = name; said = said; bytes = text; setting = setting_of check }))
    → OnOk r (TakesCopper start after index layer (record { role = role.Copper; name = name; said = said; bytes = text; setting = setting_of start }))
ended start check after file index layer said text name r h takes =
    since start check h.same_holes h.same_rules h.same_slots h.same_stop after index layer (record { role = role.Copper; name = name; said = said; bytes = text; setting = setting_of start }) r
    (subst (λ (n : Setting). OnOk r (TakesCopper check after index layer (record { role = role.Copper; name = name; said = said; bytes = text; setting = n }))) (λ j. record { layers = h.same_layers j; profile = (h.same_rules j).profile })
    (subst (λ (k : ℕ). OnOk r (TakesCopper check after index k (record { role = role.Copper; name = name; said = said; bytes = text; setting = setting_of check }))) h.same_layer
    (subst (λ (k : ℕ). OnOk r (TakesCopper check after k file.layer (record { role = role.Copper; name = name; said = said; bytes = text; setting = setting_of check }))) h.same_index takes)))

-- ---- readers of layers

-- a reader that has read nothing
pub nothing_read : (p : Profile) (holes : HolesView) (layer : ℕ) (reader : LayerReader) → holes.rules.profile ≡ p → holes.search ≡ None → LayerStands reader p keep.Pads [] [] → HasTriedPadsOf holes layer reader []
nothing_read p holes layer reader is none stands = none_tried holes layer reader [] (subst (λ (q : Profile). LayerStands reader q keep.Pads [] []) (sym is) stands) none
