-- Why a hole lacks its ring: by its best pad, which is plain, by the first other row in it, or by the pads that its profile does not count.
use Rattle.report.proofs.Common.{◌≡◌, ◌+◌, ℕ, Bool, true, false, List, Option, Some, None, length, refl, sym, subst, if◌then◌else◌, false≢true, GridHole, WidePad, is_refused_slot, is_pad_row, FeatureRow, HasNoFlash, HasNoPad, IsCause, IsRingInPad, UncountedPads, is_in_hole, is_small, lies_in_pad, other_in, others, cause_without_pad, other_cause, plain_cause, uncounted_cause, RingCause, Other}
use Rattle.grid_units.specs.declared.profile.Profile.{Profile}
use Rattle.pad_shapes.specs.declared.row.RowKind.{RowKind}
use Rattle.pad_shapes.specs.declared.row.RowKind.TheVariants as row_kind
use Rattle.report.specs.declared.RingCause.TheVariants as cause
use Rattle.report.specs.declared.RingInPad.{RingInPad}
use Rattle.report.proofs.PlacesLemmas.{IsOtherBefore, found_has, others_before}

-- the first other row in a hole stands before the end of the layer, and is no pad
pub other_before : (rows : List FeatureRow) (h : GridHole) (other : Other) → other_in rows h ≡ Some other → IsOtherBefore (length rows) other
other_before rows h other found = found_has (IsOtherBefore (length rows)) (λ (row : Other). is_in_hole h row.at) (others rows) other (others_before rows) found

module _ (profile : Profile) (rows : List FeatureRow) (pads : List WidePad) (uncounted : UncountedPads) (ring : ℕ) (h : GridHole) where
  -- a best pad that is plain is too small, or the hole is off its middle
  pub plain_is_cause : (in_best_pad : RingInPad) → is_refused_slot profile h ≡ false → IsRingInPad rows pads ring h in_best_pad → IsCause profile rows pads uncounted ring h (plain_cause ring h in_best_pad)
  plain_is_cause in_best_pad holds is = by (is_small ring h in_best_pad.pad) refl
    where
      by : (t : Bool) → is_small ring h in_best_pad.pad ≡ t → IsCause profile rows pads uncounted ring h (if t then cause.TooSmall in_best_pad else cause.OffCentre in_best_pad)
      by true e = (holds, is, e)
      by false e = (holds, is, e)

  -- the first other row in a hole without a pad tells by its kind why
  pub other_is_cause : (other : Other) → HasNoPad profile pads h → other_in rows h ≡ Some other → is_pad_row other.what ≡ false → IsCause profile rows pads uncounted ring h (other_cause other.what (other.place + 1))
  other_is_cause other none found not_pad = by other.what refl not_pad
    where
      by : (kind : RowKind) → other.what ≡ kind → is_pad_row kind ≡ false → IsCause profile rows pads uncounted ring h (other_cause kind (other.place + 1))
      by row_kind.Pad e not_pad = absurd (false≢true (sym not_pad))
      by row_kind.Contour e not_pad = absurd (false≢true (sym not_pad))
      by (row_kind.Other why) e not_pad = (none, (other, found, e, refl))
      by row_kind.Clear e not_pad = (none, (other, found, e, refl))
      by row_kind.Cleared e not_pad = (none, (other, found, e, refl))

  -- the pads that the profile does not count tell why, where no pad covers the hole and no other flash has its point in it
  pub uncounted_is_cause : HasNoFlash profile rows pads h → IsCause profile rows pads uncounted ring h (uncounted_cause uncounted h)
  uncounted_is_cause none = by (lies_in_pad uncounted.macros h) refl (lies_in_pad uncounted.contours h) refl
    where
      by : (m : Bool) → lies_in_pad uncounted.macros h ≡ m → (c : Bool) → lies_in_pad uncounted.contours h ≡ c → IsCause profile rows pads uncounted ring h (if m then cause.MacroShape else (if c then cause.DrawnCopper else cause.NoFlash))
      by true e c f = (none, e)
      by false e true f = (none, e, f)
      by false e false f = (none, e, f)

  -- so do both together
  pub without_pad_is_cause : (otherwise : RingCause) → HasNoPad profile pads h → otherwise ≡ uncounted_cause uncounted h → IsCause profile rows pads uncounted ring h (cause_without_pad (other_in rows h) otherwise)
  without_pad_is_cause otherwise none is = by (other_in rows h) refl
    where
      by : (o : Option Other) → other_in rows h ≡ o → IsCause profile rows pads uncounted ring h (cause_without_pad o otherwise)
      by None e = subst (λ (why : RingCause). IsCause profile rows pads uncounted ring h why) (sym is) (uncounted_is_cause (none, e))
      by (Some other) e = other_is_cause other none e (other_before rows h other e).1
