-- What a reader keeps of a layer, by what is kept of its flashes and of its flashes and contours.
use Rattle.layer_image.proofs.Common.{◌≡◌, ◌∙◌, ◌+◌, ◌++◌, ℕ, Bool, true, false, cond, List, [], ◌∷◌, Option, Some, None, length, map, refl, sym, ap, subst, arith, append-nil, if◌then◌else◌, cons_option, map-append, Profile, Strict, Wide, Command, Entries, without_places, Pad, WidePad, IsCopperOf, contour_count, counts_of, features_of, flashed_count, is_contour, is_flashed_pad, is_other, other_count, pad_in, strict_feature, strict_kind, wide_features_of, flashes_of, IsScanned, keeps_commands, keeps_drawn, keeps_pads_alone, keeps_rows, keeps_flashes, keeps_pads, without_pads, Flash, Keep, IsKeptOf, counting_profile, flashes_kept, plain, first_parts, uncleared_drawn, FeatureCounts, What}
use Rattle.std.proofs.lemmas.List.Sums.{sum_by-cons}
use Rattle.layer_features.specs.Features.{pads_of}
use Rattle.layer_state.specs.FileFunction.{file_function_of}
use Rattle.layer_state.specs.Flashes as flash_lists
use Rattle.layer_features.specs.declared.copper.CopperParts.{CopperParts}
use Rattle.layer_state.specs.declared.flash.What.TheVariants as what
use Rattle.layer_state.specs.declared.flash.FlashKeep.{FlashKeep}
use Rattle.layer_state.specs.declared.flash.FlashKeep.TheVariants as flash_keep
use Rattle.layer_features.specs.declared.keep.Keep.TheVariants as keep
use Rattle.layer_state.specs.declared.scan.Scanned.{Scanned}
use Rattle.layer_features.proofs.KeptFeaturesLemmas.{of_one}

-- ---- flashes of the strict profile among flashes and contours

plain_one : (w : What) (xs : List WidePad) (ys : List Pad) → xs ≡ map plain ys → cons_option (pad_in (strict_kind w)) xs ≡ map plain (cons_option (flash_lists.pad_in w) ys)
plain_one (what.Pad pad) xs ys h = ap (λ (l : List WidePad). plain pad ∷ l) h
plain_one (what.Other why) xs ys h = h

-- their pads are those of standard apertures
pub plain_of_flashes : (fs : List Flash) → pads_of (map strict_feature fs) ≡ map plain (flash_lists.pads_of fs)
plain_of_flashes [] = refl
plain_of_flashes (f ∷ fs) = plain_one f.what (pads_of (map strict_feature fs)) (flash_lists.pads_of fs) (plain_of_flashes fs)

flashed_one : (w : What) (n : ℕ) (ys : List Pad) → n ≡ length ys → cond (is_flashed_pad (strict_kind w)) 1 0 + n ≡ length (cons_option (flash_lists.pad_in w) ys)
flashed_one (what.Pad pad) n ys h = omega (arith, h)
flashed_one (what.Other why) n ys h = omega (arith, h)

flashed_is : (fs : List Flash) → flashed_count (map strict_feature fs) ≡ length (flash_lists.pads_of fs)
flashed_is [] = refl
flashed_is (f ∷ fs) = of_one is_flashed_pad (strict_feature f) (map strict_feature fs) ∙ flashed_one f.what (flashed_count (map strict_feature fs)) (flash_lists.pads_of fs) (flashed_is fs)

contour_one : (w : What) (n : ℕ) → n ≡ 0 → cond (is_contour (strict_kind w)) 1 0 + n ≡ 0
contour_one (what.Pad pad) n h = omega (arith, h)
contour_one (what.Other why) n h = omega (arith, h)

contours_none : (fs : List Flash) → contour_count (map strict_feature fs) ≡ 0
contours_none [] = refl
contours_none (f ∷ fs) = of_one is_contour (strict_feature f) (map strict_feature fs) ∙ contour_one f.what (contour_count (map strict_feature fs)) (contours_none fs)

other_one : (w : What) (n m : ℕ) → n ≡ m → cond (is_other (strict_kind w)) 1 0 + n ≡ cond (flash_lists.is_other w) 1 0 + m
other_one (what.Pad pad) n m h = omega (arith, h)
other_one (what.Other why) n m h = omega (arith, h)

other_is : (fs : List Flash) → other_count (map strict_feature fs) ≡ flash_lists.other_count fs
other_is [] = refl
other_is (f ∷ fs) =
    of_one is_other (strict_feature f) (map strict_feature fs) ∙ other_one f.what (other_count (map strict_feature fs)) (flash_lists.other_count fs) (other_is fs)
    ∙ sym (sum_by-cons (λ (g : Flash). cond (flash_lists.is_other g.what) 1 0) f fs)

-- and their counts
pub counts_of_flashes : (commands : List Command) (flashed other : ℕ) → flashed ≡ length (flash_lists.pads_of (flashes_of commands)) → other ≡ flash_lists.other_count (flashes_of commands)
    → record { flashed = flashed; contours = 0; other = other } ≡ counts_of (features_of Strict commands)
counts_of_flashes commands flashed other is others =
    let fs : List Flash = flashes_of commands in
    λ i. record { flashed = (is ∙ sym (flashed_is fs)) i; contours = sym (contours_none fs) i; other = (others ∙ sym (other_is fs)) i }

-- ---- what is kept by which keeper

-- what follows where flashes of the strict profile are all that is needed
record IsByFlashes (profile : Profile) (keep : Keep) (k : FlashKeep) : Type 0 where
  flashes : keeps_flashes k ≡ keeps_commands keep
  pads : keeps_pads k ≡ true
  rows : keeps_rows keep ≡ false
  drawn : keeps_drawn keep ≡ false
  counts : counting_profile profile keep ≡ Strict
  alone : keeps_pads_alone keep ≡ true → profile ≡ Strict

layer_by_flashes : (profile : Profile) → IsByFlashes profile keep.Layer flash_keep.All
layer_by_flashes profile = record { flashes = refl; pads = refl; rows = refl; drawn = refl; counts = refl; alone = λ h. absurd cc }

pads_by_flashes : IsByFlashes Strict keep.Pads flash_keep.Pads
pads_by_flashes = record { flashes = refl; pads = refl; rows = refl; drawn = refl; counts = refl; alone = λ h. refl }

by_flashes : (profile : Profile) (of : Keep) (k : FlashKeep) → flashes_kept profile of ≡ Some k → IsByFlashes profile of k
by_flashes Strict keep.Layer k h = let same : flash_keep.All ≡ k = cc in subst (IsByFlashes Strict keep.Layer) same (layer_by_flashes Strict)
by_flashes Wide keep.Layer k h = let same : flash_keep.All ≡ k = cc in subst (IsByFlashes Wide keep.Layer) same (layer_by_flashes Wide)
by_flashes Strict keep.Pads k h = let same : flash_keep.Pads ≡ k = cc in subst (IsByFlashes Strict keep.Pads) same pads_by_flashes
by_flashes Wide keep.Pads k h = absurd cc
by_flashes Strict keep.Rows k h = absurd cc
by_flashes Wide keep.Rows k h = absurd cc
by_flashes Strict keep.RowsAndDrawn k h = absurd cc
by_flashes Wide keep.RowsAndDrawn k h = absurd cc

-- what follows where flashes and contours are asked for
record IsByFeatures (profile : Profile) (of : Keep) : Type 0 where
  commands : keeps_commands of ≡ false
  counts : counting_profile profile of ≡ profile
  alone : keeps_pads_alone of ≡ true → keeps_rows of ≡ false
  wide : keeps_pads_alone of ≡ true → profile ≡ Wide

by_features : (profile : Profile) (of : Keep) → flashes_kept profile of ≡ None → IsByFeatures profile of
by_features Strict keep.Layer h = absurd cc
by_features Wide keep.Layer h = absurd cc
by_features Strict keep.Pads h = absurd cc
by_features Wide keep.Pads h = record { commands = refl; counts = refl; alone = λ e. refl; wide = λ e. refl }
by_features Strict keep.Rows h = record { commands = refl; counts = refl; alone = λ e. absurd cc; wide = λ e. absurd cc }
by_features Wide keep.Rows h = record { commands = refl; counts = refl; alone = λ e. absurd cc; wide = λ e. refl }
by_features Strict keep.RowsAndDrawn h = record { commands = refl; counts = refl; alone = λ e. absurd cc; wide = λ e. absurd cc }
by_features Wide keep.RowsAndDrawn h = record { commands = refl; counts = refl; alone = λ e. absurd cc; wide = λ e. refl }

-- ---- what is kept

none_of : {A : Type 0} (b : Bool) (xs : List A) → b ≡ false → [] ≡ (if b then xs else [])
none_of b xs h = ap (λ (c : Bool). if c then xs else []) (sym h)

-- no pads of standard apertures were taken where no pads were
none_plain : (ps : List Pad) → map plain ps ≡ [] → ps ≡ []
none_plain [] h = refl
none_plain (p ∷ ps) h = absurd cc

pub kept_by_flashes : (profile : Profile) (of : Keep) (taken : List WidePad) (k : FlashKeep) (plain_taken : List Pad) (entries commands : Entries) (scanned : Scanned) (counts : FeatureCounts)
    → flashes_kept profile of ≡ Some k → taken ≡ map plain plain_taken → IsScanned (without_pads profile k plain_taken) (without_places entries) scanned → counts ≡ counts_of (features_of Strict (without_places entries)) → commands ≡ (if keeps_commands of then entries else [])
    → IsKeptOf profile of taken entries (record { commands = commands; flashes = scanned.flashes.items; pads = scanned.pads.items; wide_pads = []; features = []; drawn = []; counts = counts; file_function = scanned.file_function })
kept_by_flashes profile of taken k plain_taken entries commands scanned counts is same s counts_are given =
    let cs : List Command = without_places entries in
    let by = by_flashes profile of k is in
    let all : plain_taken ++ scanned.pads.items ≡ flash_lists.pads_of (flashes_of cs) = s.pads ∙ ap (λ (b : Bool). if b then flash_lists.pads_of (flashes_of cs) else []) by.pads in
    record {
      commands = given;
      flashes = s.flashes ∙ ap (λ (b : Bool). if b then flashes_of cs else []) by.flashes;
      plain_pads = λ e none. ap (λ (l : List Pad). l ++ scanned.pads.items) (sym (none_plain plain_taken (sym same ∙ none))) ∙ all;
      pads = λ e.
          (λ i. same i ++ append-nil (map plain scanned.pads.items) i) ∙ sym (map-append plain plain_taken scanned.pads.items) ∙ ap (map plain) all ∙ sym (plain_of_flashes (flashes_of cs))
          ∙ ap (λ (p : Profile). pads_of (features_of p cs)) (sym (by.alone e));
      features = none_of (keeps_rows of) (wide_features_of cs) by.rows;
      drawn = none_of (keeps_drawn of) (first_parts (uncleared_drawn cs)) by.drawn;
      counts = counts_are ∙ ap (λ (p : Profile). counts_of (features_of p cs)) (sym by.counts);
      named = s.named;
    }

-- the counts of the profile
counts_by : (profile : Profile) (commands : List Command) (counts strict wide : FeatureCounts) → (profile ≡ Strict → counts ≡ strict) → (profile ≡ Wide → counts ≡ wide) → strict ≡ counts_of (features_of Strict commands) → wide ≡ counts_of (features_of Wide commands)
    → counts ≡ counts_of (features_of profile commands)
counts_by Strict commands counts strict wide h k a b = h refl ∙ a
counts_by Wide commands counts strict wide h k a b = k refl ∙ b

differ : (b : Bool) → b ≡ false → b ≡ true → ⊥
differ true h k = absurd cc
differ false h k = absurd cc

pub kept_by_features : (profile : Profile) (of : Keep) (left : List WidePad) (entries commands : Entries) (parts : CopperParts) (file_function : Option (List ℕ)) (counts strict : FeatureCounts) → flashes_kept profile of ≡ None
    → IsCopperOf of left (without_places entries) parts → strict ≡ counts_of (features_of Strict (without_places entries)) → (profile ≡ Strict → counts ≡ strict) → (profile ≡ Wide → counts ≡ parts.counts) → file_function ≡ file_function_of (without_places entries)
    → commands ≡ (if keeps_commands of then entries else [])
    → IsKeptOf profile of left entries (record { commands = commands; flashes = []; pads = []; wide_pads = parts.pads.items; features = parts.features.items; drawn = parts.drawn.items; counts = counts; file_function = file_function })
kept_by_features profile of left entries commands parts file_function counts strict is copper strict_is h k named given =
    let cs : List Command = without_places entries in
    let by = by_features profile of is in
    record {
      commands = given;
      flashes = none_of (keeps_commands of) (flashes_of cs) by.commands;
      plain_pads = λ e none. absurd (differ (keeps_commands of) by.commands e);
      pads = λ e. copper.pads ∙ ap (λ (b : Bool). if b then [] else pads_of (wide_features_of cs)) (by.alone e) ∙ ap (λ (p : Profile). pads_of (features_of p cs)) (sym (by.wide e));
      features = copper.features;
      drawn = copper.drawn;
      counts = counts_by profile cs counts strict parts.counts h k strict_is copper.counts ∙ ap (λ (p : Profile). counts_of (features_of p cs)) (sym by.counts);
      named = named;
    }
