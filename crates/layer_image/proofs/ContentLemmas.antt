-- What the commands so far make of a layer, with more of them.
use Rattle.layer_image.proofs.Common.{◌∙◌, ◌++◌, List, [], Result, Ok, Err, OnOk, map, sym, append-nil, map-append, Profile, Entries, WidePad, HasScannedLegal, scanned_pads, KeptParts, taking_pads, without_pads, Keep, HasScannedFor, plain, Scan}

-- a scan that goes on with more commands
pub flashes_on : {E : Type 0} (profile : Profile) (of : Keep) (taken : List WidePad) (old new : Scan) (before after : Entries) (r : Result (Unit {0}) E) → HasScannedFor profile of taken old before
    → ((parts : KeptParts) → HasScannedLegal old parts before → OnOk r (HasScannedLegal new parts after)) → OnOk r (HasScannedFor profile of taken new after)
flashes_on profile of taken old new before after (Ok x) h on = record { kept = h.kept; is = h.is; plain_taken = h.plain_taken; same = h.same; scanned = on (without_pads profile h.kept h.plain_taken) h.scanned }
flashes_on profile of taken old new before after (Err e) h on = tt

-- the pads that are held are taken out too
pub flashes_taken : (profile : Profile) (of : Keep) (taken : List WidePad) (old new : Scan) (before : Entries) → HasScannedFor profile of taken old before → ((parts : KeptParts) → HasScannedLegal old parts before → HasScannedLegal new (taking_pads parts old.state.state.flashes) before)
    → HasScannedFor profile of (taken ++ (map plain (scanned_pads old) ++ [])) new before
flashes_taken profile of taken old new before h gone = record {
  kept = h.kept;
  is = h.is;
  plain_taken = h.plain_taken ++ scanned_pads old;
  same = (λ i. h.same i ++ append-nil (map plain (scanned_pads old)) i) ∙ sym (map-append plain h.plain_taken (scanned_pads old));
  scanned = gone (without_pads profile h.kept h.plain_taken) h.scanned;
}
