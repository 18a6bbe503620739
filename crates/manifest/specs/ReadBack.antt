-- What a manifest of proposals reads back as, where all of them are decided.
use Rattle.std.specs.Prelude.{◌≡◌, ℕ, Bool, true, false, not, ◌&&◌, ◌==◌, List, length, Option, Some, None, if◌then◌else◌}
use Rattle.std.specs.List.{list_all, list_any}
use Rattle.grid_units.specs.Spans.{LayerSpan}
use Rattle.grid_units.specs.declared.profile.Profile.{Profile}
use Rattle.grid_units.specs.declared.profile.Profile.TheVariants.{Strict, Wide}
use Rattle.manifest.specs.Manifest.{is_plain_text}
use Rattle.manifest.specs.declared.Entry.{Entry}
use Rattle.manifest.specs.declared.Role.{Role}
use Rattle.manifest.specs.declared.Role.TheVariants as roles
use Rattle.manifest.specs.declared.model.LayerRange.{LayerRange}
use Rattle.manifest.specs.declared.model.ProposedRole.{ProposedRole}
use Rattle.manifest.specs.declared.model.ProposedRole.TheVariants.{Copper, Plated, Unplated, Mixed, Undecided, LeftOut}
use Rattle.manifest.specs.declared.model.Proposal.{Proposal}
use Rattle.manifest.specs.Manifests.{has_spans, is_copper, label, layers_of_role}

-- the role that a manifest gives a proposal; for one that is undecided or left out, a value that is never used
abbrev pub role_of : ProposedRole → Role
role_of (Copper place) = roles.Copper
role_of (Plated span) = roles.Plated
role_of (Unplated span) = roles.Unplated
role_of (Mixed span) = roles.Mixed
role_of Undecided = roles.Unplated
role_of LeftOut = roles.Unplated

-- the layers as a span of a manifest
abbrev pub as_span : Option LayerRange → Option LayerSpan
as_span None = None
as_span (Some layers) = Some (record { first = layers.first; last = layers.last })

-- the file that a proposal becomes in the manifest of these entries; it has its layers only where the manifest has version 2, and nothing is said of coordinates
abbrev pub entry_in : List Proposal → Proposal → Entry
entry_in entries p = record { role = role_of p.role; name = label entries p; file = p.file; said = record { span = if has_spans entries then as_span (layers_of_role p.role) else None; format = None } }

-- a copper layer, or a drill file whose plating is known; a mixed file in the wide profile alone
abbrev pub is_decided : Profile → ProposedRole → Bool
is_decided profile (Copper place) = true
is_decided profile (Plated span) = true
is_decided profile (Unplated span) = true
is_decided Strict (Mixed span) = false
is_decided Wide (Mixed span) = true
is_decided profile Undecided = false
is_decided profile LeftOut = false

-- a name that a manifest may have: UTF-8 without control bytes, and not empty
abbrev pub is_valid_name : List ℕ → Bool
is_valid_name name = is_plain_text name && not (length name == 0)

-- nothing is left to decide: each role is decided, some file is copper and some is not, and each file name may stand
pub record AreDecided (profile : Profile) (entries : List Proposal) : Type 0 where
  pub roles : list_all (λ p. is_decided profile p.role) entries ≡ true
  pub copper : list_any is_copper entries ≡ true
  pub drill : list_any (λ p. not (is_copper p)) entries ≡ true
  pub names : list_all (λ p. is_valid_name p.file) entries ≡ true
