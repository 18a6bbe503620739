-- Which copper files have one place in the stack (docs/FORMATS.md, Proposals).
use Rattle.std.specs.Prelude.{ℕ, Bool, true, false, ◌&&◌, ◌==◌, nat_lt, List, map, if◌then◌else◌}
use Rattle.std.specs.List.{count_by}
use Rattle.manifest.specs.declared.model.StackPosition.{StackPosition}
use Rattle.manifest.specs.declared.model.StackPosition.TheVariants.{Unknown}
use Rattle.manifest.specs.declared.model.ProposedRole.{ProposedRole}
use Rattle.manifest.specs.declared.model.ProposedRole.TheVariants.{Copper, Undecided}
use Rattle.manifest.specs.declared.model.ProposalReason.TheVariants as because
use Rattle.manifest.specs.declared.model.Proposal.{Proposal}
use Rattle.manifest.specs.Manifests.{rank}

-- a place in the stack that is known
abbrev pub is_known_place : StackPosition → Bool
is_known_place Unknown = false
is_known_place _ = true

-- a copper file whose place is known
abbrev pub has_known_place : ProposedRole → Bool
has_known_place (Copper place) = is_known_place place
has_known_place _ = false

-- how many of the files have this rank, as two top layers have one
abbrev pub count_ranked : List Proposal → ℕ → ℕ
count_ranked ps n = count_by (λ q. rank q.role == n) ps

-- a proposal, made undecided where it has a known place that others share
abbrev pub place_checked_in : Bool → Proposal → Proposal
place_checked_in shared p = if has_known_place p.role && shared then record { file = p.file; role = Undecided; because = because.RepeatedLayer } else p

-- a proposal, made undecided where another copper file among all proposals `ps` has its place
abbrev pub place_checked : List Proposal → Proposal → Proposal
place_checked ps p = place_checked_in (nat_lt 1 (count_ranked ps (rank p.role))) p

-- the proposals, of which no two copper files have one known place
abbrev pub places_checked : List Proposal → List Proposal
places_checked ps = map (place_checked ps) ps
