-- Which layers the copper files of some proposals are, and which drill files name layers that they do not make clear
-- (docs/FORMATS.md, Proposals).
use Rattle.std.specs.Prelude.{◌≡◌, ℕ, zero, suc, ◌+◌, Bool, true, false, not, ◌&&◌, ◌||◌, ◌==◌, nat_le, nat_lt, List, [], ◌∷◌, length, map, Option, Some, None, is_some, if◌then◌else◌}
use Rattle.std.specs.List.{list_all, list_any, filter, count_by}
use Rattle.manifest.specs.declared.model.StackPosition.{StackPosition}
use Rattle.manifest.specs.declared.model.StackPosition.TheVariants.{Numbered, Top, Inner, Unknown, Bottom}
use Rattle.manifest.specs.declared.model.HoleKind.{HoleKind}
use Rattle.manifest.specs.declared.model.HoleKind.TheVariants as kinds
use Rattle.manifest.specs.declared.model.LayerRange.{LayerRange}
use Rattle.manifest.specs.declared.model.ProposedRole.{ProposedRole}
use Rattle.manifest.specs.declared.model.ProposedRole.TheVariants.{Copper, Undecided}
use Rattle.manifest.specs.declared.model.ProposalReason.{ProposalReason}
use Rattle.manifest.specs.declared.model.ProposalReason.TheVariants as because
use Rattle.manifest.specs.declared.model.Proposal.{Proposal}
use Rattle.manifest.specs.Manifests.{is_copper, layers_of_role}

-- ---- the layers of copper files

-- a file that is undecided for this reason may be a copper layer
abbrev pub may_be_copper : ProposalReason → Bool
may_be_copper because.ConflictingName = true
may_be_copper because.RepeatedLayer = true
may_be_copper because.Plane = true
may_be_copper because.NothingSays = true
may_be_copper because.NotRead = true
may_be_copper because.TooLong = true
may_be_copper _ = false

-- the last layer that is named lies beyond so many layers
abbrev pub exceeds_count : ℕ → Option LayerRange → Bool
exceeds_count count None = false
exceeds_count count (Some span) = nat_lt count span.last

-- a sign that so many copper files are not all: a file that may be a copper layer, or one that names a layer beyond them
abbrev pub hints_at_missing : ℕ → Proposal → Bool
hints_at_missing count p = may_be_copper p.because || exceeds_count count (layers_of_role p.role)

-- no file is a sign that a copper file is missing, so that names say which layers the copper files are
abbrev pub is_copper_complete : List Proposal → Bool
is_copper_complete ps = not (list_any (hints_at_missing (count_by is_copper ps)) ps)

-- The number of the layer at a place, from 1 at the top; 0 where it is not known. `here` says whether the copper files, `count`
-- of them, are all here. The inner layer N by its name is the layer N + 1, since the top is the first.
abbrev pub layer_at_position : Bool → ℕ → StackPosition → ℕ
layer_at_position here count (Numbered n) = n
layer_at_position here count Top = 1
layer_at_position here count (Inner n) = if here then n + 1 else 0
layer_at_position here count Unknown = 0
layer_at_position here count Bottom = if here then count else 0

-- the number of the layer that a file is; 0 where it is no copper file, or where its layer is not known
abbrev pub layer_of_role : Bool → ℕ → ProposedRole → ℕ
layer_of_role here count (Copper place) = layer_at_position here count place
layer_of_role here count _ = 0

-- the number of the layer of each copper file, 0 where it is not known
abbrev pub copper_layers : List Proposal → List ℕ
copper_layers ps = map (λ p. layer_of_role (is_copper_complete ps) (count_by is_copper ps) p.role) (filter is_copper ps)

-- n is from 1 to the length of the list, and occurs in it once
abbrev pub occurs_once_in_range : List ℕ → ℕ → Bool
occurs_once_in_range ns n = nat_le 1 n && (nat_le n (length ns) && (count_by (λ m. m == n) ns == 1))

-- the numbers are just those from 1 to the length of the list, each once, in any order
abbrev pub are_one_to_n : List ℕ → Bool
are_one_to_n ns = list_all (occurs_once_in_range ns) ns

-- the copper files are the layers 1 to their number, each once
abbrev pub is_stack : List Proposal → Bool
is_stack ps = are_one_to_n (copper_layers ps)

-- ---- the layers of drill files

-- whether holes from the top layer or not, to the bottom layer or not, are of a kind
abbrev pub is_of_kind : HoleKind → Bool → Bool → Bool
is_of_kind kinds.Through top bottom = top && bottom
is_of_kind kinds.Blind top bottom = (top && not bottom) || (not top && bottom)
is_of_kind kinds.Buried top bottom = not top && not bottom
is_of_kind kinds.Unsaid top bottom = true

-- the layers, if any are named, are a first one from 1 and a last one that is not below it, among so many
abbrev pub are_within_count : ℕ → Option LayerRange → Bool
are_within_count count None = true
are_within_count count (Some layers) = nat_le 1 layers.first && (nat_le layers.first layers.last && nat_le layers.last count)

-- The layers are of the kind that their function says, among so many: `PTH` and `NPTH` holes end at both outer layers, `Blind` ones at
-- just one and `Buried` ones at none (Gerber Layer Format Specification 2024.05, section 5.6.3). Of other holes nothing is asked.
abbrev pub fit_kind : ℕ → LayerRange → Bool
fit_kind count layers = is_of_kind layers.kind (layers.first == 1) (layers.last == count)

-- no layers are named, or the copper files are a stack and these are some of its layers, of the kind that is said
abbrev pub are_clear : Bool → ℕ → Option LayerRange → Bool
are_clear stack count None = true
are_clear stack count (Some layers) = stack && (are_within_count count (Some layers) && fit_kind count layers)

-- a proposal, made undecided where it names layers that are not clear
abbrev pub layers_checked_in : Bool → ℕ → Proposal → Proposal
layers_checked_in stack count p = if are_clear stack count (layers_of_role p.role) then p else record { file = p.file; role = Undecided; because = because.UnclearLayers }

-- a proposal, made undecided where it names layers that are not clear among all proposals `ps`
abbrev pub layers_checked : List Proposal → Proposal → Proposal
layers_checked ps p = layers_checked_in (is_stack ps) (count_by is_copper ps) p

-- ---- the layers of a manifest

-- so many numbers that count up from a first one: three from 1 are 1, 2, 3
abbrev pub numbers_from : ℕ → ℕ → List ℕ
numbers_from first zero = []
numbers_from first (suc more) = first ∷ numbers_from (first + 1) more

-- The copper files of a manifest are the layers 1, 2 and so on, in order. So the layers that a manifest gives a drill file are
-- those that the drill file names.
abbrev pub AreLayersInOrder : List Proposal → Type 0
AreLayersInOrder entries = map (λ p. layer_of_role true (count_by is_copper entries) p.role) (filter is_copper entries) ≡ numbers_from 1 (count_by is_copper entries)

-- a file that names layers
abbrev pub names_layers : Proposal → Bool
names_layers p = is_some (layers_of_role p.role)
