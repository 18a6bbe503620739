-- The proposals for a list of files (docs/FORMATS.md, Proposals).
use Rattle.std.specs.Prelude.{ℕ, Bool, List, map, Option, Some, None, if◌then◌else◌}
use Rattle.std.specs.List.{list_any, filter_map}
use Rattle.std.specs.Str.{bytes_eq}
use Rattle.grid_units.specs.Lists.{with_prefixes}
use Rattle.grid_units.specs.declared.profile.Profile.{Profile}
use Rattle.manifest.specs.Decisions.{Decision}
use Rattle.manifest.specs.MixedFiles.{decision_in}
use Rattle.manifest.specs.Places.{places_checked}
use Rattle.manifest.specs.Stack.{layers_checked}
use Rattle.manifest.specs.declared.model.ProposedRole.TheVariants.{LeftOut, Undecided}
use Rattle.manifest.specs.declared.model.ProposalReason.TheVariants as because
use Rattle.manifest.specs.declared.model.Proposal.{Proposal}
use Rattle.manifest.specs.declared.model.InputFile.{InputFile}
use Rattle.manifest.specs.declared.model.FileContent.{FileContent}
use Rattle.manifest.specs.declared.model.FileContent.TheVariants as content

-- what a file of this name is in a profile: by its bytes, undecided where it cannot be read or is too long, and left out where it is a folder
abbrev pub decision_for : Profile → List ℕ → FileContent → Decision
decision_for profile name (content.Bytes bytes) = decision_in profile name bytes.now
decision_for profile name content.NotRead = (Undecided, because.NotRead)
decision_for profile name content.Folder = (LeftOut, because.Folder)
decision_for profile name content.TooLong = (Undecided, because.TooLong)

-- the name of a file, as it was asked for
abbrev pub name_of : InputFile → List ℕ
name_of file = file.name.now

-- the proposal for a file, taken by itself
abbrev pub proposal : Profile → InputFile → Proposal
proposal profile file = record { file = name_of file; role = (decision_for profile (name_of file) file.content).0; because = (decision_for profile (name_of file) file.content).1 }

-- one of these files has the name
abbrev pub is_named : List ℕ → List InputFile → Bool
is_named name files = list_any (λ file. bytes_eq (name_of file) name) files

-- a file, if none of those before it has its name
abbrev pub unless_seen : List InputFile × InputFile → Option InputFile
unless_seen p = if is_named (name_of p.1) p.0 then None else Some p.1

-- the files, each name once
abbrev pub distinct : List InputFile → List InputFile
distinct files = filter_map unless_seen (with_prefixes files)

-- the proposal for each file, taken by itself, each name once
abbrev pub separate_proposals : Profile → List InputFile → List Proposal
separate_proposals profile files = map (proposal profile) (distinct files)

-- the proposal for each file, each name once: copper files that have one place are undecided
abbrev pub placed_proposals : Profile → List InputFile → List Proposal
placed_proposals profile files = places_checked (separate_proposals profile files)

-- the proposals for the files in a profile, each name once: a drill file that names layers is undecided where these are not clear among the others
abbrev pub proposals : Profile → List InputFile → List Proposal
proposals profile files = map (layers_checked (placed_proposals profile files)) (placed_proposals profile files)
