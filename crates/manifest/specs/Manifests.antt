-- The manifest of proposals, and the table of why (docs/FORMATS.md, Proposals).
use Rattle.std.specs.Prelude.{◌≡◌, ℕ, ◌+◌, ◌-◌, ◌/◌, ◌%◌, Bool, true, false, not, ◌&&◌, ◌||◌, ◌==◌, nat_le, nat_lt, decimal, List, [], ◌∷◌, ◌++◌, length, codes, Option, Some, None, if◌then◌else◌}
use Rattle.std.specs.List.{flat_map, filter, list_any, count_by}
use Rattle.std.specs.List.Sorted.{IsPermutation, IsNonDecreasingBy, IsStableByKey}
use Rattle.std.specs.Ordering.{nat_cmp}
use Rattle.std.specs.Str.{bytes_eq}
use Rattle.csv.specs.Writing.{default_writer, row_text}
use Rattle.grid_units.specs.Ascii as ascii
use Rattle.manifest.specs.Names.{base_name}
use Rattle.manifest.specs.declared.model.StackPosition.{StackPosition}
use Rattle.manifest.specs.declared.model.StackPosition.TheVariants.{Numbered, Top, Inner, Unknown, Bottom}
use Rattle.manifest.specs.declared.model.LayerRange.{LayerRange}
use Rattle.manifest.specs.declared.model.ProposedRole.{ProposedRole}
use Rattle.manifest.specs.declared.model.ProposedRole.TheVariants.{Copper, Plated, Unplated, Mixed, Undecided, LeftOut}
use Rattle.manifest.specs.declared.model.ProposalReason.{ProposalReason}
use Rattle.manifest.specs.declared.model.ProposalReason.TheVariants as because
use Rattle.manifest.specs.declared.model.Proposal.{Proposal}

-- ---- words

-- the word of a role: `copper`, or `?` for an undecided file, and `-` in the table of why for one that is left out
abbrev pub role_word : ProposedRole → List ℕ
role_word (Copper place) = codes "copper"
role_word (Plated span) = codes "plated"
role_word (Unplated span) = codes "unplated"
role_word (Mixed span) = codes "mixed"
role_word Undecided = codes "?"
role_word LeftOut = codes "-"

-- the words of a reason, without the fields of a file function
abbrev pub reason_words : ProposalReason → List ℕ
reason_words because.NoKind = codes "neither a Gerber nor a drill file"
reason_words because.NoHoles = codes "a drill file without holes"
reason_words because.Archive = codes "a zip archive: unpack it"
reason_words because.Folder = codes "a folder: name its files"
reason_words (because.FileFunction function) = codes "file function "
reason_words because.MixedHoles = codes "mixed: role mixed with --profile wide, or export two files"
reason_words because.MixedTools = codes "its comments say which holes are plated"
reason_words because.UnreadMixed = codes "mixed, but not read as mixed: export two files"
reason_words because.PlatedType = codes "its comments say plated"
reason_words because.UnplatedType = codes "its comments say not plated"
reason_words because.ByName = codes "name"
reason_words because.ConflictingName = codes "its name is ambiguous"
reason_words because.RepeatedLayer = codes "another file is the same layer"
reason_words because.DrillByDefault = codes "a drill file counts as plated unless it says otherwise"
reason_words because.DrillInGerber = codes "a drill file in Gerber: export Excellon"
reason_words because.Plane = codes "a plane that may be negative"
reason_words because.NothingSays = codes "nothing identifies it"
reason_words because.UnclearLayers = codes "its layers are not clear from the copper files"
reason_words because.NotRead = codes "it cannot be read"
reason_words because.TooLong = codes "it is too long"

-- the first field of the file function that a reason names, empty where it names none
abbrev pub named_function : ProposalReason → List ℕ
named_function (because.FileFunction function) = function
named_function _ = []

-- `b'\\'`
abbrev pub backslash : ℕ
backslash = 92

-- `b'x'`
abbrev pub lower_x : ℕ
lower_x = 120

-- a byte that is printed as it is: printable ASCII without the backslash
abbrev pub is_printed : ℕ → Bool
is_printed b = nat_le ascii.space b && (nat_lt b ascii.delete && not (b == backslash))

-- a digit of base 16, in lower case
abbrev pub hex_digit : ℕ → ℕ
hex_digit n = if nat_lt n 10 then ascii.digit_zero + n else ascii.lower_a + (n - 10)

-- how a byte of a file is printed: as it is, or as `\xNN` (`\x1b` for an escape)
abbrev pub byte_text : ℕ → List ℕ
byte_text b = if is_printed b then b ∷ [] else backslash ∷ lower_x ∷ hex_digit (b / 16) ∷ hex_digit (b % 16) ∷ []

-- the text of a reason, `file function Copper`: a file's bytes reach a terminal only as printable ASCII
abbrev pub because_text : ProposalReason → List ℕ
because_text why = reason_words why ++ flat_map byte_text (named_function why)

-- ---- the table of why

-- the row of a file in the table of why, its name, the word of its role and the reason: `b.gtl,copper,name`
abbrev pub reason_row : Proposal → List ℕ
reason_row p = row_text default_writer (p.file ∷ role_word p.role ∷ because_text p.because ∷ [])

-- the first row of the table of why: `file,role,because`
abbrev pub reasons_heading : List ℕ
reasons_heading = row_text default_writer (codes "file" ∷ codes "role" ∷ codes "because" ∷ [])

-- the table of why: a row for each file, in the order of the files
abbrev pub reasons_text : List Proposal → List ℕ
reasons_text proposals = reasons_heading ++ flat_map reason_row proposals

-- ---- the order of a manifest

-- The rank of a copper layer. Those with a number, which is below 2^32, come first by it; a top layer counts as 1, and the inner
-- layer N as N + 1. Then come those at an unknown place, then bottom layers.
abbrev pub place_rank : StackPosition → ℕ
place_rank (Numbered n) = n
place_rank Top = 1
place_rank (Inner n) = n + 1
place_rank Unknown = 4294967296
place_rank Bottom = 4294967297

-- the copper layers first, by their place, then plated, unplated, mixed and undecided files
abbrev pub rank : ProposedRole → ℕ
rank (Copper place) = place_rank place
rank (Plated span) = 4294967298
rank (Unplated span) = 4294967299
rank (Mixed span) = 4294967300
rank Undecided = 4294967301
rank LeftOut = 4294967302

-- a file of this role is listed in the manifest
abbrev pub is_listed_role : ProposedRole → Bool
is_listed_role LeftOut = false
is_listed_role _ = true

-- a file that is listed in the manifest
abbrev pub is_listed : Proposal → Bool
is_listed p = is_listed_role p.role

-- the entries are the files by rank, and those of one rank in the order of the files
pub record IsManifestOrder (files entries : List Proposal) : Type 0 where
  pub permutation : IsPermutation files entries
  pub ranked : IsNonDecreasingBy (λ (p : Proposal). rank p.role) entries
  pub stable : IsStableByKey (λ (p : Proposal). rank p.role) nat_cmp files entries

-- ---- the manifest

-- how many files have this name after their last slash
abbrev pub count_named : List Proposal → List ℕ → ℕ
count_named entries name = count_by (λ q. bytes_eq (base_name q.file) name) entries

-- the name after the last slash is empty, or two files or more have it
abbrev pub is_ambiguous : List Proposal → List ℕ → Bool
is_ambiguous entries name = (length name == 0) || nat_lt 1 (count_named entries name)

-- the name that reports print: what follows the last slash (`b.gtl` of `out/b.gtl`), or the whole name where that is ambiguous
abbrev pub label : List Proposal → Proposal → List ℕ
label entries p = if is_ambiguous entries (base_name p.file) then p.file else base_name p.file

-- the layers that a drill file names, if it names any
abbrev pub layers_of_role : ProposedRole → Option LayerRange
layers_of_role (Copper place) = None
layers_of_role (Plated span) = span
layers_of_role (Unplated span) = span
layers_of_role (Mixed span) = span
layers_of_role Undecided = None
layers_of_role LeftOut = None

-- a copper layer
abbrev pub is_copper_role : ProposedRole → Bool
is_copper_role (Copper place) = true
is_copper_role _ = false

-- a file that is a copper layer
abbrev pub is_copper : Proposal → Bool
is_copper p = is_copper_role p.role

-- layers are named that are not 1 to this number of layers
abbrev pub is_partial : ℕ → Option LayerRange → Bool
is_partial layers None = false
is_partial layers (Some span) = not ((span.first == 1) && (span.last == layers))

-- some file names other layers than all copper layers: then the manifest has version 2
abbrev pub has_spans : List Proposal → Bool
has_spans entries = list_any (λ p. is_partial (count_by is_copper entries) (layers_of_role p.role)) entries

-- the fields of the first and the last layer, both empty where no layers are named
abbrev pub span_fields : Option LayerRange → List (List ℕ)
span_fields None = [] ∷ [] ∷ []
span_fields (Some span) = decimal span.first ∷ decimal span.last ∷ []

-- the row of a file under a name, with its layers or without: `copper,b.gtl,out/b.gtl`, or `plated,b.drl,out/b.drl,1,2`
abbrev pub named_row : Bool → List ℕ → Proposal → List ℕ
named_row spans name p = row_text default_writer (role_word p.role ∷ name ∷ p.file ∷ (if spans then span_fields (layers_of_role p.role) else []))

-- the row of a file under the name that reports print for it among these files
abbrev pub entry_row : Bool → List Proposal → Proposal → List ℕ
entry_row spans entries p = named_row spans (label entries p) p

-- the first row of a manifest: `role,name,file`, or `role,name,file,first,last`
abbrev pub heading : Bool → List ℕ
heading spans = row_text default_writer (codes "role" ∷ codes "name" ∷ codes "file" ∷ (if spans then codes "first" ∷ codes "last" ∷ [] else []))

-- the text of a manifest with these files
abbrev pub manifest_text : List Proposal → List ℕ
manifest_text entries = heading (has_spans entries) ++ flat_map (entry_row (has_spans entries) entries) entries

-- the text is the manifest of the files that are not left out, in the order of a manifest
abbrev pub IsManifestOf : List Proposal → List ℕ → Type 0
IsManifestOf proposals text = (entries : List Proposal) × IsManifestOrder (filter is_listed proposals) entries × (text ≡ manifest_text entries)
