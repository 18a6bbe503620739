-- What is proposed for a file, and why (docs/FORMATS.md, Proposals).
use Rattle.std.specs.Prelude.{ℕ, Bool, true, false, ◌||◌, ◌&&◌, not, List, Option, Some, None, is_some, unwrap_or, take, drop, codes, if◌then◌else◌}
use Rattle.std.specs.List.{list_any}
use Rattle.std.specs.Option.{option_or, option_map}
use Rattle.std.specs.Str.{bytes_eq}
use Rattle.manifest.specs.Contents.{field, function_of, kind_of, says_plated_holes, says_unplated_holes}
use Rattle.manifest.specs.Names.{bottom_extensions, bottom_words, extension_of, ends_in_copper, has_dot, has_end, inner_extensions, inner_words, is_one_of, is_other_word, is_unclear_word, last_other_word, names_copper, says_plated, says_unplated, number_within, number_suffix, numbered_other_extensions, other_extensions, plane_extensions, stem_of, top_extensions, top_words, words_of}
use Rattle.manifest.specs.declared.contents.FileKind.{FileKind}
use Rattle.manifest.specs.declared.contents.FileKind.TheVariants.{Gerber, Drill, Empty, Archive, Neither}
use Rattle.manifest.specs.declared.model.StackPosition.{StackPosition}
use Rattle.manifest.specs.declared.model.StackPosition.TheVariants.{Numbered, Top, Inner, Unknown, Bottom}
use Rattle.manifest.specs.declared.model.HoleKind.{HoleKind}
use Rattle.manifest.specs.declared.model.HoleKind.TheVariants as kinds
use Rattle.manifest.specs.declared.model.LayerRange.{LayerRange}
use Rattle.manifest.specs.declared.model.ProposedRole.{ProposedRole}
use Rattle.manifest.specs.declared.model.ProposedRole.TheVariants.{Copper, Plated, Unplated, Undecided, LeftOut}
use Rattle.manifest.specs.declared.model.ProposalReason.{ProposalReason}
use Rattle.manifest.specs.declared.model.ProposalReason.TheVariants as because

-- what is proposed for a file, and the reason for it
abbrev pub Decision : Type 0
Decision = ProposedRole × ProposalReason

-- ---- drill files

-- how holes go through a board by the word after their layers: `PTH`, `NPTH`, `Blind` or `Buried`
-- (Gerber Layer Format Specification 2024.05, section 5.6.3)
abbrev pub hole_kind : List ℕ → HoleKind
hole_kind word =
    if bytes_eq word (codes "PTH") || bytes_eq word (codes "NPTH") then kinds.Through
    else if bytes_eq word (codes "Blind") then kinds.Blind
    else if bytes_eq word (codes "Buried") then kinds.Buried else kinds.Unsaid

-- holes that do not go through the whole board
abbrev pub ends_inside : HoleKind → Bool
ends_inside kinds.Through = false
ends_inside kinds.Blind = true
ends_inside kinds.Buried = true
ends_inside kinds.Unsaid = false

-- the layers that two fields name for holes of a kind, None where one of them is no number
abbrev pub layers_of_fields : HoleKind → Option ℕ → Option ℕ → Option LayerRange
layers_of_fields kind None last = None
layers_of_fields kind (Some first) None = None
layers_of_fields kind (Some first) (Some last) = Some (record { first = first; last = last; kind = kind })

-- the layers that the second and the third field of a file function name, if both are numbers: 1 and 2 in `Plated,1,2,PTH`
abbrev pub layers_of_function : List ℕ → Option LayerRange
layers_of_function function = layers_of_fields (hole_kind (field 3 function)) (number_within 9 (field 1 function)) (number_within 9 (field 2 function))

-- the function says that holes are blind or buried, and names no layers: `Plated,,,Blind`
abbrev pub lacks_layers : List ℕ → Bool
lacks_layers function = ends_inside (hole_kind (field 3 function)) && not (is_some (layers_of_function function))

-- a role by a file function, undecided where layers are lacking
abbrev pub role_by_function : List ℕ → ProposedRole → Option Decision
role_by_function function role = Some (if lacks_layers function then (Undecided, because.UnclearLayers) else (role, because.FileFunction (field 0 function)))

-- what the function of a drill file says: `Plated,1,2,PTH` plated with layers, `NonPlated` unplated, `MixedPlating` undecided
abbrev pub drill_by_function : List ℕ → Option Decision
drill_by_function function =
    if bytes_eq (field 0 function) (codes "Plated") then role_by_function function (Plated (layers_of_function function))
    else if bytes_eq (field 0 function) (codes "NonPlated") then role_by_function function (Unplated (layers_of_function function))
    else if bytes_eq (field 0 function) (codes "MixedPlating") then Some (Undecided, because.MixedHoles) else None

-- what the text of a drill file says: whether it says that holes are plated, whether it says that they are not, and what its function
-- says. Where it says both, nothing else counts.
abbrev pub drill_by_text : Bool → Bool → Option Decision → Option Decision
drill_by_text true true function = Some (Undecided, because.MixedHoles)
drill_by_text true false function = option_or function (Some (Plated None, because.PlatedType))
drill_by_text false true function = option_or function (Some (Unplated None, because.UnplatedType))
drill_by_text false false function = function

-- what the words of the name of a drill file say: whether holes are plated, and whether they are not
abbrev pub drill_by_words : Bool → Bool → Decision
drill_by_words true true = (Undecided, because.ConflictingName)
drill_by_words false true = (Unplated None, because.ByName)
drill_by_words plated false = (Plated None, because.DrillByDefault)

-- what the name of a drill file says: `b-NPTH.drl` is unplated, `b-PTH-NPTH.drl` undecided, and `b.drl` plated by default
abbrev pub drill_by_name : List ℕ → Decision
drill_by_name name = drill_by_words (says_plated (words_of name)) (says_unplated (words_of name))

-- what a file function says, None where there is no function
abbrev pub by_file_function : {A : Type 0} → (List ℕ → Option A) → Option (List ℕ) → Option A
by_file_function says None = None
by_file_function says (Some function) = says function

-- what a drill file is: by its text, else by its name
abbrev pub drill_decision : List ℕ → List ℕ → Decision
drill_decision name text =
    unwrap_or (drill_by_text (says_plated_holes text) (says_unplated_holes text) (by_file_function drill_by_function (function_of text))) (drill_by_name name)

-- ---- Gerber files

-- the place in the stack that a field names by `L` and one to nine digits: 2 of `L2`; else unknown
abbrev pub stack_position : List ℕ → StackPosition
stack_position place = unwrap_or (option_map (λ n. Numbered n) (if bytes_eq (take 1 place) (codes "L") then number_within 9 (drop 1 place) else None)) Unknown

-- the first field of a drill file's function: `Plated`, `NonPlated` or `MixedPlating`
abbrev pub is_drill_function : List ℕ → Bool
is_drill_function first = bytes_eq first (codes "Plated") || (bytes_eq first (codes "NonPlated") || bytes_eq first (codes "MixedPlating"))

-- what the function of a Gerber file says: `Copper,L1,Top` is the layer 1, and `Soldermask,Top` is left out
abbrev pub gerber_by_function : List ℕ → Decision
gerber_by_function function =
    if bytes_eq (field 0 function) (codes "Copper") then (Copper (stack_position (field 1 function)), because.FileFunction (field 0 function))
    else if is_drill_function (field 0 function) then (Undecided, because.DrillInGerber) else (LeftOut, because.FileFunction (field 0 function))

-- a copper layer at this place, by its name
abbrev pub copper_by_name : StackPosition → Option Decision
copper_by_name place = Some (Copper place, because.ByName)

-- a layer without copper, by its name: it is left out
abbrev pub left_out_by_name : Option Decision
left_out_by_name = Some (LeftOut, because.ByName)

-- an inner copper layer, by the number in its name, if there is one
abbrev pub inner_copper_by_name : Option ℕ → Option Decision
inner_copper_by_name number = option_map (λ n. (Copper (Inner n), because.ByName)) number

-- the end of the name of a layer without copper: `gts`, or `gm1`
abbrev pub is_other_extension : List ℕ → Bool
is_other_extension end = is_one_of end other_extensions || is_some (number_suffix numbered_other_extensions end)

-- what the end of the name of a Gerber file says: `gtl` is a top layer, `g1` the first inner layer, and `gp1` a plane
abbrev pub gerber_by_extension : List ℕ → Option Decision
gerber_by_extension end =
    if is_some (number_suffix plane_extensions end) then Some (Undecided, because.Plane)
    else if is_other_extension end then left_out_by_name
    else if is_one_of end top_extensions then copper_by_name Top
    else if is_one_of end bottom_extensions then copper_by_name Bottom else inner_copper_by_name (number_suffix inner_extensions end)

-- a word of a top layer; `f` is one only where a word for copper that followed it was dropped: `b-F_Cu.gbr`
abbrev pub is_top_word : Bool → List ℕ → Bool
is_top_word dropped word = is_one_of word top_words || (dropped && bytes_eq word (codes "f"))

-- a word of a bottom layer; `b` is one only where a word for copper that followed it was dropped
abbrev pub is_bottom_word : Bool → List ℕ → Bool
is_bottom_word dropped word = is_one_of word bottom_words || (dropped && bytes_eq word (codes "b"))

-- what the last word of a stem says; `dropped` says whether words for copper that followed it were dropped
abbrev pub gerber_by_word : Bool → List ℕ → Option Decision
gerber_by_word dropped word =
    if is_top_word dropped word then copper_by_name Top
    else if is_bottom_word dropped word then copper_by_name Bottom
    else option_or (inner_copper_by_name (number_suffix inner_words word)) (if dropped then copper_by_name Unknown else None)

-- what a word of a layer without copper says in a stem: the file is left out, or undecided where the stem names copper too
abbrev pub other_by_name : Bool → Decision
other_by_name copper = if copper then (Undecided, because.ConflictingName) else (LeftOut, because.ByName)

-- What the stem of the name of a Gerber file says. Any word of a layer without copper comes first: `soldermask_top` is left out, and
-- `mask-F_Cu`, which names copper too, undecided. An unclear word says nothing. Else the last word counts that is not one for copper.
abbrev pub gerber_by_stem : List (List ℕ) → Option Decision
gerber_by_stem stem =
    if list_any is_other_word stem then Some (other_by_name (list_any names_copper stem))
    else if list_any is_unclear_word stem then None
    else gerber_by_word (ends_in_copper stem) (last_other_word stem)

-- what the name of a Gerber file says: by its end, else by the last word of its stem
abbrev pub gerber_by_words : Bool → List (List ℕ) → Decision
gerber_by_words point words =
    unwrap_or (option_or (gerber_by_extension (extension_of point words)) (gerber_by_stem (stem_of point words))) (Undecided, because.NothingSays)

-- what a Gerber file is: by its function, else by its name
abbrev pub gerber_decision : List ℕ → List ℕ → Decision
gerber_decision name text = unwrap_or (option_map gerber_by_function (function_of text)) (gerber_by_words (has_end (has_dot name) (words_of name)) (words_of name))

-- ---- each file

-- what a file of this kind is, by its name and its text
abbrev pub by_kind : FileKind → List ℕ → List ℕ → Decision
by_kind Gerber name text = gerber_decision name text
by_kind Drill name text = drill_decision name text
by_kind Empty name text = (LeftOut, because.NoHoles)
by_kind Archive name text = (LeftOut, because.Archive)
by_kind Neither name text = (LeftOut, because.NoKind)

-- what a file with this name and text is
abbrev pub decision : List ℕ → List ℕ → Decision
decision name text = by_kind (kind_of text) name text
