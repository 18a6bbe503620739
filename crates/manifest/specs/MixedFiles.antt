-- What is proposed for a drill file with both plated and unplated holes, in each profile (docs/FORMATS.md, Proposals; Mixed drill files).
use Rattle.std.specs.Prelude.{ℕ, ◌==◌, Bool, true, false, List, [], ◌∷◌, length, take, Option, Some, None, if◌then◌else◌}
use Rattle.std.specs.Result.{is_ok}
use Rattle.drill_text.specs.Profiles.{mixed_in, read_by}
use Rattle.grid_units.specs.Ascii as ascii
use Rattle.grid_units.specs.Limits.{text_limit}
use Rattle.grid_units.specs.declared.profile.Profile.{Profile}
use Rattle.grid_units.specs.declared.profile.Profile.TheVariants.{Strict, Wide}
use Rattle.manifest.specs.Contents.{function_of}
use Rattle.manifest.specs.Decisions.{Decision, decision, lacks_layers, layers_of_function}
use Rattle.manifest.specs.declared.model.ProposedRole.{ProposedRole}
use Rattle.manifest.specs.declared.model.ProposedRole.TheVariants.{Mixed, Undecided}
use Rattle.manifest.specs.declared.model.ProposalReason.{ProposalReason}
use Rattle.manifest.specs.declared.model.ProposalReason.TheVariants as because

-- ---- what a check reads

-- the lines that LF ends and the rest after them, with one byte more before them, which is not LF
abbrev pub with_byte : ℕ → List (List ℕ) × List ℕ → List (List ℕ) × List ℕ
with_byte b ([], rest) = ([], b ∷ rest)
with_byte b (line ∷ lines, rest) = ((b ∷ line) ∷ lines, rest)

-- the lines of a text that LF ends, and the rest after the last LF: of `M48`, LF, `%` the line `M48` and the rest `%`
abbrev pub lines_and_rest : List ℕ → List (List ℕ) × List ℕ
lines_and_rest [] = ([], [])
lines_and_rest (b ∷ bs) =
    let after = lines_and_rest bs in
    if b == ascii.line_feed then ([] ∷ after.0, after.1) else with_byte b after

-- the wide profile reads the text as a mixed drill file: it is legal, and says of each hole whether it is plated
abbrev pub is_mixed_text : List ℕ → Bool
is_mixed_text text =
    let cut = lines_and_rest (take text_limit text) in
    is_ok (read_by (mixed_in Wide) (length text) cut.0 cut.1)

-- ---- what is proposed

-- a drill file with both plated and unplated holes: in the strict profile it is undecided for this reason
abbrev pub is_mixed_reason : ProposalReason → Bool
is_mixed_reason because.MixedHoles = true
is_mixed_reason _ = false

-- the role `mixed`, with the layers of the file function, if there is one; undecided where layers are lacking
abbrev pub mixed_by_function : Option (List ℕ) → Decision
mixed_by_function None = (Mixed None, because.MixedTools)
mixed_by_function (Some function) = if lacks_layers function then (Undecided, because.UnclearLayers) else (Mixed (layers_of_function function), because.MixedTools)

-- what a drill file with both plated and unplated holes is in the wide profile: mixed where a check reads it so, and undecided where not
abbrev pub mixed_decision : List ℕ → Decision
mixed_decision text = if is_mixed_text text then mixed_by_function (function_of text) else (Undecided, because.UnreadMixed)

-- what a file with this name and text is in a profile: the wide one alone has the role `mixed`
abbrev pub decision_in : Profile → List ℕ → List ℕ → Decision
decision_in Strict name text = decision name text
decision_in Wide name text = if is_mixed_reason (decision name text).1 then mixed_decision text else decision name text

-- a mixed drill file
abbrev pub is_mixed_role : ProposedRole → Bool
is_mixed_role (Mixed span) = true
is_mixed_role _ = false
