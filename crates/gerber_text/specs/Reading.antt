-- The commands of a Gerber text in a profile, or its first fault (docs/FORMATS.md, Cutting; The first fault; What an item spells; The
-- wide profile).
use Rattle.std.specs.Prelude.{◌≡◌, ℕ, suc, ◌≤◌, Bool, true, ◌||◌, ◌==◌, nat_lt, List, [], ◌∷◌, ◌++◌, length, take, map, if◌then◌else◌, Result, Ok, Err, IfOk, Option, Some, None}
use Rattle.std.specs.List.{list_all, AllByRecursion}
use Rattle.std.specs.Global.{Vec}
use Rattle.grid_units.specs.Results.{◌>>=◌, fault, with_place, IfFault}
use Rattle.grid_units.specs.Lists.{last_set}
use Rattle.grid_units.specs.declared.fault.Reason.TheVariants.{TooLong, AfterEnd, Truncated}
use Rattle.grid_units.specs.declared.fault.Fault.{Fault}
use Rattle.grid_units.specs.declared.fault.Fail.{Fail}
use Rattle.grid_units.specs.declared.fault.Fail.TheVariants as fails
use Rattle.gerber_commands.specs.declared.command.Action.{Action}
use Rattle.gerber_commands.specs.declared.command.Command.{Command}
use Rattle.gerber_commands.specs.declared.command.Command.TheVariants.{Operate}
use Rattle.grid_units.specs.declared.profile.Profile.{Profile}
use Rattle.gerber_text.specs.Meaning.{meaning_in}
use Rattle.gerber_text.specs.declared.placed.Placed.{Placed}
use Rattle.gerber_text.specs.Cut.{OffsetByte, offset_bytes, bytes_of, first_offset, has_end, Splits}
use Rattle.grid_units.specs.Limits.{text_limit, item_limit}
use Rattle.grid_units.specs.Ascii as ascii

-- commands, each with the number of its item, from 1, and the offset of that item's first byte
abbrev pub Entries : Type 0
Entries = List (Placed Command)

-- what an operation does: plot, move or flash; `None` for any other command
abbrev pub action_of : Command → Option Action
action_of (Operate action x y i j) = Some action
action_of _ = None

-- the last operation among these commands, if there is one (Gerber format, Coordinate data without operation code)
abbrev pub latest_action : Entries → Option Action
latest_action before = last_set (λ entry. action_of entry.what) before

-- the answer of a call that adds these entries after others: the last operation, given the last one before them
abbrev pub LatestAfter : {E : Type 0} → Option Action → Result (Option Action) E → Entries → Type 0
LatestAfter latest result more = (before : Entries) → latest ≡ latest_action before → IfOk result (λ new. new ≡ latest_action (before ++ more))

-- the commands of one item, each with the item's number and the offset of its first byte
abbrev pub item_entries : ℕ → ℕ → List Command → Entries
item_entries place byte commands = map (λ what. record { place = place; byte = byte; what = what }) commands

-- these commands, and after them those that the item of these bytes spells in the profile; or the item's fault
unfoldable pub spelled_in : Profile → ℕ → ℕ → List ℕ → Entries → Result Entries Fault
spelled_in profile place byte bytes before =
    with_place place byte (if nat_lt item_limit (length bytes) then Err TooLong
    else (meaning_in profile (latest_action before) bytes >>= λ commands. Ok (before ++ item_entries place byte commands)))

-- What a call leaves is what reading gives, running out of memory aside: the commands after it, or the fault.
abbrev pub ResultsIn : {X : Type 0} → Result X Fail → Entries → Result Entries Fault → Type 0
ResultsIn (Ok x) new read = read ≡ Ok new
ResultsIn (Err fails.Memory) new read = Unit {0}
ResultsIn (Err (fails.Refused f)) new read = read ≡ Err f

-- these commands and those of the items, the first with this number; or the fault of the first item that has one
abbrev pub commands_by : Profile → ℕ → List (List OffsetByte) → Entries → Result Entries Fault
commands_by profile place [] before = Ok before
commands_by profile place (item ∷ items) before = spelled_in profile place (first_offset item) (bytes_of item) before >>= commands_by profile (suc place) items

-- a space, a tab or `*`, which may stand after the end of the text, as CR and LF may
abbrev pub may_follow : ℕ → Bool
may_follow b = (b == ascii.space) || ((b == ascii.tab) || (b == ascii.asterisk))

-- after the end of the text, the first byte that may not stand there is AfterEnd at the next place
abbrev pub after_end : ℕ → Entries → List OffsetByte → Result Entries Fault
after_end place commands [] = Ok commands
after_end place commands (m ∷ ms) = if may_follow m.1 then after_end place commands ms else Err (fault place m.0 AfterEnd)

-- the commands, or the first fault that these items and this rest show, whatever bytes follow
abbrev pub shown_by : Profile → List (List OffsetByte) → List OffsetByte → Result Entries Fault
shown_by profile items rest = commands_by profile 1 items [] >>= λ commands.
    if has_end items then after_end (suc (length items)) commands rest
    else if nat_lt item_limit (length rest) then Err (fault (suc (length items)) (first_offset rest) TooLong) else Ok commands

-- what is shown in a text of this length: TooLong above 268,435,456 bytes, unless there is an earlier fault
abbrev pub shown_within : Profile → ℕ → List (List OffsetByte) → List OffsetByte → Result Entries Fault
shown_within profile len items rest = shown_by profile items rest >>= λ commands.
    if nat_lt text_limit len then Err (fault (suc (length items)) text_limit TooLong) else Ok commands

-- A text shows these commands or this fault in the profile, whatever bytes follow it.
pub record ShowsIn (profile : Profile) (text : List ℕ) (answer : Result Entries Fault) : Type 0 where
  pub items : List (List OffsetByte)
  pub rest : List OffsetByte
  pub splits : Splits (offset_bytes (take text_limit text)) items rest
  pub answer_is : answer ≡ shown_within profile (length text) items rest

-- a space or a tab
abbrev pub is_blank : ℕ → Bool
is_blank b = (b == ascii.space) || (b == ascii.tab)

-- the commands of a text that ends here; Truncated without `M02`, at the text's length where only blanks are left over
abbrev pub entries_at_end : ℕ → List (List OffsetByte) → List OffsetByte → Entries → Result Entries Fault
entries_at_end len items rest commands =
    if has_end items then Ok commands
    else Err (fault (suc (length items)) (if list_all is_blank (bytes_of rest) then len else first_offset rest) Truncated)

-- the commands of a whole text of this length, or its first fault
abbrev pub read_by : Profile → ℕ → List (List OffsetByte) → List OffsetByte → Result Entries Fault
read_by profile len items rest = shown_by profile items rest >>= λ commands.
    if nat_lt text_limit len then Err (fault (suc (length items)) text_limit TooLong) else entries_at_end len items rest commands

-- A whole text spells these commands in the profile, or has this as its first fault.
pub record ReadsIn (profile : Profile) (text : List ℕ) (answer : Result Entries Fault) : Type 0 where
  pub items : List (List OffsetByte)
  pub rest : List OffsetByte
  pub splits : Splits (offset_bytes (take text_limit text)) items rest
  pub answer_is : answer ≡ read_by profile (length text) items rest

-- A text spells these commands in the profile: its items spell them in order, the last one is the end of the text, and only spaces,
-- tabs and `*` stand after it.
pub record SpellsTextIn (profile : Profile) (text : List ℕ) (commands : Entries) : Type 0 where
  pub items : List (List OffsetByte)
  pub tail : List OffsetByte
  pub splits : Splits (offset_bytes text) items tail
  pub ends : has_end items ≡ true
  pub spelled : commands_by profile 1 items [] ≡ Ok commands
  pub follows : AllByRecursion (λ m. may_follow m.1 ≡ true) tail
  pub short : length text ≤ text_limit

-- The first items of a text, as many as `kept`, spell these commands in the profile.
pub record SpellsPrefixIn (profile : Profile) (text : List ℕ) (kept : ℕ) (commands : Entries) : Type 0 where
  pub items : List (List OffsetByte)
  pub rest : List OffsetByte
  pub splits : Splits (offset_bytes (take text_limit text)) items rest
  pub within : kept ≤ length items
  pub spelled : commands_by profile 1 (take kept items) [] ≡ Ok commands

-- the items before the place of a fault spell these commands; where memory ran out, some first items do
abbrev pub SpellsBeforeFaultIn : Profile → List ℕ → Fail → Entries → Type 0
SpellsBeforeFaultIn profile text fails.Memory commands = (kept : ℕ) × SpellsPrefixIn profile text kept commands
SpellsBeforeFaultIn profile text (fails.Refused f) commands = (kept : ℕ) × (f.place ≡ suc kept) × SpellsPrefixIn profile text kept commands

-- the commands of a whole text without a fault in the profile, or the fault and the commands before it
abbrev pub ReadsUpToFault : {X : Type 0} → Profile → List ℕ → Entries → Result X Fail → Type 0
ReadsUpToFault profile text commands (Ok _) = ReadsIn profile text (Ok commands)
ReadsUpToFault profile text commands (Err e) = IfFault (λ f. ReadsIn profile text (Err f)) e × SpellsBeforeFaultIn profile text e commands

-- the commands that were dropped, and after them those of a vector
abbrev pub entries_after : Entries → Vec (Placed Command) → Entries
entries_after gone v = gone ++ v.items

-- the commands that a vector holds, in order
abbrev pub entries_of : Vec (Placed Command) → Entries
entries_of v = v.items
