-- What is printed of one file: its table, or its canonical text (docs/FORMATS.md, The program).
use Rattle.std.specs.Prelude.{◌≡◌, ◌<◌, ◌⊎◌, ◌++◌, ◌∷◌, [], ℕ, List, length, codes, decimal, Result, Ok, Err, ⊤, Option, Some, None, if◌then◌else◌}
use Rattle.std.specs.Str.{bytes_eq}
use Rattle.std.specs.Io.KnownBytes.{Appends}
use Rattle.grid_units.specs.declared.fault.Fault.{Fault}
use Rattle.grid_units.specs.declared.fault.Reason.TheVariants.{BadRole}
use Rattle.grid_units.specs.Reasons.{reason_name}
use Rattle.grid_units.specs.declared.profile.Profile.{Profile}
use Rattle.ringcheck_files.specs.declared.rewrite.Kind.{Kind}
use Rattle.ringcheck_files.specs.declared.rewrite.Kind.TheVariants as kind
use Rattle.ringcheck_files.specs.Rewriting.{Rewrites}
use Rattle.ringcheck_files.specs.Tables.{ShowsDrill, ShowsLayer}
use Rattle.ringcheck_files.specs.declared.Status.{Status}
use Rattle.ringcheck_files.specs.declared.Status.TheVariants as status
use Rattle.ringcheck_files.specs.declared.file_jobs.FileJob.{FileJob}
use Rattle.ringcheck_files.specs.declared.file_jobs.FileJob.TheVariants as job
use Rattle.ringcheck_files.specs.LoaderRelation.{Relation, file_limit, too_long, within}
use Rattle.ringcheck_files.specs.Containers.{folder_sentence}
use Rattle.ringcheck_files.specs.Sentences.{unread_sentence}
use Rattle.ringcheck_files.specs.Words.{IsUsageStatus, Says}
use Rattle.ringcheck_files.specs.Writers.{IsSilent, IsSilentStatus, Written}
use Rattle.grid_units.specs.Ascii as ascii

-- the kind that a word names: `layer` or `drill`; no other word names one
abbrev pub parse_kind : List ℕ → Option Kind
parse_kind word = if bytes_eq word (codes "layer") then Some kind.Layer else if bytes_eq word (codes "drill") then Some kind.Drill else None

-- the table of the bytes, which are read in this profile as a file of this kind, or their fault
abbrev pub Shows : Profile → Kind → List ℕ → Result (List ℕ) Fault → Type 0
Shows profile kind.Layer bytes answer = ShowsLayer profile bytes answer
Shows profile kind.Drill bytes answer = ShowsDrill profile bytes answer

-- what a task prints of the bytes, which are read as a file of this kind, or their fault
abbrev pub Prints : FileJob → Kind → List ℕ → Result (List ℕ) Fault → Type 0
Prints (job.Show profile) kind bytes answer = Shows profile kind bytes answer
Prints job.Rewrite kind bytes answer = Rewrites kind bytes answer

-- the line of a single file that is refused: `refused place=0 byte=0 reason=TooLong`
abbrev pub refusal_line : Fault → List ℕ
refusal_line why =
    codes "refused place=" ++ (decimal why.place ++ (codes " byte=" ++ (decimal why.byte ++ (codes " reason=" ++ (reason_name why.reason ++ ascii.line_feed ∷ [])))))

-- the loader has bytes within the limit, and the writer got just their table or their canonical text
pub record PrintsFile (what : FileJob) (kind : Kind) (has : Relation) (name : List ℕ) (before after : Option (List ℕ)) : Type 0 where
  pub bytes : List ℕ
  pub loaded : within file_limit has name bytes
  pub text : List ℕ
  pub answer : Prints what kind bytes (Ok text)
  pub written : Appends before after text

-- the bytes have this fault, or are above the limit and the fault is `too_long`
abbrev pub HasFileFault : FileJob → Kind → List ℕ → Fault → Type 0
HasFileFault what kind bytes why = ((file_limit < length bytes) × (why ≡ too_long)) ⊎ Prints what kind bytes (Err why)

-- the loader has bytes with this fault, and the writer got just its line
pub record PrintsFileRefusal (what : FileJob) (kind : Kind) (has : Relation) (name : List ℕ) (before after : Option (List ℕ)) : Type 0 where
  pub bytes : List ℕ
  pub loaded : has name bytes
  pub why : Fault
  pub fault : HasFileFault what kind bytes why
  pub printed : Appends before after (refusal_line why)

-- what a status says of `show` or `rewrite` on a file of this kind
abbrev pub IsFileStatus : FileJob → Kind → Relation → List ℕ → Option (List ℕ) → Option (List ℕ) → Status → Type 0
IsFileStatus what kind has name before after status.Pass = PrintsFile what kind has name before after
IsFileStatus what kind has name before after status.Refused = PrintsFileRefusal what kind has name before after
IsFileStatus what kind has name before after status.Device = ⊤
IsFileStatus what kind has name before after _ = ⊥

-- to the writer beside the answer just why the file of this name cannot be read was written: that it is a folder, or that it cannot be read below some folder, or where
-- the program was started. Which folder that is, and which of the two it is, no clause says.
abbrev pub SaysUnread : List ℕ → Option (List ℕ) → Option (List ℕ) → Type 0
SaysUnread name before after = Says (Some (folder_sentence name)) before after ⊎ ((folder : Option (List ℕ)) × Says (Some (unread_sentence name folder)) before after)

-- what was said beside the answer of `show` or `rewrite`, by its status: at Device just why the file of this name cannot be read, and else nothing
abbrev pub SaysOfFile : List ℕ → Written → Written → Status → Type 0
SaysOfFile name before after status.Device = SaysUnread name before.1 after.1
SaysOfFile name before after s = IsSilent before after

-- what a status says of `show` or `rewrite` on a file of the kind that a word names, or where it names none
abbrev pub IsKindStatus : FileJob → Option Kind → Relation → List ℕ → Option (List ℕ) → Option (List ℕ) → Status → Type 0
IsKindStatus what (Some kind) has name before after s = IsFileStatus what kind has name before after s
IsKindStatus what None has name before after s = IsUsageStatus BadRole before after s

-- the same, with what was said beside it
abbrev pub IsParsedFileStatus : FileJob → Option Kind → Relation → List ℕ → Written → Written → Status → Type 0
IsParsedFileStatus what kind has name before after s = IsKindStatus what kind has name before.0 after.0 s × IsSilentStatus before after s
