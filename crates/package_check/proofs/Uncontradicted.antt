-- A file that the wide profile reads does not contradict its role.
use Rattle.package_check.proofs.Common.{◌≡◌, ◌↔◌, ℕ, false, List, Result, Ok, ap, ◌∙◌, list_any, Fault, Profile, Wide, DrillCommand, KindsReadTheSame, UncontradictedIsLegal, calls_plated, ReadsIn, unplated_in, IsDrillText, Role, Said, BytesHaveContent, ReadIsUncontradicted, said_in, Content}
use Rattle.drill_text.specs.Profiles as drills
use Rattle.manifest.specs.declared.Role.TheVariants as role
use Rattle.package_check.specs.declared.contents.Content.TheVariants as content
use Rattle.package_check.proofs.FlashReadingLemmas.{ok_same}

module _ (texts : (text : List ℕ) (commands : List DrillCommand) → (drills.Reads text (Ok commands)) ↔ (IsDrillText text commands))
    (drills_too : (text : List ℕ) (commands : List DrillCommand) → drills.Reads text (Ok commands) → ReadsIn Wide text (Ok commands))
    (once : (profile : Profile) (text : List ℕ) (a b : Result (List DrillCommand) Fault) → ReadsIn profile text a → ReadsIn profile text b → a ≡ b)
    (same : KindsReadTheSame) (legal : UncontradictedIsLegal) where
  -- the commands of its drill text are those that the wide profile reads, and these break no rule of unplated files
  silent : (q : Role) (name : List ℕ) (said : Said) (bytes : List ℕ) (n : ℕ) (c : Content) → BytesHaveContent (record { role = q; name = name; said = said_in Wide said; bytes = bytes; setting = record { layers = n; profile = Wide } }) c
      → q ≡ role.Unplated → (commands : List DrillCommand) → IsDrillText bytes commands → list_any calls_plated commands ≡ false
  silent role.Unplated name said bytes n (content.Drill p v d) h is commands text =
      let read = (same (unplated_in Wide) bytes h.0.0).0 h.0.1 in
      let equal : commands ≡ h.0.0 = ok_same (once Wide bytes (Ok commands) (Ok h.0.0) (drills_too bytes commands ((texts bytes commands).1 text)) read.0) in
      ap (list_any calls_plated) equal ∙ (legal h.0.0).0 read.1
  silent role.Unplated name said bytes n c h is commands text = absurd h
  silent q name said bytes n c h is commands text = absurd cc

  pub read_is_uncontradicted : ReadIsUncontradicted
  read_is_uncontradicted source c h is commands text = silent source.role source.name source.said source.bytes source.setting.layers c h.1 is commands text
