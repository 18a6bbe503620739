use Rattle.drill_text.proofs.Common.{◌≡◌, ℕ, Bool, List, Result, Reason, Repeat, Profile, map, Option, None, Some, Ok, Err, sym, ap, subst, ◌∙◌, DrillCommand, Settings, without_end_blanks, HasReadLines, ReadsLine, meaning_in, ItemFail, IsRefusedAs, IfFault, fault, with_place, settings_after, rule_in, checked_by, checked_repeat, ends_in_hit, repeat_after, spelled_in}
use Rattle.drill_lines.specs.Repeats.{repeat_in}
use Rattle.drill_lines.specs.declared.line_reader.LineReader.{LineReader}
use Rattle.drill_lines.proofs.RepeatLemmas.{repeat_stays}
use Rattle.drill_text.proofs.ProfileLemmas.{spelled_in_is, spelled_repeat}
use Rattle.drill_text.proofs.SpelledLemmas.{settings_are, lines_more, line_results}
use Rattle.drill_text.proofs.reader.parse_line.Goals as goal

-- how the line repeats a hit, by what the reader answers
row_after : (profile : Profile) (reader : LineReader) (earlier : List (List ℕ)) (before : List DrillCommand) (line : List ℕ) (hit : Bool) (s : Settings) (row : Option (Result Repeat Reason))
    → hit ≡ ends_in_hit before → s ≡ settings_after before → HasReadLines reader profile (settings_after before) (map without_end_blanks earlier)
    → ((profile : Profile) (lines : List (List ℕ)) → HasReadLines reader profile s lines → row ≡ repeat_in profile hit lines s (without_end_blanks line)) → repeat_after profile earlier before line ≡ row
row_after profile reader earlier before line hit s row hit_is same h answers =
    let lines = map without_end_blanks earlier in
    (λ i. repeat_in profile (sym hit_is i) lines (sym same i) (without_end_blanks line)) ∙ sym (answers profile lines (subst (λ (x : Settings). HasReadLines reader profile x lines) (sym same) h))

pub returns-in-Some : goal.returns-in-Some
returns-in-Some c p keep earlier before place byte h =
    let line = c.args.line.now in
    let s = settings_after before in
    let repeat = c.in-Some.repeat in
    let rule = rule_in p.profile p.plating in
    let same : c.settings.result ≡ s = c.settings.ensures ∙ settings_are c.args.state.now p before h.has_read.is_state in
    let row = row_after p.profile c.args.reader.now earlier before line c.is_after_hit.result c.settings.result (Some repeat) (c.is_after_hit.ensures ∙ h.has_read.after_hit) same h.lines c.in-Some.ensures in
    let spells = spelled_repeat p earlier line before repeat c.requires.short row in
    line_results c.keep_repeat.result c.args.reader.now c.keep_repeat.new.state c.keep_repeat.new.kept p keep earlier line (with_place c.args.place c.args.byte (checked_repeat rule before repeat)) (spelled_in p earlier line before)
    (spells ∙ (λ i. with_place (sym place i) (sym byte i) (checked_repeat rule before repeat)))
    (λ after. lines_more c.args.reader.now p.profile (settings_after after) earlier line (repeat_stays c.args.reader.now p.profile (ends_in_hit before) s (settings_after after) (map without_end_blanks earlier) (without_end_blanks line) repeat h.lines row)) (c.keep_repeat.ensures p keep before h.has_read)

pub returns-in-Ok-None : goal.returns-in-Ok-None
returns-in-Ok-None c p keep earlier before place byte h =
    let line = c.args.line.now in
    let s = settings_after before in
    let same : c.settings.result ≡ s = c.settings.ensures ∙ settings_are c.args.state.now p before h.has_read.is_state in
    let none = row_after p.profile c.args.reader.now earlier before line c.is_after_hit.result c.settings.result None (c.is_after_hit.ensures ∙ h.has_read.after_hit) same h.lines c.in-None.ensures in
    let again : c.settings-in-None.result ≡ s = c.settings-in-None.ensures ∙ settings_are c.args.state.now p before h.has_read.is_state in
    let read = c.in-Ok-None.ensures p.profile (map without_end_blanks earlier) (subst (λ (x : Settings). HasReadLines c.args.reader.now p.profile x (map without_end_blanks earlier)) (sym again) h.lines) in
    let nothing = subst (λ (o : Option DrillCommand). ReadsLine (Ok o) c.read.new.self p.profile c.settings-in-None.result (map without_end_blanks earlier) (without_end_blanks line)) c.in-Ok-None.field-0-is read in (
      before,
      spelled_in_is p earlier line before (Ok None) c.requires.short none (ap (λ (x : Settings). meaning_in p.profile (map without_end_blanks earlier) x (without_end_blanks line)) (sym again) ∙ nothing.0),
      record { lines = lines_more c.read.new.self p.profile s earlier line (nothing.1 s (sym again)); has_read = h.has_read },
    )

pub returns-in-Ok-Some : goal.returns-in-Ok-Some
returns-in-Ok-Some c p keep earlier before place byte h =
    let line = c.args.line.now in
    let s = settings_after before in
    let command = c.in-Ok-Some.command in
    let same : c.settings.result ≡ s = c.settings.ensures ∙ settings_are c.args.state.now p before h.has_read.is_state in
    let none = row_after p.profile c.args.reader.now earlier before line c.is_after_hit.result c.settings.result None (c.is_after_hit.ensures ∙ h.has_read.after_hit) same h.lines c.in-None.ensures in
    let again : c.settings-in-None.result ≡ s = c.settings-in-None.ensures ∙ settings_are c.args.state.now p before h.has_read.is_state in
    let read = c.in-Ok-Some.ensures p.profile (map without_end_blanks earlier) (subst (λ (x : Settings). HasReadLines c.args.reader.now p.profile x (map without_end_blanks earlier)) (sym again) h.lines) in
    let some = subst (λ (o : Option DrillCommand). ReadsLine (Ok o) c.read.new.self p.profile c.settings-in-None.result (map without_end_blanks earlier) (without_end_blanks line)) c.in-Ok-Some.field-0-is read in
    let spells = spelled_in_is p earlier line before (Ok (Some command)) c.requires.short none (ap (λ (x : Settings). meaning_in p.profile (map without_end_blanks earlier) x (without_end_blanks line)) (sym again) ∙ some.0) in
    line_results c.keep.result c.read.new.self c.keep.new.state c.keep.new.kept p keep earlier line (with_place c.args.place c.args.byte (checked_by (rule_in p.profile p.plating) before (Some command))) (spelled_in p earlier line before)
    (spells ∙ (λ i. with_place (sym place i) (sym byte i) (checked_by (rule_in p.profile p.plating) before (Some command)))) (λ after. lines_more c.read.new.self p.profile (settings_after after) earlier line (some.1 (settings_after after) tt)) (c.keep.ensures p keep before h.has_read)

pub returns-in-Err-Refused : goal.returns-in-Err-Refused
returns-in-Err-Refused c p keep earlier before place byte h =
    let line = c.args.line.now in
    let s = settings_after before in
    let why = c.in-Err-Refused.reason in
    let same : c.settings.result ≡ s = c.settings.ensures ∙ settings_are c.args.state.now p before h.has_read.is_state in
    let none = row_after p.profile c.args.reader.now earlier before line c.is_after_hit.result c.settings.result None (c.is_after_hit.ensures ∙ h.has_read.after_hit) same h.lines c.in-None.ensures in
    let again : c.settings-in-None.result ≡ s = c.settings-in-None.ensures ∙ settings_are c.args.state.now p before h.has_read.is_state in
    let read = c.in-Err-Refused.ensures p.profile (map without_end_blanks earlier) (subst (λ (x : Settings). HasReadLines c.args.reader.now p.profile x (map without_end_blanks earlier)) (sym again) h.lines) in
    let refused = subst (λ (e : ItemFail). IsRefusedAs e (meaning_in p.profile (map without_end_blanks earlier) c.settings-in-None.result (without_end_blanks line))) c.in-Err-Refused.field-0-is read in
    subst (IfFault (λ f. spelled_in p earlier line before ≡ Err f)) (sym c.refusal.ensures)
    (spelled_in_is p earlier line before (Err why) c.requires.short none (ap (λ (x : Settings). meaning_in p.profile (map without_end_blanks earlier) x (without_end_blanks line)) (sym again) ∙ refused) ∙ (λ i. Err (fault (sym place i) (sym byte i) why)))
