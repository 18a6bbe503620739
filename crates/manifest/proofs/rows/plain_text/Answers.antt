use Rattle.manifest.proofs.Common.{◌≡◌, false, refl, inl, inr, is_utf8-from_IsUtf8, IsUtf8-from_is_utf8, cases_Bool, is_utf8, list_any, is_control}
use Rattle.manifest.proofs.rows.plain_text.Goals as goal

pub returns-in_default : goal.returns-in_default
returns-in_default c = elim (cases_Bool (is_utf8 c.args.bytes.now)) [
  | inl t ↦ absurd (c.in_default.ensures.cases.0 (IsUtf8-from_is_utf8 c.args.bytes.now t))
  | inr f ↦ rw f refl
]

pub returns-else-has_control : goal.returns-else-has_control
returns-else-has_control c =
    let plain : list_any is_control c.args.bytes.now ≡ false = cc in
    (rw (is_utf8-from_IsUtf8 c.args.bytes.now c.in-Ok.ensures.cases.1, plain) refl, c.in-Ok.ensures.cases.0)
