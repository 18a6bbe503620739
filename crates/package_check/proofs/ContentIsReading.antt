-- The content of a file is just what reading it gives where it has no fault.
use Rattle.package_check.proofs.Common.{◌≡◌, ℕ, Bool, true, false, List, Result, Ok, Err, refl, Fault, Role, Said, Content, FileView, Setting, HasContent, BytesHaveContent, Reads, ReadsBytes, ReadsUnlessBadSpan, bad_span, is_bad_span}
use Rattle.manifest.specs.declared.Role.TheVariants as role

bytes_content : (q : Role) (name : List ℕ) (said : Said) (bytes : List ℕ) (n : Setting) (c : Content) → ReadsBytes (record { role = q; name = name; said = said; bytes = bytes; setting = n }) (Ok c)
    → BytesHaveContent (record { role = q; name = name; said = said; bytes = bytes; setting = n }) c
bytes_content role.Copper name said bytes n c h = h
bytes_content q name said bytes n c h = h

bytes_read : (q : Role) (name : List ℕ) (said : Said) (bytes : List ℕ) (n : Setting) (c : Content) → BytesHaveContent (record { role = q; name = name; said = said; bytes = bytes; setting = n }) c
    → ReadsBytes (record { role = q; name = name; said = said; bytes = bytes; setting = n }) (Ok c)
bytes_read role.Copper name said bytes n c h = h
bytes_read q name said bytes n c h = h

-- a file with a content has no bad span
good_span : (t : Bool) (s : FileView) (c : Content) → ReadsUnlessBadSpan t s (Ok c) → (t ≡ false) × ReadsBytes s (Ok c)
good_span true s c h = absurd (let e : (let x : Result Content Fault = Ok c in let y : Result Content Fault = Err bad_span in x ≡ y) = h in cc)
good_span false s c h = (refl, h)

read_unless : (t : Bool) (s : FileView) (c : Content) → t ≡ false → ReadsBytes s (Ok c) → ReadsUnlessBadSpan t s (Ok c)
read_unless true s c e h = absurd cc
read_unless false s c e h = h

pub content_read : (s : FileView) (c : Content) → Reads s (Ok c) → HasContent s c
content_read s c h =
    let good = good_span (is_bad_span s.role s.said.span s.setting.layers) s c h in
    (good.0, bytes_content s.role s.name s.said s.bytes s.setting c good.1)

pub reading_of : (s : FileView) (c : Content) → HasContent s c → Reads s (Ok c)
reading_of s c h = read_unless (is_bad_span s.role s.said.span s.setting.layers) s c h.0 (bytes_read s.role s.name s.said s.bytes s.setting c h.1)
