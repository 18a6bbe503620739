-- Names in a picture: `&`, `<` and `>` as entities, and U+FFFE and U+FFFF, which XML forbids, as U+FFFD (docs/FORMATS.md, Pictures).
use Rattle.std.specs.Prelude.{◌≡◌, ◌≢◌, ◌==◌, ◌&&◌, ◌||◌, ℕ, Bool, true, false, List, [], ◌∷◌, ◌++◌, codes, if◌then◌else◌, IsTrue, ⊤}
use Rattle.grid_units.specs.Ascii as ascii

-- a byte of a name as it is printed: `&` is `&amp;`, `<` is `&lt;`, `>` is `&gt;`; any other byte is itself
abbrev pub escaped_byte : ℕ → List ℕ
escaped_byte b = if b == ascii.ampersand then codes "&amp;" else if b == ascii.less_than then codes "&lt;" else if b == ascii.greater_than then codes "&gt;" else b ∷ []

-- a byte is the last of U+FFFE (239 191 190) or U+FFFF (239 191 191), by the two before it
abbrev pub ends_forbidden : ℕ → ℕ → ℕ → Bool
ends_forbidden first second b = (second == 191) && ((first == 239) && ((b == 190) || (b == 191)))

-- a byte as it is printed after two others: the last byte of U+FFFE or U+FFFF becomes that of U+FFFD (239 191 189)
abbrev pub written_byte : ℕ → ℕ → ℕ → List ℕ
written_byte first second b = if ends_forbidden first second b then 189 ∷ [] else escaped_byte b

-- the rest of a name as it is printed, after two bytes of the name
unfoldable pub escaped_after : ℕ → ℕ → List ℕ → List ℕ
escaped_after first second [] = []
escaped_after first second (b ∷ bs) = written_byte first second b ++ escaped_after second b bs

-- a name as it is printed: `a<b` is `a&lt;b`; before its first byte two zeros are assumed
abbrev pub escaped_name : List ℕ → List ℕ
escaped_name name = escaped_after 0 0 name

-- a text begins with some bytes
abbrev pub begins : List ℕ → List ℕ → Bool
begins [] text = true
begins (b ∷ bs) [] = false
begins (b ∷ bs) (c ∷ cs) = (b == c) && begins bs cs

-- the rest of an entity after its `&`: `amp;`, `lt;` or `gt;`, at the start of a text
abbrev pub begins_entity : List ℕ → Bool
begins_entity text = begins (codes "amp;") text || (begins (codes "lt;") text || begins (codes "gt;") text)

-- a text begins with U+FFFE or U+FFFF
abbrev pub begins_forbidden : List ℕ → Bool
begins_forbidden text = begins (239 ∷ 191 ∷ 190 ∷ []) text || begins (239 ∷ 191 ∷ 191 ∷ []) text

-- a text without `<`, U+FFFE and U+FFFF, that has `&` only where an entity begins
unfoldable pub IsEscaped : List ℕ → Type 0
IsEscaped [] = ⊤
IsEscaped (b ∷ bs) = (b ≢ ascii.less_than) × (b ≡ ascii.ampersand → IsTrue (begins_entity bs)) × (begins_forbidden (b ∷ bs) ≡ false) × IsEscaped bs
