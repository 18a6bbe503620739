use Rattle.gerber_text.proofs.Common.{◌≡◌, ℕ, List, take, drop, get_or, length, All, ◌<◌, subst, ◌∙◌, arith, take_rest, length-drop, end_byte, IsInside}
use Rattle.gerber_text.proofs.LeadingItemLemmas.{leading_item}
use Rattle.gerber_text.proofs.reader.item_len.Goals as goal

pub returns-then-len-le-ITEM_LIMIT : goal.returns-then-len-le-ITEM_LIMIT
returns-then-len-le-ITEM_LIMIT c =
    let bytes = c.args.bytes.now in
    let len = c.inside_len-len.result in
    let end : c.end_byte-end.result ≡ end_byte bytes = c.end_byte-end.ensures in
    let more : len < length (drop 1 bytes) = omega (arith, length-drop 1 bytes, c.if-len-rest.true, c.requires.some) in
    let run : All (IsInside c.end_byte-end.result) (take len (drop 1 bytes)) = subst (λ (x : List ℕ). All (IsInside c.end_byte-end.result) (take len x)) (take_rest bytes 1) c.inside_len-len.ensures.inside in
    let ends : get_or (drop 1 bytes) len 0 ≡ c.end_byte-end.result = subst (λ (x : List ℕ). get_or x len 0 ≡ c.end_byte-end.result) (take_rest bytes 1) c.if-rest-len.true in
    leading_item bytes len c.requires.some c.requires.inside more (subst (λ e. All (IsInside e) (take len (drop 1 bytes))) end run) (ends ∙ end) (omega (arith, c.if-len-le-ITEM_LIMIT.true))
