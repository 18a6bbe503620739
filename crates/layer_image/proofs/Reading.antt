-- A text of legal commands reads as their layer.
use Rattle.layer_image.proofs.Common.{◌≡◌, ℕ, List, length, Bool, true, false, cond, Ok, Err, [], refl, sym, ap, subst, ◌∙◌, nat_lt, arith, take-length, Fault, bind_ok, Profile, OffsetByte, has_end, Entries, commands_by, shown_by, ReadsIn, SpellsPrefixIn, shown_spelled, reads_spells, LayerImage, ReadsLayerIn, image_of, IsLegal, text_limit, without_places, broken_rule_in}

ended_ok : (t u : Bool) (x cs : Entries) (e d : Fault) → cond t (Err e) (cond u (Ok x) (Err d)) ≡ Ok cs → x ≡ cs
ended_ok true u x cs e d h = absurd cc
ended_ok false true x cs e d h = cc
ended_ok false false x cs e d h = absurd cc

-- all items of a text that is read are kept
pub kept_all : (profile : Profile) (text : List ℕ) (cs : Entries) → ReadsIn profile text (Ok cs) → (kept : ℕ) × (k : SpellsPrefixIn profile text kept cs) × (kept ≡ length k.items)
kept_all profile text cs r =
    let first = bind_ok (shown_by profile r.items r.rest) _ cs (sym r.answer_is) in
    let same : first.0 ≡ cs = ended_ok (nat_lt text_limit (length text)) (has_end r.items) first.0 cs _ _ first.2 in (
      length r.items,
      record {
        items = r.items;
        rest = r.rest;
        splits = r.splits;
        within = omega arith;
        spelled = ap (λ (x : List (List OffsetByte)). commands_by profile 1 x []) (take-length r.items) ∙ shown_spelled profile r.items r.rest first.0 first.1 ∙ ap (λ (x : Entries). Ok x) same;
      },
      refl,
    )

-- legal commands make a layer
pub legal_layer : (profile : Profile) (text : List ℕ) (entries : Entries) (layer : LayerImage) → ReadsIn profile text (Ok entries) → IsLegal (broken_rule_in profile) (without_places entries) → layer ≡ image_of entries → ReadsLayerIn profile text (Ok layer)
legal_layer profile text entries layer r legal is = subst (λ (l : LayerImage). ReadsLayerIn profile text (Ok l)) (sym is) (record { spells = reads_spells profile text entries r; legal = legal }, refl)
