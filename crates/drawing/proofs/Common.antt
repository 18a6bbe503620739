-- Names that proofs of this crate cite, passed on from one place. Declares nothing.
pub use Rattle.std.proofs.Common.{◌≡◌, ◌≤◌, ◌<◌, ◌*◌, ◌^◌, ◌⊎◌, inl, inr, ℕ, suc, arith, refl, sym, subst, ap, ◌+◌, ◌++◌, List, [], ◌∷◌, Option, length, take, get_or, map, ◌∙◌, append-nil, ap₂, ℤ, w64, to_z, of_z, codes, ◌/◌}
pub use Rattle.drawing.specs.Layouts.{IsBar, IsRound, IsFirstLeast, square_error}
pub use Rattle.std.specs.List.{flat_map, fold, AllZip, enumerate_from}
pub use Rattle.std.proofs.lemmas.List.{take_more, get_or-map, length-map}
pub use Rattle.drawing.specs.Boxes.{GridExtent, joined_to, cross_extent, hole_extent, pad_extent, edge_extents, joint_extent}
pub use Rattle.ring_rules.proofs.EnumeratedLists.{enumerated_more, enumerated_all}
pub use Rattle.pad_shapes.specs.declared.row.FeatureRow.{FeatureRow}
pub use Rattle.pad_shapes.specs.declared.drawn.Drawn.{Drawn}
pub use Rattle.drawing.specs.Pages.{IsPage, text_start, bar_at, length_words, IsPanel}
pub use Rattle.std.proofs.Output.{has_written_append, has_written_of_eq}
