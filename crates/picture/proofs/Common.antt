-- Names that proofs of this crate cite, passed on from one place. Declares nothing.
pub use Rattle.std.proofs.Common.{Bool, IsTrue, List, [], ap, append-nil, ap₂, arith, codes, cond, decimal, false, get_or, if◌then◌else◌, inl, inr, length, ltb, map, pos, refl, rules, subst, suc, sym, take, true, w64, zero, ℕ, ◌&&◌, ◌*◌, ◌++◌, ◌+◌, ◌/◌, ◌<◌, ◌==◌, ◌||◌, ◌∙◌, ◌∷◌, ◌≡◌, ◌≢◌, ◌≤◌}
pub use Rattle.picture.specs.Copper.{flash_corner, next_root}
unfoldable pub use Rattle.picture.specs.Copper.{drawn_polygon, floor_root}
pub use Rattle.picture.specs.Elements.{are_alike, pad_paths}
unfoldable pub use Rattle.picture.specs.Elements.{circle, path_open, placed_hole, placed_pad}
pub use Rattle.picture.specs.Escapes.{begins, begins_entity, begins_forbidden, ends_forbidden, escaped_name, escaped_byte, written_byte}
unfoldable pub use Rattle.picture.specs.Escapes.{IsEscaped, escaped_after}
pub use Rattle.picture.specs.Scenes.{AreSortedBySize, IsOnePathPerSize, crosses_of, drawn_finding, kind_of, kind_order, plain_pads, rounded_pads}
pub use Rattle.ring_rules.proofs.EnumeratedLists.{enumerated_all, flat_listed_more}
pub use Rattle.std.proofs.Output.{has_written_append, has_written_of_eq, writes_in_calls_nil}
pub use Rattle.std.proofs.lemmas.Int.{ints, to_z-of_z, to_z_pos}
pub use Rattle.std.proofs.lemmas.List.{append_assoc, length-take, nil_from_length, take_all}
pub use Rattle.std.specs.Fmt.{HasWritten, IsPlainFormatter}
pub use Rattle.std.specs.List.{enumerate_from, filter, flat_map}
pub use mir.Val.{of_z, to_z}
