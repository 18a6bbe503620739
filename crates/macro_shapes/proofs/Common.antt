-- Names that proofs of this crate cite, passed on from one place. Declares nothing.
pub use Rattle.std.proofs.Common.{Bool, List, None, Option, Some, [], add-one, ap, append_assoc, arith, cond, drop, eqb, false, get_or, inl, inr, le_trans, leb, length, ltb, map, max, min, negsuc, not, pos, refl, reverse, set, subst, suc, sym, take, true, unsigned_abs, w64, zero, ℕ, ℤ, ◌%◌, ◌*ℤ◌, ◌*◌, ◌++◌, ◌+ℤ◌, ◌+◌, ◌-ℤ◌, ◌-◌, ◌/◌, ◌<ℤ◌, ◌<◌, ◌^◌, ◌↔◌, ◌∙◌, ◌∷◌, ◌≡◌, ◌≤ℤ◌, ◌≤◌, ◌⊎◌}
pub use Rattle.grid_units.proofs.TriangleInequalities.{le_of_squares, square-le, square_distance_comm}
pub use Rattle.grid_units.specs.Points.{GridPoint, IsCoordinate, max_coordinate, square, square_distance}
pub use Rattle.macro_shapes.specs.Inner.Borders.{border_in_turn, chosen, disc_in_turn, discs_in_turn, least, line_in_turn}
pub use Rattle.macro_shapes.specs.Inner.Pieces.{all_decimals, all_values, fields_from, on_piece}
unfoldable pub use Rattle.macro_shapes.specs.Inner.Pieces.{parameters_of}
pub use Rattle.macro_shapes.proofs.PiecesLemmas.{decimals_next, macro_exactly, no_macro, value_exactly}
pub use Rattle.macro_shapes.specs.Inner.Reading.{State, on_byte, start, state, step}
unfoldable pub use Rattle.macro_shapes.specs.Inner.Reading.{run}
pub use Rattle.macro_shapes.specs.Inner.Steps.{other_point, second_crossing}
pub use Rattle.macro_shapes.specs.Pieces.{IsMacro}
pub use Rattle.macro_shapes.specs.Primitives.{IsInLine, IsInPrimitive, IsInRectangle, are_different, grid_point, is_closed, is_same, moves, outline_at, point_at, polygon_of, polygon_round, primitives_of, rounded_of, run_of, stops}
pub use Rattle.macro_shapes.specs.Shapes.{ShapeIsInPrimitives, centre_shape, cross_shape, diameter_at, do_cross, least_of, line_shape, rectangle_about, rectangle_along, rectangle_of, segment, width_along, with_arms, with_border}
unfoldable pub use Rattle.macro_shapes.specs.Shapes.{border, cross_border, disc_at, line_along}
pub use Rattle.macro_shapes.specs.Values.{Environment, have_other_signs, in_range, lookup}
unfoldable pub use Rattle.macro_shapes.specs.Values.{exact_quotient}
pub use Rattle.macro_shapes.specs.declared.fields.Fields.{Fields}
pub use Rattle.macro_shapes.specs.declared.primitive.Primitive.{Primitive}
pub use Rattle.pad_shapes.proofs.PartsLemmas.{area_of, at_least_0, no_cross, no_times, parts_of, times_no}
pub use Rattle.pad_shapes.specs.Inner.Fan.{edge, no_area}
pub use Rattle.pad_shapes.specs.Inner.Identities.{Is, cancel, is_add, is_mul, is_n, is_sub, is_z, length_is, of_natural, same, untimes-le}
pub use Rattle.pad_shapes.specs.Rounded.{Edge, GridRounded, IsInRounded, IsNear, along, corners, cross, edges, edges_back, has_area, is_beside, is_convex, is_deep_inside, is_deep_left, is_deep_left_of_all, is_outline, max_corners, square_edge}
pub use Rattle.std.proofs.lemmas.Bool.{and_from, and_parts, cases_lt, eqb-true, false≢true, le-leb, le-ltb, leb-false, leb-true, ltb-false, ltb-true, or_cases}
pub use Rattle.std.proofs.lemmas.Bool.Decides.{Decides-int_eq, nat_tests, same_from_decides}
pub use Rattle.std.proofs.lemmas.Int.{by_lt_z, clamps, ints, to_z-of_z, unsigned_abs-mul}
pub use Rattle.std.proofs.lemmas.List.{append-nil, drop-append-le, drop-take, drop_all, drop_more, get_or_default, get_or_past, length-reverse, length-take, length-take-le, reverse-append, take_all, take_more, take_more_set, take_rest}
pub use Rattle.std.proofs.lemmas.List.Elements.{All-cons, All-contains, All-nil}
pub use Rattle.std.proofs.lemmas.Nat.{div-add-mod', mul-le}
pub use Rattle.std.proofs.lemmas.Option.{cond_some, option_and_then_some, same_Some}
pub use Rattle.std.proofs.lemmas.Result.{IfOk-weaker}
pub use Rattle.std.specs.Int.{int_max, int_min}
pub use Rattle.std.specs.List.{All, Contains, cons_option, filter_map, fold, list_any, onto_first, position, position_or_len, reduce}
pub use Rattle.std.specs.Option.{option_copied, option_or}
pub use Rattle.std.specs.Ordering.{int_eq}
pub use Rattle.std.specs.Prelude.{IfSome, IsSome, MatchOption, if◌then◌else◌, int_le, int_lt, is_some, nat_le, nat_lt, option_and_then, option_map, zip, ◌&&◌, ◌==◌, ◌||◌}
pub use Rattle.grid_units.proofs.SplitLemmas.{left_of}
pub use Rattle.grid_units.specs.Rows.{split_by_if, split_by}
pub use mir.Val.{of_z, to_z}
