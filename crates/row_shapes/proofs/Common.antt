-- The words of row_shapes, all in one place for the files of laws.
pub use Rattle.row_shapes.specs.FiveEnds.{joins_to_win, kept_five, with_axis, with_more}
unfoldable pub use Rattle.row_shapes.specs.FiveEnds.{end_five}
pub use Rattle.row_shapes.specs.FivePoints.{in_short, is_several, takes}
pub use Rattle.row_shapes.specs.Gaps.{fours_from, listed}
unfoldable pub use Rattle.row_shapes.specs.Gaps.{are_stones, is_four}
pub use Rattle.row_shapes.specs.HalfTables.{TellsHalves, seen}
pub use Rattle.row_shapes.specs.Halves.{SeesHalf, SeesLine, cell_of_bits, cell_off, fours_off, free_at, free_place, half_cells, is_four_off, is_free, is_open}
pub use Rattle.row_shapes.specs.Halves.{nine_places, owns, row_beyond, row_past, rule_by, three_off, wins_off, wins_window}
unfoldable pub use Rattle.row_shapes.specs.Halves.{cells_of}
pub use Rattle.row_shapes.specs.LineCodes.{first_digits, from_digits, places_beside}
unfoldable pub use Rattle.row_shapes.specs.LineCodes.{digit_at, line_code}
pub use Rattle.row_shapes.specs.LineShapes.{IsShape, LawOfReach, cell_of_digit, line_board, line_cells, middle, rule_of_reach, stone_shape}
unfoldable pub use Rattle.row_shapes.specs.LineShapes.{shape_at, shape_of, three_bits}
pub use Rattle.row_shapes.specs.Reach.{reach_towards, stones_in_reach, stones_past}
pub use Rattle.row_shapes.specs.Rule.{fewer_never, reach_of}
pub use Rattle.row_shapes.specs.Threes.{bit_of, is_open_four, place_towards, three_place, wins_past}
pub use Rattle.row_shapes.specs.Windows.{AreWindowLines, HasRow, IsPassed, IsWindow}
