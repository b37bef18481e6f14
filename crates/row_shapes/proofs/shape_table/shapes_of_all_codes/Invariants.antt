use Rattle.std.proofs.Common.{◌≡◌, ℕ, ◌<◌, vec_len, slice_get, Some}
use Rattle.row_shapes.proofs.Common.{shape_of}
use Rattle.row_shapes.proofs.shape_table.shapes_of_all_codes.Given as goal

-- the shapes so far are those of their codes
abbrev pub invariant-loop-code : goal.invariant-loop-code
invariant-loop-code l = (vec_len l.shapes ≡ l.code) × ((k : ℕ) → k < l.code → slice_get l.shapes.items k ≡ Some (shape_of l.reach k))
