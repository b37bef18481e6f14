use Rattle.std.proofs.Common.{ℕ, List, slice_index_or, ap}
use Rattle.foul_judge.specs.ShortCut.{reaches_of}
use Rattle.foul_judge.proofs.shapes.black_shapes.Goals as goal

pub black_shape-requires-clause-reach : goal.black_shape-requires-clause-reach
unfolding reaches_of
black_shape-requires-clause-reach g c = ap (λ (reaches : List ℕ). slice_index_or reaches 0 0) c.requires.reaches

pub black_shape-requires-2-clause-reach : goal.black_shape-requires-2-clause-reach
unfolding reaches_of
black_shape-requires-2-clause-reach g c = ap (λ (reaches : List ℕ). slice_index_or reaches 1 0) c.requires.reaches

pub black_shape-requires-3-clause-reach : goal.black_shape-requires-3-clause-reach
unfolding reaches_of
black_shape-requires-3-clause-reach g c = ap (λ (reaches : List ℕ). slice_index_or reaches 2 0) c.requires.reaches

pub black_shape-requires-4-clause-reach : goal.black_shape-requires-4-clause-reach
unfolding reaches_of
black_shape-requires-4-clause-reach g c = ap (λ (reaches : List ℕ). slice_index_or reaches 3 0) c.requires.reaches
