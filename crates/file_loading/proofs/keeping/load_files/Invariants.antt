use Rattle.std.proofs.Common.{◌≡◌, map, take, string_bytes}
use Rattle.renju_io.specs.Asked.{IsAskedAtMost}
use Rattle.file_loading.proofs.ManyFileLaws.{AcceptedUpTo}
use Rattle.file_loading.proofs.keeping.load_files.Given as goal

abbrev pub invariant-loop-before : goal.invariant-loop-before
invariant-loop-before g l = record {
  so_far : AcceptedUpTo l.work (g.F.Shelf.files l.initial.shelf) (map string_bytes (take l.before l.names))
      (λ files. g.K.Keeps.kept files l.keeps);
  files : g.F.Shelf.files l.shelf ≡ g.F.Shelf.files l.initial.shelf;
  faults : g.F.Shelf.faults l.shelf ≡ g.F.Shelf.faults l.initial.shelf;
  each : IsAskedAtMost l.before (g.F.Shelf.asked l.initial.shelf) (g.F.Shelf.asked l.shelf);
}
