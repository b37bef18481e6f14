-- The files of a join, once they are loaded.
use Rattle.std.proofs.Common.{ℕ, List, [], ◌∷◌, Option}
use Rattle.std.specs.List.{AllByRecursion}
use Rattle.join_command.proofs.Common.{TableFile, AreTableFiles}
use Rattle.renju_io.specs.Files.{Files}
use Rattle.join_command.specs.Adopting.{IsAcceptedFile}

-- each has a text, and is accepted
pub accepted-files : (work : ℕ) (shelf : Option Files) (names : List (List ℕ)) (files : List TableFile)
    → AreTableFiles work shelf names files → AllByRecursion IsAcceptedFile files
accepted-files work shelf [] [] h = tt
accepted-files work shelf [] (file ∷ files) h = absurd h
accepted-files work shelf (name ∷ names) [] h = absurd h
accepted-files work shelf (name ∷ names) (file ∷ files) h =
    (record { text = (h.0.bytes, h.0.at.text); accepted = h.0.fit.accepted }, accepted-files work shelf names files h.1)
