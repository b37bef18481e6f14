-- The files of a cover: how many parts are kept of them, and one more.
use Rattle.std.proofs.Common.{◌≡◌, sym, ap, ◌∙◌, ℕ, suc, ◌≤◌, List, [], ◌∷◌, ◌++◌, length, arith, Option, Some, None}
use Rattle.std.specs.List.{cons_option}
use Rattle.std.proofs.lemmas.List.Elements.{filter_map-append}
use Rattle.position_files.specs.declared.TableFile.{TableFile}
use Rattle.renju_io.specs.Files.{Files}
use Rattle.reply_cover.specs.declared.Part.{Part}
use Rattle.reply_cover.specs.declared.TheConstants.{MAX_PARTS}
use Rattle.command_base.specs.Runs.{Change}
use Rattle.file_loading.specs.ManyFiles.{AreKept}
use Rattle.file_loading.proofs.ManyFileLaws.{files-count}
use Rattle.cover_command.specs.PartFiles.{ArePartNames, part_by, parts_of}

one-more : (o : Option Part) (parts : List Part) (n : ℕ) → length parts ≤ n → length (cons_option o parts) ≤ suc n
one-more (Some part) parts n few = omega (arith, few)
one-more None parts n few = omega (arith, few)

parts-few : (files : List TableFile) → length (parts_of files) ≤ length files
parts-few [] = omega arith
parts-few (f ∷ files) = one-more (part_by f.root f) (parts_of files) (length files) (parts-few files)

-- no more is kept than there are names
pub kept-few : (work : ℕ) (names : List (List ℕ)) (shelf : Change (Option Files)) (parts : List Part)
    → AreKept (λ files. parts ≡ parts_of files) work names shelf → ArePartNames names → length parts ≤ MAX_PARTS
kept-few work names shelf parts h are =
    let size = ap length h.kept in
    let few = parts-few h.files in
    let count = files-count work shelf.before names h.files h.accepted in
    let most = are.few in
    omega (arith, size, few, count, most)

-- what is kept of files and of one more
pub kept-more : (old new : List Part) (file : TableFile) → new ≡ old ++ parts_of (file ∷ []) → (files : List TableFile)
    → old ≡ parts_of files → new ≡ parts_of (files ++ file ∷ [])
kept-more old new file added files kept = added ∙ ap (λ (ps : List Part). ps ++ parts_of (file ∷ [])) kept
    ∙ sym (filter_map-append (λ (f : TableFile). part_by f.root f) files (file ∷ []))
