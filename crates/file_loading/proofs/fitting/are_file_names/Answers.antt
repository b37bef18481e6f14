-- An empty word is no name.
use Rattle.std.proofs.Common.{◌≡◌, [], arith, rules, string_bytes}
use Rattle.std.proofs.lemmas.Grind.{common_steps}
use Rattle.file_loading.proofs.ManyFileLaws.{filled-at}
use Rattle.file_loading.proofs.fitting.are_file_names.Goals as goal

pub returns-then-is_empty-2 : goal.returns-then-is_empty-2
returns-then-is_empty-2 c =
    let empty : string_bytes c.name-item.result ≡ [] = first_of (search rules, grind (arith, common_steps)) in
    record {
      names = (
        λ t. cc,
        λ are. absurd
            (filled-at string_bytes c.args.names.now c.loop-name.name-index c.name-item.result c.loop-name-test.true c.name-item.is are.each
            empty),
      );
    }
