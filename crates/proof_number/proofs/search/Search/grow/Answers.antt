use Rattle.proof_number.proofs.Steps.{leaf-inside}
use Rattle.proof_number.proofs.search.Search.grow.Goals as goal

pub link-requires : goal.link-requires
link-requires g c = record {
  in_tree = leaf-inside c.requires.at_leaf;
}
