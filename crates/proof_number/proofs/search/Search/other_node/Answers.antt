use Rattle.proof_number.proofs.Steps.{recalled-stands}
use Rattle.proof_number.proofs.search.Search.other_node.Goals as goal

pub returns-then-is_alive-clause-still : goal.returns-then-is_alive-clause-still
returns-then-is_alive-clause-still g c =
    recalled-stands c.requires.at_leaf c.recall.new.self c.recall.ensures.rest _ c.recall.ensures.entries

pub returns-else-node-len-clause-still : goal.returns-else-node-len-clause-still
returns-else-node-len-clause-still g c =
    recalled-stands c.requires.at_leaf c.recall.new.self c.recall.ensures.rest _ c.recall.ensures.entries

pub returns-in_default : goal.returns-in_default
returns-in_default g c = record {
  other = tt;
  still = recalled-stands c.requires.at_leaf c.recall.new.self c.recall.ensures.rest _ c.recall.ensures.entries;
  rest = c.recall.ensures.rest;
}

pub returns-in_default-2-clause-still : goal.returns-in_default-2-clause-still
returns-in_default-2-clause-still g c =
    recalled-stands c.requires.at_leaf c.recall.new.self c.recall.ensures.rest _ c.recall.ensures.entries
