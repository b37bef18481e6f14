use Rattle.std.proofs.Common.{◌≡◌, ◌+◌, ◌-◌, ℕ, ap, arith, min, refl}
use Rattle.proof_number.proofs.Common.{Attack, Defend, Kind, Numbers, Tree, numbers_at}
use Rattle.proof_tree.proofs.Common.{sought}
use Rattle.proof_number.proofs.Following.{by_kind, few-nodes, follows, found-numbers, found-sums, room-fits}
use Rattle.proof_number.proofs.search.Search.follow.Goals as goal

-- the numbers that are found, by what was read
found-is : (t : Tree) (leaf node : ℕ) (spare old other : Numbers) (a b : ℕ) → old ≡ numbers_at t.numbers leaf
    → other ≡ numbers_at t.numbers node → a ≡ min other.proof (old.proof + spare.proof)
    → b ≡ min other.disproof (old.disproof + spare.disproof) → (kind : Kind) → sought kind (record { proof = a; disproof = b })
    ≡ min (sought kind (numbers_at t.numbers node)) (sought kind (numbers_at t.numbers leaf) + sought kind spare)
found-is t leaf node spare old other a b is_old is_other first second Attack = rw is_other at (rw is_old at first)
found-is t leaf node spare old other a b is_old is_other first second Defend = rw is_other at (rw is_old at second)

pub overflow_add-room : goal.overflow_add-room
overflow_add-room g c =
    let fits = room-fits c.requires.searching c.args.leaf c.args.node c.requires.leaf c.requires.other Attack in
    let few = few-nodes c.requires.searching c.args.leaf c.args.node c.requires.leaf c.requires.other in
    let same = ap (λ (n : Numbers). n.proof) c.numbers-old.ensures.numbers in
    omega (arith, fits, few, same)

pub overflow_add-room-2 : goal.overflow_add-room-2
overflow_add-room-2 g c =
    let fits = room-fits c.requires.searching c.args.leaf c.args.node c.requires.leaf c.requires.other Defend in
    let few = few-nodes c.requires.searching c.args.leaf c.args.node c.requires.leaf c.requires.other in
    let same = ap (λ (n : Numbers). n.disproof) c.numbers-old.ensures.numbers in
    omega (arith, fits, few, same)

pub renumber-requires : goal.renumber-requires
renumber-requires g c =
    let is = found-is c.args.tree.now c.args.leaf c.args.node c.args.self.now.spare c.numbers-old.result c.numbers-other.result c.min.result
    c.min-2.result c.numbers-old.ensures.numbers c.numbers-other.ensures.numbers c.min.ensures c.min-2.ensures in
    record {
      in_tree = c.requires.leaf.in_tree;
      childless = c.requires.leaf.childless;
      numbers = found-numbers c.requires.searching c.args.leaf c.args.node c.requires.leaf c.requires.other _ is;
      sums = found-sums c.requires.searching c.args.leaf c.args.node c.requires.leaf c.requires.other _ is;
    }

pub returns : goal.returns
returns g c =
    let is = found-is c.args.tree.now c.args.leaf c.args.node c.args.self.now.spare c.numbers-old.result c.numbers-other.result c.min.result
    c.min-2.result c.numbers-old.ensures.numbers c.numbers-other.ensures.numbers c.min.ensures c.min-2.ensures in
    let own = c.numbers-old.ensures.numbers in
    let left : Numbers = record {
      proof = c.numbers-old.result.proof + c.args.self.now.spare.proof - c.min.result;
      disproof = c.numbers-old.result.disproof + c.args.self.now.spare.disproof - c.min-2.result;
    } in
    record {
      followed = follows c.requires.searching c.args.leaf c.args.node c.requires.leaf c.requires.other
          (record { proof = c.min.result; disproof = c.min-2.result }) is (record c.args.self.now { spare = left }) refl
          (by_kind (λ (kind : Kind). sought kind left ≡ sought kind (numbers_at c.args.tree.now.numbers c.args.leaf)
          + sought kind c.args.self.now.spare - sought kind (record { proof = c.min.result; disproof = c.min-2.result }))
          (ap (λ (n : Numbers). n.proof + c.args.self.now.spare.proof - c.min.result) own)
          (ap (λ (n : Numbers). n.disproof + c.args.self.now.spare.disproof - c.min-2.result) own))
          c.renumber.new.self c.renumber.ensures.links c.renumber.ensures.numbers c.renumber.ensures.others c.renumber.ensures.leaves
          c.renumber.ensures.tree;
    }
