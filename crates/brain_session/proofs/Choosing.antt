-- The choice where nothing is followed yet, by what applies.
use Rattle.std.proofs.Common.{◌≡◌, ℕ, ap, subst, Option, Some, None, IfSome, option_map, rules}
use Rattle.brain_session.proofs.Common.{Grid, RuleKind, Point, IsTable, HeldTable, FourTable, Guide, Followed, HeldNode, OwnWin, Game}
use Rattle.brain_session.proofs.Common.{board_of, Choice, or_else, move_by, by_following, first_node, own_win, by_own_win, by_plain_move}
use Rattle.brain_session.proofs.Common.{chosen_anew, IsFound, IsOwnTable, NodeStandsAt, StandsAt, choice_of, followed_of, nodes_of}
use Rattle.brain_session.specs.declared.choice.ChosenMove.{ChosenMove}

module _ (h : HeldTable) (g : Game) where
  -- what is followed where its move is this
  followed-is : (f : Followed) (p : Point) → move_by h g.rule (board_of g) f ≡ Some p
      → by_following h g f ≡ Some (record { at = p; followed = Some f })
  followed-is f p e = ap (option_map (λ (q : Point). let c : Choice = record { at = q; followed = Some f } in c)) e

  -- a held root leads to a node
  pub chosen-held : (i : ℕ) (p : Point) → first_node g h.roots ≡ Some i → move_by h g.rule (board_of g) (HeldNode i) ≡ Some p
      → chosen_anew h g ≡ record { at = p; followed = Some (HeldNode i) }
  unfolding chosen_anew
  chosen-held i p first move = search (rules, followed-is)

  no_held : first_node g h.roots ≡ None → chosen_anew h g ≡ or_else (by_own_win h g) (λ _. by_plain_move g)
  unfolding chosen_anew
  no_held first = search rules

  -- none does, and the brain finds a win of its own
  pub chosen-own : (moves : ℕ) (p : Point) → first_node g h.roots ≡ None → own_win g.rule (board_of g) ≡ Some moves
      → move_by h g.rule (board_of g) (OwnWin moves) ≡ Some p → chosen_anew h g ≡ record { at = p; followed = Some (OwnWin moves) }
  chosen-own moves p first win move = search (rules, followed-is, no_held)

  -- it finds none
  pub chosen-plain : first_node g h.roots ≡ None → own_win g.rule (board_of g) ≡ None → chosen_anew h g ≡ by_plain_move g
  chosen-plain first win = search (rules, no_held)

-- ---- the chosen move

module _ (h : HeldTable) (g : Game) (c : ChosenMove) (guide : Guide) (is : c.guide ≡ Some guide) where
  -- it is the choice that follows the guide
  pub move-chosen : chosen_anew h g ≡ record { at = c.at; followed = Some (followed_of guide) } → choice_of c ≡ chosen_anew h g
  move-chosen chosen = search rules

  -- the guide stands at the board
  pub move-stands : (rule : RuleKind) (b : Grid) → IsTable (nodes_of h guide) → NodeStandsAt h rule b guide
      → IfSome c.guide (StandsAt h rule b)
  move-stands rule b table stands = search rules

-- what is found on a board that is b
pub found-own : (rule : RuleKind) (b d : Grid) (o : Option FourTable) (own : FourTable) → o ≡ Some own → d ≡ b → IsFound rule d o
    → IsOwnTable rule b own
found-own rule b d o own is same found = subst (λ (x : Grid). IsOwnTable rule x own) same (subst (IsFound rule d) is found)

pub found-nothing : (rule : RuleKind) (b d : Grid) (o : Option FourTable) → o ≡ None → d ≡ b → IsFound rule d o → own_win rule b ≡ None
found-nothing rule b d o is same found = subst (λ (x : Grid). own_win rule x ≡ None) same (subst (IsFound rule d) is found)
