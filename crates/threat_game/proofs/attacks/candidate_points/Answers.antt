use Rattle.std.proofs.Common.{◌≡◌, true, refl, sym, ◌∙◌, arith, nat_eq, length, List, [], ◌∷◌}
use Rattle.std.proofs.lemmas.Bool.Decides.{nat_tests}
use Rattle.game_rules.specs.declared.Point.{Point}
use Rattle.game_rules.proofs.Common.{Grid, mover, other}
use Rattle.game_rules.proofs.Boards.{is_empty-on}
use Rattle.row_shapes.proofs.FiveLaws.{one-empty}
use Rattle.stone_board.proofs.LineBits.{board-near}
use Rattle.open_windows.proofs.Points.{windows-of}
use Rattle.threat_game.proofs.CandidateLaws.{several-candidates, one-candidates, window-candidates, all-candidates}
use Rattle.threat_game.proofs.attacks.candidate_points.Goals as goal

nil-by : (ps : List Point) → nat_eq (length ps) 0 ≡ true → ps ≡ []
nil-by [] h = refl
nil-by (p ∷ ps) h = absurd (grind (arith, nat_tests))

pub the_point-requires : goal.the_point-requires
the_point-requires g c =
    let b : Grid = g.V.Seen.position c.args.view.now in
    let empty = one-empty g.R.Rule.KIND b (other (mover b)) c.in-One.only (sym c.requires.told ∙ c.in-One.is) in
    let near = board-near b c.in-One.only c.requires.lawful.board (is_empty-on b c.in-One.only empty) in
    record { column = near.column; row = near.row }

pub returns-in-Several : goal.returns-in-Several
returns-in-Several g c = record {
  others = several-candidates g.R.Rule.KIND (g.V.Seen.position c.args.view.now) c.requires.lawful (sym c.in-Several.is ∙ c.requires.told)
      c.empty.result;
}

pub returns-in-One : goal.returns-in-One
returns-in-One g c = record {
  others = one-candidates g.R.Rule.KIND (g.V.Seen.position c.args.view.now) c.requires.lawful c.in-One.only
      (sym c.in-One.is ∙ c.requires.told) c.the_point.result c.the_point.ensures.point;
}

pub returns-then-is_empty : goal.returns-then-is_empty
returns-then-is_empty g c = record {
  others =
      let b : Grid = g.V.Seen.position c.args.view.now in
      window-candidates g.R.Rule.KIND b c.requires.lawful c.requires.none
      (sym c.requires.twos ∙ nil-by c.args.twos.now (sym c.is_empty.ensures ∙ c.if-is_empty.true)) c.window_points.result
      (windows-of _ b _ (mover b) 2 _ c.board.ensures.board c.side.ensures.side c.window_points.ensures.points);
}

pub returns-else-is_empty : goal.returns-else-is_empty
returns-else-is_empty g c = record {
  others = all-candidates g.R.Rule.KIND (g.V.Seen.position c.args.view.now) c.requires.lawful c.all.result c.all.ensures.all;
}
