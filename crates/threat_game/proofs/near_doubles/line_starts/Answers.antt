use Rattle.std.proofs.Common.{subst}
use Rattle.game_rules.specs.declared.Side.{Side}
use Rattle.stone_board.specs.Lines.{line_of, TellsLine}
use Rattle.threat_game.proofs.OpenThrees.{starts-of}
use Rattle.threat_game.proofs.near_doubles.line_starts.Goals as goal

pub returns : goal.returns
returns c = record {
  starts = starts-of c.args.board.now c.args.side c.args.axis (line_of c.args.axis c.args.p) c.line_through-own.result c.line_through.result
      c.three_starts.result c.line_through-own.ensures.board c.line_through-own.ensures.tells
      (subst (λ (t : Side). TellsLine c.args.board.now t c.args.axis (line_of c.args.axis c.args.p) c.line_through.result)
      c.other.ensures.other c.line_through.ensures.tells) c.three_starts.ensures.starts;
}
