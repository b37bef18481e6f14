use Rattle.std.proofs.Common.{◌≡◌, ◌++◌, filter, string_bytes}
use Rattle.game_rules.proofs.Common.{holds, points_of}
use Rattle.text_lines.proofs.Common.{Extends, points_text}
use Rattle.position_files.proofs.written.push_stones.Given as goal

-- the stones so far, and those among the points that are left, stand behind the text
abbrev pub invariant-loop-p : goal.invariant-loop-p
invariant-loop-p l = record {
  told : string_bytes l.text ++ points_text (filter (holds l.board l.side) l.p-iterator) ≡ string_bytes l.fn.text
      ++ points_text (filter (holds l.board l.side) (points_of l.board));
  kept : Extends (string_bytes l.fn.text) (string_bytes l.text);
}
