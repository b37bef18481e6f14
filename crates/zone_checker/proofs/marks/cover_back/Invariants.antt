use Rattle.std.proofs.Common.{◌≡◌, ◌≤◌, ◌<◌, ℕ, length, get_or}
use Rattle.zone_checker.specs.Marks.{covered, kept_back, blank}
use Rattle.zone_checker.proofs.marks.cover_back.Given as goal

abbrev pub invariant-loop-i : goal.invariant-loop-i
invariant-loop-i l = record {
  size : length l.marks.items ≡ length l.fn.marks.items;
  done : (k : ℕ) → k < l.i → get_or l.marks.items k blank ≡ covered (get_or l.fn.marks.items k blank) (kept_back (get_or l.others k blank));
  left : (k : ℕ) → l.i ≤ k → get_or l.marks.items k blank ≡ get_or l.fn.marks.items k blank;
}
