-- The words of solve_command, all in one place for the files of laws.
pub use Rattle.solve_command.specs.Solves.{IsFirstLine, IsLeftOver, IsSolved, IsToldByThreats, IsWonByAStep, IsWonByFours, MayBeTooGreat}
pub use Rattle.solve_command.specs.Solves.{ShowsSolution, SolutionSays, SpeaksOfSolution, WritesSolution, solve_command}
