-- files that are loaded one after another
mod PartLaws
-- the command: its answers, and what its runs show
pub mod CoverRuns
