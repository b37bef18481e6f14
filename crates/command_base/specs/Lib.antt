-- what commands print and end with, what a run is, what a form and a told command are
pub mod Texts
pub mod Statuses
pub mod Runs
pub mod Forms
pub mod Told
pub mod Refusals
pub mod Positions
-- what the statuses of the searches show
pub mod Searches
