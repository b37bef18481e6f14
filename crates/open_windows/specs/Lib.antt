pub mod OpenWindows
pub mod PointSets
pub mod Rows
