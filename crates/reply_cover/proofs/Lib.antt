-- The laws of covers. What is declared by `pub mod` the layers above may cite; the rest serves this crate alone.

-- a board that is compared with an image point by point, and the eight symmetries
mod ImageLaws
-- a cover that is told, and an open reply
pub mod CoverLaws
