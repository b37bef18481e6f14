-- The laws of sequences of threats. They serve this crate alone.

-- the words of the crate, in one place
mod Common
-- final points that are on no line with the last gain
mod FarFinals
-- the lists that a search looks at
mod FoundInLists
-- lists that have no final point wherever they began
mod BarrenLists
