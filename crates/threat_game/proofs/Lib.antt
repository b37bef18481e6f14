-- The laws of the game of threats. What is declared by `pub mod` the layers above may cite; the rest serves this crate alone.

-- the words of the game of threats, in one place
pub mod Common
-- moves that have to be tried, and the last one; what a reply leaves; positions counted
pub mod AttackLaws
pub mod ReplyLaws
pub mod TreeLaws
-- one reply that stands for others
pub mod Kept
-- replies after which the win of the first one wins too, and those that have to be asked
mod MetLaws
-- wins by a double point, their nodes, and new double points
pub mod DoubleLaws
-- the node of a double point that answers all replies
mod StandingLaws
-- two moves against a side without fouls
mod TwoMoves
-- moves where each goes on; where an escape meets each of them there is no win
mod FreeMoves
-- where new double points can be; open windows with three stones, and the stones around a point, as bits
mod NearDoubles
mod OpenThrees
mod CrossDoubles
mod AroundBits
-- stones outside open windows
mod WindowLaws
-- moves outside a set of points, which need not be tried
mod CandidateLaws
-- points where Black neither wins nor fouls, also after a stone of White
mod QuietLaws
-- double points that are kept to settle replies by, and that they are the first ones
mod KeptDoubles
mod FirstDoubles
-- wins that are written, and positions that are settled
mod WrittenLaws
