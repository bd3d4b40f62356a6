pub mod FittingReplies
pub mod OwnSends
pub mod NotedSends
pub mod TickedSends
pub mod SentRows
pub mod DatagramRows
