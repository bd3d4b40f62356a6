pub mod WaitedPeers
pub mod NotificationsAgain
