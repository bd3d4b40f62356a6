pub mod ObserverKnowledge
pub mod AddedObservers
pub mod TickKnowledge
pub mod ObserversKnow
pub mod DueRows
pub mod SentOctets
