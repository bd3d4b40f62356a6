pub mod ObserverNotes
pub mod ObserversEnd
pub mod ToldObservers
pub mod ObserversStand
