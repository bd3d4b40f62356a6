pub mod TickNotifications
pub mod FreshNotifications
pub mod TickFolds
pub mod KnownFlights
pub mod CarriedListings
pub mod TickFlights
pub mod FirstBodies
