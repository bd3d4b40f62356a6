-- Repeats, uploads, kept answers, observers, flights, due, fetches, challenges, and what each table
-- shows of them; in which order admissions are (RFC 7252 sections 4.2 and 4.5, RFC 7641, RFC 7959,
-- RFC 9176 section 5.1, RFC 9175 section 2).

pub mod Same
pub mod Events
pub mod Repeats
pub mod AdmissionOrder
pub mod Uploads
pub mod KeptAnswers
pub mod Observers
pub mod Flights
pub mod Due
pub mod Fetches
pub mod Challenges
