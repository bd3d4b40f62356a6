pub mod TickNotes
