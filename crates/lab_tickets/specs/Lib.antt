pub mod Rule
pub mod Deques
pub mod Own
pub mod TicketView
