pub mod AlikeSessions
pub mod PlayedSessions
