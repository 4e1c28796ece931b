pub mod StateCode
