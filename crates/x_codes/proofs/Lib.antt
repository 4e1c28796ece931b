pub mod StateLemmas
