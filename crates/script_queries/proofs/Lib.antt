pub mod Bodies
pub mod Seeking
