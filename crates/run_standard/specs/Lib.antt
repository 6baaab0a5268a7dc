pub mod Forms
pub mod Bits
pub mod Numbers
pub mod Reading
pub mod Arrays
pub mod Maps
pub mod Texts
pub mod Standard
