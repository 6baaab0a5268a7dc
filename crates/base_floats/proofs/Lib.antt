pub mod Steps
mod Worked
