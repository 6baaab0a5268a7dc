pub mod EngineInfo
pub mod Override
