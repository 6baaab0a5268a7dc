pub mod UsualHost
