pub mod Bits
pub mod CellBytes
pub mod CellTables
pub mod Fitting
pub mod FromFn
pub mod Outlined
pub mod Told
