mod CellRows
mod LengthRows
mod Measuring
