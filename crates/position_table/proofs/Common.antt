-- The words of position_table, all in one place for the files of laws.
pub use Rattle.position_table.specs.Lateness.{Late, kept_late}
pub use Rattle.position_table.specs.Packing.{Packed, byte_at, code_at, code_of, packed}
unfoldable pub use Rattle.position_table.specs.Packing.{bytes_of}
pub use Rattle.position_table.specs.Remembering.{IsTrueEntry, IsTrueTable, Remembered, TestTells, kept, looked_up, same_key, same_packed}
pub use Rattle.position_table.specs.Remembering.{value_under}
