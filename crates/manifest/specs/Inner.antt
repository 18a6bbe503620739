pub mod RecordEntry
