pub mod EmptyLogs
