-- Dumps and their shots.
pub mod DumpCall
