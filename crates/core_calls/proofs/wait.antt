-- Waiting, and waking those who wait.
pub mod WaitsSay
pub mod WaitCallsSay
pub mod Waiters
pub mod WhoIsWoken
