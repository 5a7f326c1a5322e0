mod Biased
mod Known
mod Recorded
mod Resuming
mod Stopping
mod Walking
