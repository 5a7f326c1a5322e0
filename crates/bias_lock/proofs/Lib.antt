mod Keeping
mod Never
