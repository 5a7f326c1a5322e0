mod Never
mod Room
