mod Ages
mod Inflated
mod Inflating
mod OwningSteps
mod Resuming
mod Looking
mod Waking
