-- The steps of every operation, as trees that branch by the word that a step finds.
pub mod StepTree
pub mod Plans
pub mod LockSteps
pub mod MonitorSteps
pub mod WaitSteps
pub mod BiasSteps
pub mod SafepointSteps
pub mod RevocationSteps
pub mod DeflateSteps
pub mod CreateSteps
pub mod HashSteps
pub mod LookSteps
pub mod Operations
pub mod Calls
