-- Waiting, and waking those who wait.
pub mod WaitRules
pub mod Tellings
pub mod NotifyCalls
pub mod WaitFacts
pub mod WaitEnds
pub mod WaitStarts
pub mod WaitCalls
