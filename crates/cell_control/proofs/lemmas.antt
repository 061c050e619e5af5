pub mod StepLemmas
pub mod Facts
pub mod SharedZones
pub mod TurnMaps
pub mod Senses
pub mod BenchLemmas
pub mod TurnsByAnswers
pub mod WaitLemmas
