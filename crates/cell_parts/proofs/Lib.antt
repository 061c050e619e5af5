pub mod lemmas
mod AtWork
mod AxisFigures
mod Bounds
mod CollisionBounds
mod Contrasts
mod DemandBounds
mod Figures
mod PartBounds
mod RawLemmas
mod Raws
