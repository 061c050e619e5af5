pub mod LimitLaws
pub mod CalibratedLaws
