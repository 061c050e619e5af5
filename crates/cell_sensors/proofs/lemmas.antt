pub mod LineLemmas
pub mod CurveTestLemmas
