pub mod CraneFacts
pub mod CraneRows
pub mod DepositFacts
pub mod FeedFacts
pub mod StepNumbers
