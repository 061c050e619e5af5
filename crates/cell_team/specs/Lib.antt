pub mod Team
pub mod Heeded
pub mod WrongPrograms
pub mod Renewals
pub mod NextCalls
pub mod Names
