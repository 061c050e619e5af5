mod Prefixes
mod Unsaid
mod ExplainRows
