mod Turning
mod GoingOn
mod Resuming
mod FaultBits
mod LineRows
