pub mod Lap
pub mod Plates
pub mod Following
pub mod Arriving
pub mod OneLap
pub mod Figures
pub mod WrongHistories
pub mod RingRows
