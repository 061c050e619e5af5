pub mod Records
pub mod Results
pub mod Laws
pub mod LastMoments
