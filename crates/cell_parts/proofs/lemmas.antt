pub mod NoCollision
