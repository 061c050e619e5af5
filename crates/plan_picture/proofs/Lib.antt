mod Apart
mod Counted
mod Drawn
mod Fitting
mod Owned
mod PictureRows
mod Silent
pub mod lemmas
