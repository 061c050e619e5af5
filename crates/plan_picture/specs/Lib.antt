pub mod Elements
pub mod Scenes
pub mod Pictures
pub mod PictureLaws
pub mod PictureExamples
