mod Growing
mod Takes
mod PictureRows
