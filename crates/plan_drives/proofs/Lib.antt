mod Learning
mod Lasting
pub mod lemmas
mod Lacking
mod Rows
mod Resumes
