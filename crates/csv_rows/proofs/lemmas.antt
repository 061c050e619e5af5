pub mod RowsTaken
