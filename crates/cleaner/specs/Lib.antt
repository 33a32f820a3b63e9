pub mod AfterClean
pub mod Chosen
pub mod Cleaned
pub mod CleanText
pub mod Live
pub mod PagesRead
