pub mod BaseLemmas
mod ByteRowEight
mod ByteRowEleven
mod ByteRowFive
mod ByteRowFour
mod ByteRowSeven
mod ByteRowSix
mod ByteRowTen
mod ByteRowTwelve
pub mod CodecLemmas
pub mod EachLemmas
pub mod FoundLemmas
pub mod FrameLemmas
pub mod LongerLemmas
pub mod ReadLemmas
mod RefusedRows
pub mod RowForms
pub mod ShareLemmas
mod SharedRows
pub mod SizeLemmas
pub mod SizedLemmas
pub mod SkimLemmas
pub mod VersionLemmas
pub mod WithinLemmas
pub mod WriteLemmas
