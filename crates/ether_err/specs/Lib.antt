pub mod IoTexts
pub mod ReaderTexts
pub mod Texts
pub mod SliceConversions
pub mod ReadConversions
pub mod ReaderConversions
