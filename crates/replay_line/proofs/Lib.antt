pub mod EndsText
pub mod LineBuffer
pub mod Lines
pub mod PutText
pub mod SpelledDigits
pub mod ValueLines
