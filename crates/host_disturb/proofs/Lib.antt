pub mod ExampleLemmas
pub mod GoodLemmas
pub mod MetLemmas
pub mod SpelledLemmas
pub mod StepLemmas
