-- Commands and what they are made of, read from their texts.
pub mod SpelledActions
pub mod SpelledChanges
pub mod SpelledCommands
pub mod SpelledExamples
pub mod SpelledHooks
pub mod SpelledLines
pub mod SpelledResources
pub mod SpelledRules
pub mod SpelledTexts
pub mod SpelledTouches
