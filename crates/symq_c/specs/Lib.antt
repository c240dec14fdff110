pub mod GraphTexts
pub mod ModuleTexts
pub mod OutBuffers
pub mod Handles
pub mod Sessions
pub mod inner
