pub mod InForceLemmas
pub mod Limits
pub mod Sound
pub mod QuestionInside
pub mod Same
pub mod ElementPlaces
