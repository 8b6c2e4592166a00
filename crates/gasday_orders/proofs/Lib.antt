mod AskedTexts
mod Auditing
mod Files
mod Writing
