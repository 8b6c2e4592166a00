mod Cutting
mod Giving
mod Blocks
mod Runs
mod Fits
mod Again
mod Nothing
mod Examples
