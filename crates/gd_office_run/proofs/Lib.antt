mod Ending
mod Opening
mod Picking
mod RunShares
mod Runs
mod Shapes
mod Shares
