mod Answered
mod Frozen
mod InEffect
mod Numbers
mod Rows
mod Search
mod Written
