mod ClosedFiles
mod Writing
