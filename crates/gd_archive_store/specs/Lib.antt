pub mod Nodes
pub mod Tables
pub mod Contents
pub mod Stages
pub mod Migration
pub mod Calls
