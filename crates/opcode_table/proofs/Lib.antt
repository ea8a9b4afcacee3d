mod Sameness
mod Turned
