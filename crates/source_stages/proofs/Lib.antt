mod Counts
mod Inside
mod Ways
mod Words
