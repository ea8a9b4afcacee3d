mod Pairs
mod Widths
mod Values
mod Digests
mod Obeying
