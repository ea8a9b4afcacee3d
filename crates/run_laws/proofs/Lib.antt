mod Nesting
mod Outer
mod Arms
mod Matched
mod Unexecuted
mod Alike
