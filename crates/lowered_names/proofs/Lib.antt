mod PartSteps
mod Rows
mod Growing
mod Reading
mod Pointed
mod PairSteps
mod Told
mod Apart
