pub mod Stacks
pub mod Climbing
pub mod Descending
pub mod Packing
pub mod Spent
mod Blind
pub mod Sizing
pub mod Writing
pub mod PlacesFound
pub mod QuerySizes
pub mod Small
mod Truths
mod Rising
mod Falling
mod Hitting
mod Standing
mod Axes
mod Parents
mod Finding
mod Reaching
mod Selected
pub mod Literals
mod Agreeing
mod Naming
pub mod Coded
pub mod Selecting
pub mod Unmarked
