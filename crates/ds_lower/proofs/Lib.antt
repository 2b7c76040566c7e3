mod Arms
mod Blocks
mod Cellnames
mod Fronts
mod Longest
mod Notes
mod Typed
mod Ways
