mod Shifted
mod Called
mod Same
mod Passed
mod Stepped
mod Quiet
mod Composed
mod Layouts
