mod Arrives
mod Within
mod Kept
mod Pays
mod Starts
mod Takes
