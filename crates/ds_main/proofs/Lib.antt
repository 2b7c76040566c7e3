mod Runs
mod Words
mod Inputs
mod Refusals
mod Counts
mod Endings
mod Clauses
