mod Fails
mod Sought
mod Stood
