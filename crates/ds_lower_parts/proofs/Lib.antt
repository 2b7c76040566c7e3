mod Addresses
mod Beside
mod Externals
mod Imaged
mod Sizes
