mod Pieces
mod Numbered
