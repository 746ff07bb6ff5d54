mod Chunks
mod Filled
mod Words
