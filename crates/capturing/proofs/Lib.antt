mod Asks
mod Lefts
mod Turns
mod Going
