mod Moves
mod Restoring
mod Returning
mod Sharing
