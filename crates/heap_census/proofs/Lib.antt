mod Standing
mod After
mod Rounds
mod Later
mod Parting
mod Cells
mod Unlocked
