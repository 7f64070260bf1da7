mod Setups
mod Opened
mod Ends
mod Left
mod Ended
