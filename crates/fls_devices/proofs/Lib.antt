mod Cuts
mod HaveParts
mod Merging
mod Parts
mod Steps
