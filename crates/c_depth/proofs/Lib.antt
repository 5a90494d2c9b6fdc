mod ReadTree
mod Fronts
mod Walk
