mod Folds
mod Reach
