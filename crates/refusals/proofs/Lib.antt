pub mod GivenTree
