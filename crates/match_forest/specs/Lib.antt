pub mod Forest
pub mod ForestInside
pub mod Fronts
