pub mod Build
pub mod CatalogA
pub mod Fitting
pub mod Part
pub mod Place
pub mod Vindex
