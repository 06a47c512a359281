-- What the contracts of `image` cite, and what is proved of images.
pub mod Bytes
pub mod Layout
pub mod Standing
pub mod Reading
pub mod Contents
pub mod Shapes
pub mod Figures
pub mod Theorems
