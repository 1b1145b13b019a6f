mod Enlargements
mod FileOperations
mod FileSteps
mod Mixtures
mod SeenFiles
