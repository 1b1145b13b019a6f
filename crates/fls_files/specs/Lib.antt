pub mod ByteFile
pub mod FileFlash
pub mod FileFlashInside
pub mod SeenFile
