pub mod Input
pub mod Output
pub mod Reading
pub mod Status
pub mod Stop
pub use Rattle.nv_streams.specs as nv_streams
