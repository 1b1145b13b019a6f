pub mod Front
pub mod Picks
pub mod Posts
pub mod Takes
pub use Rattle.nv_desk.specs as nv_desk
