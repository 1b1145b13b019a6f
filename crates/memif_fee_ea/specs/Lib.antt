pub mod Numbers
pub mod Made
pub use Rattle.memif_pair.specs as memif_pair
pub use Rattle.fee_core.specs as fee_core
pub use Rattle.ea_slots.specs as ea_slots
