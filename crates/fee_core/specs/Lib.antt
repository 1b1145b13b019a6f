pub mod Asked
pub mod Beginning
pub mod Operations
pub mod Origin
pub mod Turning
pub mod Whole
pub mod Tells
pub mod MarkPlaces
pub use Rattle.nv_base.specs as nv_base
pub use Rattle.fls_model.specs as fls_model
pub use Rattle.memif.specs as memif
pub use Rattle.fee_image.specs as fee_image
pub use Rattle.fee_course.specs as fee_course
pub use Rattle.fee_laws.specs.fee_switch_laws as fee_switch_laws
pub use Rattle.promise_device.specs as promise_device
pub use Rattle.fee_laws.specs.fls_told as fls_told
pub use Rattle.fee_laws.specs.fee_told as fee_told
pub use Rattle.fee_laws.specs as fee_laws
