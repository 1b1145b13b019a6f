pub mod AllBlocks
pub mod Asks
pub mod Desk
pub mod Driver
pub mod Incoming
pub mod Members
pub mod Picks
pub mod Places
pub mod Refusals
pub mod Rooms
pub mod Sound
pub use Rattle.nv_recorder.specs.Event as Event
pub use Rattle.nv_recorder.specs.FoundMarks as FoundMarks
pub use Rattle.nv_recorder.specs.Latest as Latest
pub use Rattle.nv_recorder.specs.Recorder as Recorder
pub use Rattle.nv_recorder.specs.Request as Request
pub use Rattle.job_pending.specs as job_pending
pub use Rattle.nv_desk_state.specs as nv_desk_state
