-- The words of requests, jobs, marks and entries, from one place. Where two types have a word in common, each has a name
-- of its own here: a job is a `WriteJob`, its request a `Write`.
pub use Rattle.nv_base.specs.declared.result.ReqResult.{ReqResult}
pub use Rattle.nv_base.specs.declared.result.ReqResult.TheVariants.{Fine, NotOk, Pending, IntegrityFailed, BlockSkipped, Invalidated, Canceled, RedundancyFailed, Restored}
pub use Rattle.nv_base.specs.declared.instance.Instance.{Instance}
pub use Rattle.nv_base.specs.declared.mark.Mark.{Mark}
pub use Rattle.nv_base.specs.declared.mark.Mark.TheVariants.{Content, Invalid, Erased}
pub use Rattle.nv_base.specs.declared.request.Request.{Request}
pub use Rattle.nv_base.specs.declared.request.Request.TheVariants.{Read, Write, Restore, Erase, Invalidate, SetIndex, GetIndex, SetProtection, SetLock, SetRam, PutRam, Status, ReadAll, WriteAll, CancelWriteAll}
pub use Rattle.nv_base.specs.declared.request.Reply.{Reply}
pub use Rattle.nv_base.specs.declared.request.Reply.TheVariants.{Accepted, Refused, StatusIs, IndexIs}
pub use Rattle.nv_base.specs.declared.request.Refusal.{Refusal}
pub use Rattle.nv_base.specs.declared.request.Refusal.TheVariants.{UnknownBlock, NotStarted, WrongType, BadIndex, BadLength, NoRam, NoDefaults, NotImmediate, WriteOnce, MultiPending, Pending as BlockPending, Locked, Protected, RomIndex, NothingToCancel, QueueFull, HistoryFull}
pub use Rattle.nv_base.specs.declared.request.JobKind.{JobKind}
pub use Rattle.nv_base.specs.declared.request.JobKind.TheVariants.{Read as ReadJob, Write as WriteJob, Restore as RestoreJob, Erase as EraseJob, Invalidate as InvalidateJob, ReadAll as ReadAllJob, WriteAll as WriteAllJob}
pub use Rattle.nv_base.specs.declared.job.Outcome.{Outcome}
pub use Rattle.nv_base.specs.declared.job.Outcome.TheVariants.{Wrote as WroteMark, Read as ReadContent, Inconsistent as FoundErased, Invalid as FoundInvalid, Failed}
pub use Rattle.nv_base.specs.declared.job.GivenFrom.{GivenFrom}
pub use Rattle.nv_base.specs.declared.job.GivenFrom.TheVariants.{Nothing as FromNowhere, Device as FromDevice, Defaults as FromDefaults, Rom as FromRom}
pub use Rattle.nv_base.specs.declared.entry.Taken.{Taken}
pub use Rattle.nv_base.specs.declared.entry.Taken.TheVariants.{Nothing as TookNothing, Content as TookContent, Refused as TookRefused, Stale as TookStale}
pub use Rattle.nv_base.specs.declared.entry.Entry.{Entry}
pub use Rattle.nv_base.specs.declared.entry.Entry.TheVariants.{Ask, Pick, Wrote, Post, Off, Found}
pub use Rattle.block_config.specs.declared.block.BlockDesc.{BlockDesc}
pub use Rattle.block_config.specs.declared.block.BlockKind.{BlockKind}
pub use Rattle.block_config.specs.declared.block.BlockKind.TheVariants.{Native, Redundant, Dataset}
pub use Rattle.block_config.specs.declared.block.RamKind.{RamKind}
pub use Rattle.block_config.specs.declared.block.RamKind.TheVariants.{None as NoRamBlock, Permanent, Sync}
pub use Rattle.block_config.specs.Config.{Configuration}
