pub mod Arming
pub mod CallsBehind
mod Bounds
pub mod Canceled
mod Canceling
mod Ending
mod GivenUp
pub mod Making
pub mod Opened
mod CallOrder
mod Raising
pub mod Starting
mod Stopping
mod Tails
mod Before
mod Order
mod Operation
mod Behind
mod MadeFor
mod Taken
mod BehindNone
mod Turning
pub mod Heads
mod Kept
mod Page
mod Figures
mod Appended
mod Copies
mod GoesOn
pub mod GoneOn
mod Left
pub mod Failed
pub mod Cut
pub mod Committed
pub mod Lifting
mod Begun
pub mod Marks
pub mod Resting
mod Reading
pub mod Read
mod Beginning
pub mod BegunSound
mod Beside
mod Settled
pub mod SwitchBegun
mod Noted
mod Shown
mod SwitchFigures
mod Switching
mod SwitchNearer
mod SwitchOn
mod SwitchFailed
mod SwitchCut
mod SwitchShown
mod SwitchErase
mod SwitchKinds
mod SwitchErased
mod SwitchWhole
mod SwitchPage
mod SwitchHead
mod SwitchGate
mod SwitchCopy
mod SwitchCopied
pub mod SwitchEnded
pub mod SwitchTurns
mod SwitchNext
mod SwitchFirst
pub mod SwitchMark
mod SwitchRead
mod SwitchReadOn
mod SwitchReadFailed
pub mod SwitchContent
pub mod WornFull
mod WornShown
mod WornKnown
pub mod WornTurn
mod WornErases
mod WornHeads
mod WornPrograms
mod WornGates
pub mod WornSteps
mod FollowStates
mod FollowSteps
mod FollowOperations
mod FollowBytes
mod FollowPlaces
mod FollowBanks
mod FollowAppends
mod PageTraits
mod FollowBegins
mod FollowTargets
mod FollowErases
mod FollowHeads
mod FollowGates
mod FollowCopies
mod FollowCopied
mod FollowMarked
mod FollowContents
mod FollowStarts
mod FollowKnown
mod FollowPages
mod FollowDue
pub mod FollowRoom
pub mod FollowFree
pub mod FollowReady
mod SwitchCopies
mod SwitchJob
pub mod SwitchTold
mod FollowLifts
pub mod FollowTurned
pub mod FollowCalled
pub mod Restarts
pub use Rattle.fee_switch_laws.proofs.RoomReady as RoomReady
pub use Rattle.fee_told.proofs.Clocks as Clocks
pub use Rattle.fee_told.proofs.Runs as Runs
pub use Rattle.fee_told.proofs.Figures as ToldFigures
