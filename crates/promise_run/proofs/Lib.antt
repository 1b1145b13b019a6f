mod Founds
pub mod PlannedCuts
mod CutsThatCome
pub mod Paid
mod RefusedRuns
pub mod RefusalsPaid
pub mod DeviceTurns
pub mod TurnsOfBoth
pub mod Counted
pub mod WorkedMoves
pub mod Operations
pub mod OperationLaws
mod Efforts
pub mod UrgentPosts
pub mod UrgentAsks
pub mod TakenPages
pub mod CalmPosts
pub mod Composition
pub mod InRoom
pub mod Texts
mod Spells
mod WrongOrders
mod WrongMarks
mod WrongCauses
mod WrongOperations
mod EraseCases
pub mod SectorErases
mod KeptRuns
pub mod TwoFlashes
mod LostWrite
mod WrongCalls
mod OneByOne
mod RunTurns
mod UrgentCases
mod OperationCases
mod KeptCases
mod BothCases
mod SevenTurns
mod Failing
pub mod EntriesLeave
pub mod Power
pub mod Callers
pub mod RunHalves
pub mod BankTurns
pub mod StartUps
pub mod OwnOperations
pub mod ClocksOfBoth
pub mod HalvesOfBoth
pub use Rattle.script_walks.proofs.First as FirstStores
pub use Rattle.script_walks.proofs.Jobs as WalkedJobs
pub use Rattle.script_walks.proofs.Newest as NewestStores
pub use Rattle.script_walks.proofs.Resting as Resting
pub use Rattle.script_walks.proofs.Turns as WalkedTurns
pub use Rattle.script_walks.proofs.Walks as Walks
