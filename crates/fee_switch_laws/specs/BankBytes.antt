-- Laws of the banks in memory and the bytes of their flash, for the layers above.
use Rattle.std.specs.Prelude.{◌≡◌, ◌≤◌, ◌*◌, ℕ, Bool, List, [], length, Some, None, IfSome}
use Rattle.fls_model.specs.Op.{Op, MayLeave, after_op}
use Rattle.fee_image.specs.Image.{active_of}
use Rattle.fee_image.specs.May.{May}
use Rattle.fee_image.specs.Banks.{ImageShows}
use Rattle.fee_image.specs.BankLaws.{found_alone}
use Rattle.fee_course.specs.declared.course.Course.TheVariants.{Erase, Gate as CourseGate}
use Rattle.fee_switch.specs.Active.{active_shown}
use Rattle.fee_switch.specs.Start.{IsLoadedAs}
use Rattle.fee_switch.specs.Banks.{BanksState, IsBanksState, begun_again, target_at, ended, fallen_back}
use Rattle.fee_switch.specs.declared.target.Stage.TheVariants.{Gate}
use Rattle.fee_switch.specs.Target.{op_at}
use Rattle.fee_switch_laws.specs.Shown.{Bodies, layout_in, HoldsBanks}

-- banks that a start-up loaded from these bytes
pub record IsStarted (s : BanksState) (bytes : List ℕ) : Type 0 where
  pub state : IsBanksState s
  pub active : active_shown s.active ≡ active_of (layout_in s) bytes
  pub loaded : IfSome s.active (λ a. IsLoadedAs (layout_in s) bytes a.bank a.head s.log)
  pub closed : s.course ≡ None

-- the bytes hold them, and nothing but what is found may be found
abbrev pub StartsHold : Type 0
StartsHold =
    (s : BanksState) (bodies : Bodies) (bytes : List ℕ) (copied : May)
    → IsStarted s bytes → (layout_in s).pages * (layout_in s).page * s.banks ≤ length bytes
    → HoldsBanks s bodies bytes (found_alone (layout_in s) bytes) copied

-- a switch is opened
abbrev pub BeginsHold : Type 0
BeginsHold =
    (s : BanksState) (bodies : Bodies) (bytes : List ℕ) (may copied then : May)
    → IsBanksState s → s.course ≡ None → HoldsBanks s bodies bytes may copied → HoldsBanks (begun_again s (Erase 0)) bodies bytes may then

-- what a start-up on bytes that hold banks would find may be found
abbrev pub StartsFind : Type 0
StartsFind =
    (s : BanksState) (bodies : Bodies) (bytes : List ℕ) (may copied : May)
    → IsBanksState s → HoldsBanks s bodies bytes may copied → ImageShows (layout_in s) bytes may

-- THE GATE
-- its program
abbrev pub gate_of : BanksState → Op
gate_of s = op_at (target_at s Gate) Gate

-- it is done: the target is active, and its log is the active one
abbrev pub GatesStand : Type 0
GatesStand =
    (s : BanksState) (bodies : Bodies) (old new : List ℕ) (may copied : May) (failed : Bool)
    → IsBanksState s → s.course ≡ Some (CourseGate failed) → HoldsBanks s bodies old may copied
    → MayLeave (gate_of s) old new → new ≡ after_op (gate_of s) old
    → HoldsBanks (ended s) (record { append = bodies.copy; copy = [] }) new copied copied

-- whatever a failed one leaves, it is programmed again
abbrev pub GatesFail : Type 0
GatesFail =
    (s : BanksState) (bodies : Bodies) (old new : List ℕ) (may copied : May) (failed : Bool)
    → IsBanksState s → s.course ≡ Some (CourseGate failed) → HoldsBanks s bodies old may copied
    → MayLeave (gate_of s) old new
    → HoldsBanks (fallen_back s (CourseGate failed)) bodies new may copied
