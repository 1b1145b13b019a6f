-- What a turn does at the device, by what its halves tell.
use Rattle.nvm_moves.proofs.Common.{IfSome, ◌≡◌, ℕ, true, false, Option, sym, ap, subst, arith, DeviceTold, is_off, Clock, RoomIsLeft, Configuration, State, DeskState, state_of, HandState, IsPaired, GoesOn, hand_by, Turned, IsWorked, TurnsDevice, asked_by, IsSimple, costs_in, work_in, LeavesDevice, worn_so_far, device_lasts, Move, HadPages, moment_in, works_behind, half_begins, hand_is_open, PowersOff}
use Rattle.nvm_moves.proofs.Servable.{still_on}

-- THE POWER
-- a device is on where its machine is
pub on_by : (desk : DeskState) (d : DeviceTold) → PowersOff desk d → (state_of desk).off ≡ false → is_off d ≡ false
on_by desk d power on = still_on (is_off d) (state_of desk).off on power

-- THE DEVICE'S TURN
-- from where the turn began to behind it
pub device_works : (answer : Turned) (c : Configuration) (s : State) (hand hand_b hand_n : Option HandState) (d b n : DeviceTold) (clock_b clock_n : Clock) (m : Move) → LeavesDevice d b → GoesOn hand d hand_b b → IfSome hand_b (λ h. h.started ≡ true) → IsPaired c s hand_b b
    → RoomIsLeft b clock_b → TurnsDevice answer b clock_b n clock_n → hand_n ≡ hand_by b.stand n.stand hand_b → IsSimple d.fixed → is_off d ≡ false → m.entry ≡ asked_by answer b.stand n.stand n.ops → m.behind ≡ moment_in n
    → (begins : Option ℕ) × IsWorked (costs_in d.fixed) (HadPages clock_n) (worn_so_far n clock_n) c (moment_in d) s (work_in hand d) m (record { begins = begins; behind = work_in hand_n n })
device_works answer c s hand hand_b hand_n d b n clock_b clock_n m leaves goes started paired room turns hands simple on entry behind =
    let same : b.ops ≡ d.ops = ap (λ (x : DeviceTold). x.ops) leaves in
    let lasts = device_lasts answer b clock_b n clock_n turns in
    let begun = half_begins c s (HadPages clock_n d.ops) hand hand_b d b simple on clock_b room (λ pages is. (is.0, lasts.past.spare b.ops is.0 (omega arith) (subst (λ (k : ℕ). clock_n.spare k is.0) (sym same) is.1), is.2)) goes started paired in (
      begun.begins,
      subst (λ (o : Option HandState). IsWorked (costs_in d.fixed) (HadPages clock_n) (worn_so_far n clock_n) c (moment_in d) s (work_in hand d) m (record { begins = begun.begins; behind = work_in o n })) (sym hands)
          (works_behind c s (HadPages clock_n) (worn_so_far n clock_n) d b n clock_b clock_n answer turns hand hand_b begun leaves on m behind entry (hand_is_open c s hand_b b paired started) (λ k urgent is. (omega arith, is))),
    )
