-- Any turn.
use Rattle.std.proofs.Common.{◌≡◌, Bool, true, false, Option, Some, None, refl, sym, subst}
use Rattle.nv_base.specs.declared.job.DeviceOp.{DeviceOp}
use Rattle.nv_base.specs.declared.job.DeviceOp.TheVariants.{Read, Write, Invalidate, Erase}
use Rattle.memif.specs.declared.answer.DeviceTurn.{DeviceTurn}
use Rattle.memif.specs.declared.answer.DeviceTurn.TheVariants as turn
use Rattle.memif.specs.Told.{IfElse}
use Rattle.fls_model.specs.Told.{Told}
use Rattle.ea_told.specs.declared.job.EaJob.{EaJob}
use Rattle.ea_told.specs.Making.{Making}
use Rattle.ea_told.specs.Parts.{Parts}
use Rattle.ea_told.specs.Device.{state_at, can_write}
use Rattle.ea_told.specs.Inside.{IsSound}
use Rattle.ea_told.specs.Turn.{WritesTurn, TurnsOp, TurnsJob}
use Rattle.ea_told.specs.Laws.{Turned, PartsTurn}
use Rattle.ea_told.proofs.Quiet.{idle_turn, off_turn}
use Rattle.ea_told.proofs.ReadTurns.{read_turn}
use Rattle.ea_told.proofs.Steps.{steps_turn}
use Rattle.ea_told.proofs.Worn.{worn_turn}

module _ (m : Making) (entry : Told) (turned : DeviceTurn) (s t : Parts) (sound : IsSound m entry s) where
  as_turned : (w : DeviceTurn) (x : Parts) → turned ≡ w → t ≡ x → Turned m entry w s x → Turned m entry turned s t
  as_turned w x is same done = subst (λ (y : Parts). Turned m entry turned s y) (sym same) (subst (λ (z : DeviceTurn). Turned m entry z s x) (sym is) done)

  by_worn : (j : EaJob) → s.job ≡ Some j → s.off ≡ false → (j.op ≡ Read → ⊥) → (b : Bool) → can_write (state_at s.states j.place) ≡ b → WritesTurn b turned s j t → Turned m entry turned s t
  by_worn j job on writes true is takes = steps_turn m entry turned s j t (record { sound = sound; job = job; writes = writes; on = on; writable = is }) takes
  by_worn j job on writes false is (answer, same) = as_turned turn.Worked _ answer same (worn_turn m entry s j sound job writes on is)

  by_op : (j : EaJob) → s.job ≡ Some j → s.off ≡ false → (o : DeviceOp) → j.op ≡ o → TurnsOp o turned s j t → Turned m entry turned s t
  by_op j job on Read is (answer, reads) = as_turned turn.Worked t answer refl (read_turn m entry s j sound job is on t reads)
  by_op j job on Write is turns = by_worn j job on (λ e. cc (is, e)) (can_write (state_at s.states j.place)) refl turns
  by_op j job on Invalidate is turns = by_worn j job on (λ e. cc (is, e)) (can_write (state_at s.states j.place)) refl turns
  by_op j job on Erase is turns = by_worn j job on (λ e. cc (is, e)) (can_write (state_at s.states j.place)) refl turns

  by_off : (j : EaJob) → s.job ≡ Some j → (b : Bool) → s.off ≡ b → IfElse b ((turned ≡ turn.Off) × (t ≡ s)) (TurnsOp j.op turned s j t) → Turned m entry turned s t
  by_off j job true off (answer, same) = as_turned turn.Off s answer same (off_turn m entry s sound j job off)
  by_off j job false on turns = by_op j job on j.op refl turns

  by_job : (o : Option EaJob) → s.job ≡ o → TurnsJob o turned s t → Turned m entry turned s t
  by_job None none (answer, same) = as_turned turn.Idle s answer same (idle_turn m entry s sound none)
  by_job (Some j) job turns = by_off j job s.off refl turns

pub parts_turn : PartsTurn
parts_turn m entry turned s t sound turns = by_job m entry turned s t sound s.job refl turns
