-- The changing operations of a device, each listed as it is made.
use Rattle.std.specs.Prelude.{◌≡◌, ◌++◌, ◌∷◌, [], ℕ, List, IfSome}
use Rattle.fls_model.specs.declared.flash.FlashAnswer.{FlashAnswer}
use Rattle.fls_model.specs.Step.{IsStep}
use Rattle.fls_model.specs.Told.{Change}
use Rattle.fls_jobs.specs.CallOf.{closed_as}
use Rattle.fls_jobs.specs.State.{FlsState}
use Rattle.fee_laws.specs.fee_log.Step.{IsPageOf, due_bytes, op_of, after_step}
use Rattle.fee_laws.specs.fee_switch.Banks.{BanksState}
use Rattle.fee_laws.specs.fee_switch.Copy.{IsBankStep}
use Rattle.fee_laws.specs.fls_told.Clock.{change_of}
use Rattle.fee_core.specs.Asked.{switch_op_of}

-- the next page of the record in work, whose content has these bytes, was asked for, and this was answered
pub record IsProgrammed (fls : FlsState) (banks : BanksState) (operations : List Change) (body : List ℕ) (answer : FlashAnswer) (f : FlsState) (b : BanksState) (list : List Change) : Type 0 where
  pub step : IsStep (op_of banks.log body) fls.flash answer f.flash
  pub page : IsPageOf banks.geometry.page (due_bytes banks.log body)
  pub after : b ≡ record banks { log = after_step banks.log answer }
  pub same : f ≡ record fls { flash = f.flash; result = closed_as answer }
  pub listed : list ≡ operations ++ change_of (op_of banks.log body) fls.flash answer ∷ []

-- the next operation of an open switch was made, and this was answered
pub record ChangesTarget (fls : FlsState) (banks : BanksState) (operations : List Change) (answer : FlashAnswer) (f : FlsState) (b : BanksState) (list : List Change) : Type 0 where
  pub step : IfSome banks.course (λ c. IsBankStep banks c fls.flash answer b f.flash)
  pub same : f ≡ record fls { flash = f.flash; result = f.result }
  pub listed : list ≡ operations ++ change_of (switch_op_of banks banks.course) fls.flash answer ∷ []
