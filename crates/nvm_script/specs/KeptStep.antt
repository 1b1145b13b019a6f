-- A step as a script keeps it.
use Rattle.std.specs.Prelude.{Bool, true, false, replicate, Some}
use Rattle.nv_base.specs.declared.request.Request.TheVariants.{Write as WriteBlock, PutRam as PutRamOf}
use Rattle.nvm_script.specs.declared.step.StepKind.{StepKind}
use Rattle.nvm_script.specs.declared.step.StepKind.TheVariants.{Ask, Store as StoreOf, Cut}
use Rattle.nvm_script.specs.declared.kept_step.KeptKind.{KeptKind}
use Rattle.nvm_script.specs.declared.kept_step.KeptKind.TheVariants.{Whole, Write, PutRam, Store}

-- what a kept step asks for, with its whole content
abbrev pub kept_kind : KeptKind → StepKind
kept_kind (Whole kind) = kind
kept_kind (Write block run store) = Ask (WriteBlock block (Some (replicate run.count run.byte)) store)
kept_kind (PutRam block run) = Ask (PutRamOf block (replicate run.count run.byte))
kept_kind (Store block run) = StoreOf block (replicate run.count run.byte)

-- a planned power cut
abbrev pub is_cut : StepKind → Bool
is_cut (Cut nth keep) = true
is_cut _ = false
