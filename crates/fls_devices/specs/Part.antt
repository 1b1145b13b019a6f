-- An operation that is cut or fails.
use Rattle.std.specs.Prelude.{ℕ, Bool, true, false}
use Rattle.nv_base.specs.Count.{next_count}
use Rattle.fls_model.specs.declared.flash.FlashAnswer.{FlashAnswer}
use Rattle.fls_model.specs.declared.flash.FlashAnswer.TheVariants.{Done, Failed, Off}
use Rattle.fls_devices.specs.declared.part.Harm.{Harm}
use Rattle.fls_devices.specs.declared.part.Harm.TheVariants.{Cut, Fault}

-- a cut operation answers Off; a failed one Failed, or Off where the inner flash was cut in it
abbrev pub harmed : Harm → FlashAnswer → FlashAnswer
harmed Cut inner = Off
harmed Fault Done = Failed
harmed Fault Failed = Failed
harmed Fault Off = Off

abbrev pub cuts_after : Harm → ℕ → ℕ
cuts_after Cut n = next_count n
cuts_after Fault n = n

abbrev pub faults_after : Harm → ℕ → ℕ
faults_after Cut n = n
faults_after Fault n = next_count n

abbrev pub off_of : FlashAnswer → Bool
off_of Done = false
off_of Failed = false
off_of Off = true
