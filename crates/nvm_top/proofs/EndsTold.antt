-- How a run ends, as its call tells it.
use Rattle.std.proofs.Common.{ℕ, List, ◌++◌, Option, refl, inl, inr}
use Rattle.nvm_lines.specs.nv_streams.Sink.{Written}
use Rattle.nvm_flash.specs.fls_model.Told.{Told}
use Rattle.nvm_script.specs.Printed.{history_lines}
use Rattle.nvm_flash.specs.block_machine.Words.{Entry}
use Rattle.nvm_flash.specs.promise_run.Run.{End, Whole}
use Rattle.nvm_flash.specs.promise_run.Run.{FlashFault, HistoryFull, Memory}
use Rattle.nvm_flash.specs.promise_run.Call.{EndsWith}
use Rattle.nvm_script.specs.declared.script.Mode.{Mode}
use Rattle.nvm_lines.specs.declared.status.Status.{Status}
use Rattle.nvm_lines.specs.declared.status.Status.TheVariants as status
use Rattle.nvm_top.specs.Promised.{call_by, WritesText}

-- the status of an end
abbrev pub status_at : End → Status
status_at Whole = status.Ok
status_at FlashFault = status.FlashFault
status_at HistoryFull = status.HistoryFull
status_at Memory = status.Memory

-- at want of memory a run is one that ended so
abbrev pub end_at : Status → End → End
end_at status.Memory end = Memory
end_at x end = end

-- a call ends as its output was written
pub ends_told : (m : Mode) (input : Option (List ℕ)) (entry exit : Told) (w w' : Written) (entries : List Entry) (lines : End → List (List ℕ)) (end : End) (x : Status) → WritesText (status_at end) entries (lines end) w w' x
    → EndsWith entries (history_lines entries ++ lines (end_at x end)) (call_by m input x entry exit w w') (end_at x end)
ends_told m input entry exit w w' entries lines end status.Memory is = (refl, is)
ends_told m input entry exit w w' entries lines Memory status.WriteFault is = absurd (is.0 refl)
ends_told m input entry exit w w' entries lines Whole status.WriteFault is = inr (refl, is.1)
ends_told m input entry exit w w' entries lines FlashFault status.WriteFault is = inr (refl, is.1)
ends_told m input entry exit w w' entries lines HistoryFull status.WriteFault is = inr (refl, is.1)
ends_told m input entry exit w w' entries lines Whole status.Ok is = inl (refl, is.1)
ends_told m input entry exit w w' entries lines FlashFault status.FlashFault is = inl (refl, is.1)
ends_told m input entry exit w w' entries lines HistoryFull status.HistoryFull is = inl (refl, is.1)
ends_told m input entry exit w w' entries lines Whole _ is = absurd (let same = is.0 in cc same)
ends_told m input entry exit w w' entries lines FlashFault _ is = absurd (let same = is.0 in cc same)
ends_told m input entry exit w w' entries lines HistoryFull _ is = absurd (let same = is.0 in cc same)
ends_told m input entry exit w w' entries lines Memory _ is = absurd (let same = is.0 in cc same)
