-- What a power cut leaves of a call over a blank flash in memory.
use Rattle.std.specs.Prelude.{IfSome}
use Rattle.std.proofs.Common.{◌≡◌, ◌⊎◌, inl, inr, ◌<◌, ◌≤◌, ℕ, true, List, [], length, Option, Some, None, refl, sym, ap, ◌∙◌, subst}
use Rattle.nvm_flash.specs.nv_base.Count.{last_count}
use Rattle.nvm_words.specs.declared.words.CommandKind.{CommandKind}
use Rattle.nvm_words.specs.declared.words.CommandKind.TheVariants.{Play, Run as RunWord, Dump, Check, Soak, Uds}
use Rattle.nvm_words.specs.Words.{is_play}
use Rattle.nvm_flash.specs.fls_model.Told.{Told, ToldBytes, TellsFor, bytes_now}
use Rattle.nvm_flash.specs.fls_model.Memory.{in_memory}
use Rattle.nvm_flash.specs.promise_device.FlashRun.{TellsBytes, StartsSound}
use Rattle.nvm_flash.specs.promise_device.Image.{IsSoundFlash}
use Rattle.nvm_flash.specs.promise_run.Call.{Call, IsRunOf}
use Rattle.nvm_flash.specs.promise_run.JobTurns.{job_turns}
use Rattle.nvm_flash.specs.promise_run.Promise.{making_of}
use Rattle.nvm_flash.specs.promise_run.Run.{Run}
use Rattle.nvm_flash.proofs.Soundness.{blank_is_sound}
use Rattle.nvm_flash.proofs.InRoom.{room_suffices, turns_make_few}
use Rattle.nvm_lines.specs.declared.status.Status.{Status}
use Rattle.nvm_lines.specs.declared.status.Status.TheVariants as status
use Rattle.nvm_top.specs.Commands.{Ended, KeepsCommand, KeepsPlay}
use Rattle.nvm_script.specs.declared.script.Mode.TheVariants as mode
use Rattle.nvm_top.specs.Play.{StepsStopBy}
use Rattle.nvm_top.specs.Promised.{HasPromise, HasNoRun, KeepsRun}
use Rattle.nvm_top.specs.Worked.{HasCuts, CutsLeaveAt}
use Rattle.nvm_top.proofs.WholeCalls.{calls_have_runs}

pub play_kept : (command : Option CommandKind) (e : Ended) → is_play command ≡ true → KeepsCommand command e → KeepsPlay e
play_kept (Some Play) e is keeps = keeps
play_kept (Some (Soak seed count)) e is keeps = cc is
play_kept (Some Check) e is keeps = cc is
play_kept (Some Dump) e is keeps = cc is
play_kept (Some Uds) e is keeps = cc is
play_kept (Some RunWord) e is keeps = cc is
play_kept None e is keeps = cc is

cuts_of : (operations : ℕ) (call : Call) (last : List ℕ) → call.entry ≡ (in_memory [] operations).told → bytes_now call.exit ≡ Some last → operations < last_count → (r : Run) × IsRunOf call r × KeepsRun r → HasCuts operations call
cuts_of operations call last at_entry at_exit small (r, is, keeps) = (r, is, λ turns. turns_make_few operations (job_turns r.configuration) r is.beside (keeps.promise tells sound) keeps.turns turns small, λ few. room_suffices r is.beside (keeps.promise tells sound) (record { bytes = tells; room = room few }) sound)
  where
    entry : r.flash.entry ≡ (in_memory [] operations).told
    entry = is.entry ∙ at_entry

    tells : TellsBytes r.flash
    tells = record { first = []; entry = ap bytes_now entry; last = last; exit = ap bytes_now is.exit ∙ at_exit }

    sound : StartsSound (making_of r.configuration) r.flash
    sound = subst (λ (e : Told). IfSome (bytes_now e) (IsSoundFlash (making_of r.configuration))) (sym entry) (blank_is_sound _ _)

    room : length r.flash.operations ≤ operations → IfSome r.flash.entry.bytes (TellsFor (length r.flash.operations))
    room few = subst (λ (e : Told). IfSome e.bytes (TellsFor (length r.flash.operations))) (sym entry) (refl, few)

has_cuts : (operations : ℕ) (call : Call) (last : List ℕ) → call.entry ≡ (in_memory [] operations).told → bytes_now call.exit ≡ Some last → operations < last_count → HasPromise call → HasCuts operations call
has_cuts operations call last at_entry at_exit small has = cuts_of operations call last at_entry at_exit small (calls_have_runs call has)

-- at these statuses a run was begun
abbrev EndsPlay : Call → ℕ → ℕ → Option ToldBytes → Status → Type 0
EndsPlay call reads reads' bytes x = HasPromise call ⊎ HasNoRun (StepsStopBy mode.Play call.input reads reads' bytes) call.written call.written_after x call.entry call.exit

pub cuts_leave : (x : Status) (operations reads reads' : ℕ) (bytes : Option ToldBytes) (call : Call) (last : List ℕ) → call.entry ≡ (in_memory [] operations).told → bytes_now call.exit ≡ Some last → operations < last_count
    → EndsPlay call reads reads' bytes x → CutsLeaveAt x operations call
cuts_leave status.Ok operations reads reads' bytes call last at_entry at_exit small (inl has) = has_cuts operations call last at_entry at_exit small has
cuts_leave status.FlashFault operations reads reads' bytes call last at_entry at_exit small (inl has) = has_cuts operations call last at_entry at_exit small has
cuts_leave status.HistoryFull operations reads reads' bytes call last at_entry at_exit small (inl has) = has_cuts operations call last at_entry at_exit small has
cuts_leave status.Ok operations reads reads' bytes call last at_entry at_exit small (inr stops) = absurd stops.line.1
cuts_leave status.FlashFault operations reads reads' bytes call last at_entry at_exit small (inr stops) = absurd stops.line.1
cuts_leave status.HistoryFull operations reads reads' bytes call last at_entry at_exit small (inr stops) = absurd stops.line.1
cuts_leave _ operations reads reads' bytes call last at_entry at_exit small ends = tt
