use Rattle.nvm_callers.proofs.Common.{false}
use Rattle.nvm_callers.proofs.player.play_callers.Given as goal

abbrev pub ghost-share : goal.ghost-share
ghost-share g a = false

abbrev pub ghosts-run_programs : goal.ghosts-run_programs
ghosts-run_programs g a = record { gate = a.shared.gate }
