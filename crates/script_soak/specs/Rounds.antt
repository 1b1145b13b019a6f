-- The step of a round.
use Rattle.std.specs.Prelude.{ℕ, ◌+◌, ◌-◌, ◌*◌, ◌%◌, ◌==◌, nat_lt, false, length, replicate, Some, if◌then◌else◌}
use Rattle.std.specs.Option.{option_map_or}
use Rattle.nv_base.specs.declared.request.Request.TheVariants.{Read, Write}
use Rattle.block_config.specs.Config.{Configuration, block_of}
use Rattle.nvm_script.specs.declared.step.StepKind.{StepKind}
use Rattle.nvm_script.specs.declared.step.StepKind.TheVariants.{Ask, Turn, Drain, Restart}
use Rattle.script_soak.specs.Draws.{draw}

-- a write of the block whose bytes are all this one
abbrev pub write_of : Configuration → ℕ → ℕ → StepKind
write_of c block value = Ask (Write block (Some (replicate (option_map_or (λ b. b.length) (block_of c block) 0) value)) 0)

-- a kind of step from 0 to 7, a block and a value from 0 to 255: a write of that value, a read, turns, turns until all is
-- done, or a start-up
abbrev pub step_by : Configuration → ℕ → ℕ → ℕ → StepKind
step_by c kind block value =
    if nat_lt kind 4 then write_of c block value
    else (if kind == 4 then Ask (Read block false)
    else (if kind == 5 then Turn (1 + value)
    else (if kind == 6 then Drain
    else (if nat_lt value 16 then Restart
    else Turn 1))))

-- round r, from 0, takes draws 3 r + 1 to 3 r + 3: a kind, a block other than block 1, and a value
abbrev pub step_of_round : Configuration → ℕ → ℕ → StepKind
step_of_round c seed r = step_by c (draw seed (3 * r + 1) % 8) (2 + draw seed (3 * r + 2) % (length c.blocks - 1)) (draw seed (3 * r + 3) % 256)
