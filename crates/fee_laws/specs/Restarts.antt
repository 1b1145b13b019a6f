-- How often a switch of a device began again.
use Rattle.std.specs.Prelude.{◌≡◌, ◌⊎◌, ◌≤◌, ◌+◌, ◌&&◌, not, ℕ, zero, suc, Bool, true, false, List, [], count_by, Option, Some, None}
use Rattle.nv_base.specs.Count.{last_count}
use Rattle.fls_model.specs.Told.{Change}
use Rattle.fee_course.specs.declared.course.Course.{Course}
use Rattle.fee_course.specs.declared.course.Course.TheVariants.{Erase}
use Rattle.promise_device.specs.Making.{Making}
use Rattle.promise_device.specs.Bridge.{is_failed}
use Rattle.promise_device.specs.SwitchErases.{one_if, has_begun, begun_again}
use Rattle.fee_laws.specs.Inside.{Parts}

-- the next erase of a switch is its first one: none is open, or it erased nothing
abbrev pub is_before : Option Course → Bool
is_before None = true
is_before (Some (Erase zero)) = true
is_before (Some (Erase (suc done))) = false
is_before (Some c) = false

-- such an erase may come in this state
abbrev pub may_come : Parts → Bool
may_come s = (s.started && not s.fls.flash.off) && is_before s.banks.course

-- Where a switch that had begun begins again, a start-up came in between, or a failure, which an operation tells or a read counted. So
-- these are fewer than the start-ups and the faults, as long as these are counted.
abbrev pub AreFewRestarts : Making → List Change → (started come : Bool) → (starts faults : ℕ) → Type 0
AreFewRestarts m operations started come starts faults =
    (begun_again m false operations + count_by (λ x. is_failed x.answer) operations + one_if (has_begun m false operations && come) + 1 ≤ starts + faults)
    ⊎ ((last_count ≤ faults) ⊎ ((started ≡ false) × (operations ≡ [])))

abbrev pub Restarts : Making → Parts → Type 0
Restarts m s = AreFewRestarts m s.operations s.started (may_come s) s.starts s.faults
