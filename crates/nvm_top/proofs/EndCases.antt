-- Runs that end early.
use Rattle.std.proofs.Common.{◌≡◌, [], ◌∷◌, Result, Ok, Err, refl, inl, inr, arith}
use Rattle.nvm_flash.specs.nv_base.Count.{WereCounted}
use Rattle.nvm_lines.specs.declared.status.Status.TheVariants as status
use Rattle.script_player.specs.uds_gateway.declared.stop.ServeStop.{ServeStop}
use Rattle.script_player.specs.uds_gateway.declared.stop.ServeStop.TheVariants as serve
use Rattle.nvm_top.specs.Uds.{status_served}
use Rattle.nvm_top.specs.EndCases.{FollowsTwo, IsServedOff, asks_status}

-- caller 2 asked once of twice
pub left_out : FollowsTwo (asks_status 2 ∷ asks_status 2 ∷ []) → ⊥
left_out follows = cc (follows.all 2)

-- and caller 1 for another thing
pub asks_another : FollowsTwo (asks_status 1 ∷ asks_status 2 ∷ []) → ⊥
asks_another follows = cc ((follows.order.order 1).requests)

never : WereCounted 1 0 0 → ⊥
never (inl more) = absurd (omega (arith, more))
never (inr full) = absurd (omega (arith, full))

pub not_cut : IsServedOff → ⊥
not_cut served = by served.end refl served.writes.0
  where
    by : (end : Result (Unit {0}) ServeStop) → served.end ≡ end → status.PowerOff ≡ status_served served.end → ⊥
    by (Ok done) is meant = cc (is, meant)
    by (Err serve.Off) is meant = never (served.cut is)
    by (Err serve.NoRoom) is meant = cc (is, meant)
    by (Err serve.Memory) is meant = cc (is, meant)
