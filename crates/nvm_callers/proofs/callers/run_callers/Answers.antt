use Rattle.nvm_callers.proofs.Common.{◌≡◌, ◌<◌, ℕ, zero, suc, true, false, [], length, refl, arith, knows}
use Rattle.nvm_callers.proofs.Driving.{legal_where_told}
use Rattle.nvm_callers.proofs.JoinedPasses.{none_is_joined}
use Rattle.nvm_callers.proofs.Passing.{memory_is_wanting}
use Rattle.nvm_callers.proofs.callers.run_callers.Goals as goal

never : false ≡ true → ⊥
never is = cc

some_of : (n : ℕ) → (n ≡ 0 → false ≡ true) → 0 < n
some_of zero none = absurd (never (none refl))
some_of (suc n) none = omega arith

pub returns-in-Err-clause-ran : goal.returns-in-Err-clause-ran
returns-in-Err-clause-ran g c =
    memory_is_wanting g.S.Stores.bytes g.S.Stores.made g.S.Stores.mirrors c.args.shared.now.terms c.args.programs.now c.args.stores.items (knows c.come_to_rest.new.pass) (omega arith) (some_of (length c.args.programs.now) c.in-Err.ensures.succeeds)
    (c.come_to_rest.ensures.steers.shares [] (none_is_joined (knows c.args.pass) c.requires.own))

pub returns-in-Ok-clause-legal : goal.returns-in-Ok-clause-legal
returns-in-Ok-clause-legal g c tells =
    legal_where_told g.D.MemDevice.told g.D.MemDevice.clock g.C.SyncCalls.told c.args.shared.now c.run_all.result.0 c.run_all.result.1 c.run_all.ensures.driver c.requires.telling tells

pub returns-in-Err-clause-legal : goal.returns-in-Err-clause-legal
returns-in-Err-clause-legal g c tells =
    legal_where_told g.D.MemDevice.told g.D.MemDevice.clock g.C.SyncCalls.told c.args.shared.now c.come_to_rest.new.pass c.come_to_rest.new.driver c.come_to_rest.ensures.driver c.requires.telling tells
