use Rattle.std.proofs.Common.{◌≡◌, ◌+◌, ℕ, [], ◌∷◌, ◌++◌, map, ap, subst, arith}
use Rattle.std.specs.List.{range_with_len}
use Rattle.std.proofs.lemmas.List.FromFn.{map-range_with_len_more}
use Rattle.script_callers.specs.Programs.{program_by}
use Rattle.script_callers.proofs.Making.{with_deeds}
use Rattle.script_callers.proofs.programs.none_yet.Goals as goal

pub loop-caller-preserved : goal.loop-caller-preserved
loop-caller-preserved c = λ k.
    let n = c.loop-caller.caller in
    let more : map (program_by k []) (range_with_len 0 (n + 1)) ≡ map (program_by k []) (range_with_len 0 n) ++ program_by k [] n ∷ [] = map-range_with_len_more (program_by k []) 0 n n (omega arith) in
    let item : with_deeds n c.new.result ≡ program_by k [] n = ap (with_deeds n) c.new.ensures in
    cc (c.in_ok-push.ensures.items, c.loop-caller.invariant k, more, item)

pub returns : goal.returns
returns c = λ k.
    let is : c.loop-caller.caller ≡ 16 = omega (arith, c.loop-caller-test.false, c.loop-caller.auto.caller-end) in
    subst (λ (n : ℕ). c.loop-caller.programs.items ≡ map (program_by k []) (range_with_len 0 n)) is (c.loop-caller.invariant k)
