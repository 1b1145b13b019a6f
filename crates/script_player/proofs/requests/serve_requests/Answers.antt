use Rattle.std.specs.Prelude.{Result}
use Rattle.script_player.proofs.Common.{◌≡◌, ◌+◌, ℕ, List, [], ◌∷◌, ◌++◌, length, take, drop, Err, Ok, sym, ap, ◌∙◌, subst, arith, ServeStop, EndsRequest, AreServedSoFar, HasServed, take_all, take-append-drop, told_by, seen_by}
use Rattle.std.proofs.Common.{◌-◌}
use Rattle.uds_gateway.specs.block_config.Config.{Configuration}
use Rattle.uds_gateway.specs.declared.stop.ServeStop.TheVariants as stop
use Rattle.script_player.proofs.Served.{serves_none, serves_one, serves_all, serves_first, serves_some, next_request, one_more}
use Rattle.script_player.proofs.PlainPaying.{is_seen}
use Rattle.script_player.proofs.requests.serve_requests.Goals as goal

pub loop-i-init : goal.loop-i-init
loop-i-init g c =
    let p = seen_by g.D.MemDevice.told g.D.MemDevice.clock c.args.stack.now in
    let old = told_by g.D.MemDevice.told c.args.stack.now in
    record {
      so_far = subst (λ (ns : List ℕ). AreServedSoFar p p [] ns old old) (sym c.requires.none) (serves_none p old (is_seen g.D.MemDevice.told g.D.MemDevice.clock c.args.stack.now) c.requires.fresh);
      keeps = λ before kept. kept;
      starts = λ found. found;
    }

pub returns-then-is_err-clause-served : goal.returns-then-is_err-clause-served
returns-then-is_err-clause-served g c =
    let p = seen_by g.D.MemDevice.told g.D.MemDevice.clock c.args.stack.now in
    let q = seen_by g.D.MemDevice.told g.D.MemDevice.clock c.loop-i.stack in
    let old = told_by g.D.MemDevice.told c.args.stack.now in
    let now = told_by g.D.MemDevice.told c.loop-i.stack in
    let xs = c.args.requests.now in
    let i = c.loop-i.i in
    subst (λ (ns : List ℕ). HasServed p q xs ns (Err stop.Memory) old now) (sym c.reserve.ensures.items)
    (serves_some p q xs (take i xs) (drop i xs) c.loop-i.counts.items old now (sym (take-append-drop i xs)) c.loop-i.invariant.so_far)

pub returns-in-Err-clause-served : goal.returns-in-Err-clause-served
returns-in-Err-clause-served g c =
    let p = seen_by g.D.MemDevice.told g.D.MemDevice.clock c.args.stack.now in
    let q = seen_by g.D.MemDevice.told g.D.MemDevice.clock c.loop-i.stack in
    let r = seen_by g.D.MemDevice.told g.D.MemDevice.clock c.serve_request.new.stack in
    let old = told_by g.D.MemDevice.told c.args.stack.now in
    let mid = told_by g.D.MemDevice.told c.loop-i.stack in
    let new = told_by g.D.MemDevice.told c.serve_request.new.stack in
    let xs = c.args.requests.now in
    let i = c.loop-i.i in
    let x = c.as_slice.result.now in
    let at = c.as_slice.ensures ∙ c.index-requests-i.is in
    let ends = c.serve_request.ensures.ends c.args.stack.now c.loop-i.invariant.so_far.serving in
    subst (λ (ns : List ℕ). HasServed p r xs ns (Err c.in-Err.stop) old new) (sym c.reserve.ensures.items)
    (serves_first p q r c.in-Err.stop xs (take i xs) (drop (i + 1) xs) x c.loop-i.counts.items old mid new (next_request xs i x c.index-requests-i.result c.loop-i-test.true at) c.loop-i.invariant.so_far
    (subst (λ (d : Configuration). EndsRequest d x p r (Err c.in-Err.stop) old mid new) (sym c.requires.configuration)
    (subst (λ (e : Result (Unit {0}) ServeStop). EndsRequest c.args.config.now x p r e old mid new) c.in-Err.is ends)))

pub loop-i-preserved : goal.loop-i-preserved
loop-i-preserved g c =
    let p = seen_by g.D.MemDevice.told g.D.MemDevice.clock c.args.stack.now in
    let q = seen_by g.D.MemDevice.told g.D.MemDevice.clock c.loop-i.stack in
    let r = seen_by g.D.MemDevice.told g.D.MemDevice.clock c.serve_request.new.stack in
    let old = told_by g.D.MemDevice.told c.args.stack.now in
    let mid = told_by g.D.MemDevice.told c.loop-i.stack in
    let new = told_by g.D.MemDevice.told c.serve_request.new.stack in
    let xs = c.args.requests.now in
    let i = c.loop-i.i in
    let x = c.as_slice.result.now in
    let at = c.as_slice.ensures ∙ c.index-requests-i.is in
    let ends = c.serve_request.ensures.ends c.args.stack.now c.loop-i.invariant.so_far.serving in
    let one =
    serves_one p q r (take i xs) x c.loop-i.counts.items old mid new c.loop-i.invariant.so_far
    (subst (λ (d : Configuration). EndsRequest d x p r (Ok (tt {0})) old mid new) (sym c.requires.configuration)
    (subst (λ (e : Result (Unit {0}) ServeStop). EndsRequest c.args.config.now x p r e old mid new) c.in_default.is ends)) in
    let pushed : c.push_reserved.new.self.items ≡ c.loop-i.counts.items ++ (length new.entries - length mid.entries) ∷ [] =
    c.push_reserved.ensures.items ∙ ap (λ (ns : List ℕ). ns ++ (c.len.result - c.len-before.result) ∷ []) c.reserve.ensures.items
    ∙ ap (λ (n : ℕ). c.loop-i.counts.items ++ (n - c.len-before.result) ∷ []) c.len.ensures.count ∙ ap (λ (n : ℕ). c.loop-i.counts.items ++ (length new.entries - n) ∷ []) c.len-before.ensures.count in
    record {
      so_far =
          subst (λ (ns : List ℕ). AreServedSoFar p r (take (i + 1) xs) ns old new) (sym pushed)
          (subst (λ (rs : List (List ℕ)). AreServedSoFar p r rs (c.loop-i.counts.items ++ (length new.entries - length mid.entries) ∷ []) old new) (one_more xs i x c.index-requests-i.result c.loop-i-test.true at) one);
      keeps = λ before kept. c.serve_request.ensures.keeps before (c.loop-i.invariant.keeps before kept);
      starts = λ found. c.serve_request.ensures.starts (c.loop-i.invariant.starts found);
    }

pub returns-clause-served : goal.returns-clause-served
returns-clause-served g c =
    let p = seen_by g.D.MemDevice.told g.D.MemDevice.clock c.args.stack.now in
    let q = seen_by g.D.MemDevice.told g.D.MemDevice.clock c.loop-i.stack in
    let old = told_by g.D.MemDevice.told c.args.stack.now in
    let now = told_by g.D.MemDevice.told c.loop-i.stack in
    let xs = c.args.requests.now in
    serves_all p q xs c.loop-i.counts.items old now
    (subst (λ (rs : List (List ℕ)). AreServedSoFar p q rs c.loop-i.counts.items old now) (take_all c.loop-i.i xs (let past = c.loop-i-test.false in omega (arith, past))) c.loop-i.invariant.so_far)
