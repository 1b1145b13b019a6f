use Rattle.std.proofs.Common.{◌≡◌, ◌<◌, ◌+◌, ◌++◌, ◌∷◌, [], false, length, take, arith, ap, sym, ◌∙◌}
use Rattle.std.proofs.lemmas.List.{take_more}
use Rattle.memif.specs.declared.run.DeviceCall.{DeviceCall}
use Rattle.memif.proofs.Runs.{none_urgent, begins, goes_on}
use Rattle.memif.proofs.run.run_calls.Goals as goal

pub loop-call-preserved : goal.loop-call-preserved
loop-call-preserved g c =
    let lt : c.loop-call.call-index < length c.args.calls.now = omega arith in
    let more : take (c.loop-call.call-index + 1) c.args.calls.now ≡ take c.loop-call.call-index c.args.calls.now ++ c.call-item.result ∷ [] =
    take_more c.args.calls.now c.loop-call.call-index c.call-item.result lt ∙ ap (λ (x : DeviceCall). take c.loop-call.call-index c.args.calls.now ++ x ∷ []) (sym c.call-item.is) in
    let kept = c.loop-call.invariant.kept in
    record {
      urgent = rw c.urgent_after-urgent.ensures (c.make_call-taken.ensures.urgent c.loop-call.urgent c.loop-call.invariant.urgent);
      kept = rw (more, c.in_ok-push.ensures.items) (_, goes_on _ _ _ kept.0 _ _ _ _ _ _ kept.1 c.result.ensures.result c.ops.ensures c.make_call-taken.ensures);
    }

pub loop-call-init : goal.loop-call-init
loop-call-init g c = record { urgent = none_urgent false _ c.requires; kept = rw c.new-steps.ensures.items ([], begins _ _ c.requires) }
