use Rattle.nvm_callers.proofs.Common.{slice_index_or, ◌≡◌, List, [], length, sym, ap, subst, arith, ◌∙◌, View, knows, Entry, Terms, PassValue, HasDriven, Collects, GoesOn, HasWorked, AllChanged, AllPlaced, Worker, with_items_is}
use Rattle.nvm_callers.proofs.Following.{drives_follow}
use Rattle.nvm_callers.proofs.JoinedPasses.{none_is_joined}
use Rattle.nvm_callers.proofs.Rounds.{all_worked}
use Rattle.nvm_callers.proofs.callers.run_all.Goals as goal

pub finish-requires-clause-first : goal.finish-requires-clause-first
finish-requires-clause-first g c =
    c.make_rounds.ensures.steers.shares [] (subst (Collects []) (sym c.split_all.ensures.this) (none_is_joined _ c.requires.own))

pub finish-requires-clause-each : goal.finish-requires-clause-each
finish-requires-clause-each g c =
    let shared = c.args.shared.now in
    let programs = c.args.programs.now in
    let olds = c.split_all.new.workers.items in
    let news = c.make_rounds.new.workers in
    let view : c.as_mut_slice.result.now ≡ olds = c.as_mut_slice.ensures.value in
    let on : AllChanged (GoesOn g.S.Stores.bytes g.S.Stores.made g.S.Stores.mirrors shared programs) olds news =
    subst (λ (l : List (Worker PassValue g.row.S.Denot)). AllChanged (GoesOn g.S.Stores.bytes g.S.Stores.made g.S.Stores.mirrors shared programs) l news) view c.make_rounds.ensures.on in
    let count : length news ≡ length olds = c.make_rounds.ensures.count ∙ ap (λ (l : List (Worker PassValue g.row.S.Denot)). length l) view in
    let one : length c.args.stores.items ≡ length programs = omega (arith, c.requires.stores) in
    let two : length olds ≡ length programs = omega (arith, c.split_all.ensures.count) in
    let worked =
    all_worked g.S.Stores.bytes g.S.Stores.made g.S.Stores.mirrors shared programs c.args.stores.items olds news one two count c.split_all.ensures.each on c.make_rounds.ensures.each c.make_rounds.ensures.ended in
    let firsts = subst (λ (l : List g.row.S.Denot). AllPlaced (λ place w. HasWorked g.S.Stores.bytes g.S.Stores.made g.S.Stores.mirrors shared programs place w.pass w.made w.ending w.seen (slice_index_or l place w.stores) w.stores) news)
    (ap (λ v. v.items) (sym c.of-firsts.ensures)) worked in
    subst (λ (ws : List (Worker PassValue g.row.S.Denot)). AllPlaced (λ place w. HasWorked g.S.Stores.bytes g.S.Stores.made g.S.Stores.mirrors shared programs place w.pass w.made w.ending w.seen (slice_index_or c.of-firsts.result.value.items place w.stores) w.stores) ws)
    (sym (with_items_is c.split_all.new.workers news (omega (arith, count, two, c.split_all.ensures.count)))) firsts

pub returns-clause-driven : goal.returns-clause-driven
returns-clause-driven g c =
    let t = c.args.shared.now.terms in
    let split : (knows c.split_all.new.pass).seen ≡ (knows c.args.pass).seen = ap (λ (v : View Entry Terms). v.seen) c.split_all.ensures.this in
    let served = subst (λ (l : List Entry). HasDriven g.D.MemDevice.told g.D.MemDevice.clock g.C.SyncCalls.told g.C.SyncCalls.is_store g.C.SyncCalls.looked g.C.SyncCalls.over g.C.NotedCopies.stands t l (knows c.make_rounds.new.steering.pass).seen c.args.driver c.make_rounds.new.steering.driver) split c.make_rounds.ensures.steers.driven in
    drives_follow g.D.MemDevice.told g.D.MemDevice.clock g.C.SyncCalls.told g.C.SyncCalls.is_store g.C.SyncCalls.looked g.C.SyncCalls.over g.C.NotedCopies.stands t
    _ _ _ _ _ _ served c.finish.ensures.driven
