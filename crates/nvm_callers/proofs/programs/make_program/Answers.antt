use Rattle.nvm_callers.proofs.Common.{List, take, not, ap, ◌∙◌, sym, subst, knows, Deed, Did, StopsBy}
use Rattle.nvm_callers.proofs.Working.{more_begun, more_begun_on}
use Rattle.nvm_callers.proofs.programs.make_program.Goals as goal

pub returns-then-is_none-clause-begun : goal.returns-then-is_none-clause-begun
returns-then-is_none-clause-begun g c = λ first begun.
    let t = c.args.shared.now.terms in
    let program = c.args.program.now in
    let old = c.args.worker.now in
    let made = c.make_all-made.result.0 in
    let u = knows c.make_all-made.new.pass in
    let is = c.make_all-made.ensures in
    let stored = g.S.Stores.made c.make_all-made.new.stores in
    more_begun_on g.S.Stores.bytes g.S.Stores.made g.S.Stores.mirrors t program (knows old.pass) u old.made made old.seen old.seen old.ending c.make_all-made.result.1 first old.stores c.make_all-made.new.stores
    begun
    (λ did.
    subst (λ (ds : List Deed). Did t program.caller (take made ds) u (g.S.Stores.bytes first) (g.S.Stores.made first) stored) c.as_slice.ensures.items
    (is.done (g.S.Stores.bytes first) (g.S.Stores.made first) begun.same_bytes
    (subst (λ (ds : List Deed). Did t program.caller (take old.made ds) (knows old.pass) (g.S.Stores.bytes first) (g.S.Stores.made first) (g.S.Stores.made old.stores)) (sym c.as_slice.ensures.items) did)))
    is.bytes is.mirrors (c.is_none.ensures ∙ ap not c.if-is_none.true)

pub returns-clause-begun : goal.returns-clause-begun
returns-clause-begun g c = λ first begun.
    let t = c.args.shared.now.terms in
    let program = c.args.program.now in
    let old = c.args.worker.now in
    let made = c.make_all-made.result.0 in
    let u = knows c.make_all-made.new.pass in
    let is = c.make_all-made.ensures in
    let stored = g.S.Stores.made c.make_all-made.new.stores in
    more_begun g.S.Stores.bytes g.S.Stores.made g.S.Stores.mirrors t program (knows old.pass) u (knows c.count-worker.new.pass) old.made made old.seen c.count-worker.result old.ending c.make_all-made.result.1 first old.stores c.make_all-made.new.stores
    begun
    (λ did.
    subst (λ (ds : List Deed). Did t program.caller (take made ds) u (g.S.Stores.bytes first) (g.S.Stores.made first) stored) c.as_slice.ensures.items
    (is.done (g.S.Stores.bytes first) (g.S.Stores.made first) begun.same_bytes
    (subst (λ (ds : List Deed). Did t program.caller (take old.made ds) (knows old.pass) (g.S.Stores.bytes first) (g.S.Stores.made first) (g.S.Stores.made old.stores)) (sym c.as_slice.ensures.items) did)))
    c.count-worker.ensures.learns is.bytes is.mirrors
    (subst (λ (ds : List Deed). StopsBy t ds made u c.make_all-made.result.1) c.as_slice.ensures.items is.stops) c.count-worker.ensures.count
