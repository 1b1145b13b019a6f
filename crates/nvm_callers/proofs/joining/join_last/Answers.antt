use Rattle.nvm_callers.proofs.Common.{slice_index_or, IfSome, vec_len, ◌≡◌, ◌+◌, ◌-◌, ℕ, suc, List, ◌∷◌, drop, drop-cons, length, Option, sym, ap, subst, arith, ◌∙◌, View, both, knows, Entry, Terms, Program, HasWorked, HaveRun, worse, Ending}
use Rattle.std.specs.Prelude.{Some}
use Rattle.nvm_callers.proofs.Passing.{have_run_more, program_before}
use Rattle.nvm_callers.proofs.joining.join_last.Goals as goal

-- the worker at a place is the last one
last_of : {A : Type 0} (x y : A) → Some x ≡ Some y → x ≡ y
last_of x y same = cc same

pub returns-clause-ran : goal.returns-clause-ran
returns-clause-ran g c =
    let t = c.args.shared.now.terms in
    let programs = c.args.programs.now in
    let items = c.args.workers.now.items in
    let worker = c.in-Some.worker in
    let v = knows c.args.pass.now in
    let w = knows worker.pass in
    let k = vec_len c.pop.new.self in
    let one : k + 1 ≡ vec_len c.args.workers.now = c.in-Some.ensures.cases in
    let next : suc k ≡ vec_len c.args.workers.now = omega (arith, one) in
    let place : vec_len c.args.workers.now - 1 ≡ k = omega (arith, one) in
    let few = c.requires.count.0 in
    let many : length c.args.firsts.now.value.items ≡ length programs = omega arith in
    let same : slice_index_or items k worker ≡ worker =
    ap (λ (n : ℕ). slice_index_or items n worker) (sym place) ∙ last_of (slice_index_or items (vec_len c.args.workers.now - 1) worker) worker (sym (c.pop.ensures.value worker c.requires.some) ∙ c.in-Some.is) in
    let worked = c.requires.each k worker (omega (arith, one)) in
    let (p, at, is) = program_before programs k (omega (arith, one, few)) in
    let begins = drop-cons c.args.firsts.now.value.items k worker.stores (omega (arith, one, few, many)) in
    let made = subst (λ x. HasWorked g.S.Stores.bytes g.S.Stores.made g.S.Stores.mirrors c.args.shared.now programs k x.pass x.made x.ending x.seen (slice_index_or c.args.firsts.now.value.items k x.stores) x.stores) same worked in
    let ran = subst (λ (n : ℕ). HaveRun g.S.Stores.bytes g.S.Stores.made g.S.Stores.mirrors t (drop n programs) (drop n c.args.firsts.now.value.items) c.args.stores.now.items c.args.ending v) (sym next) c.requires.ran in
    let more = have_run_more g.S.Stores.bytes g.S.Stores.made g.S.Stores.mirrors v w t p (drop (suc k) programs) worker.made made.ended c.args.ending (slice_index_or c.args.firsts.now.value.items k worker.stores) worker.stores (drop (suc k) c.args.firsts.now.value.items) c.args.stores.now.items (made.made_it p at) ran in
    let ended : c.worse_of.result ≡ worse made.ended c.args.ending = subst (λ (o : Option Ending). IfSome o (λ e. c.worse_of.result ≡ worse e c.args.ending)) made.is c.worse_of.ensures in
    subst (λ (u : View Entry Terms). HaveRun g.S.Stores.bytes g.S.Stores.made g.S.Stores.mirrors t (drop k programs) (drop k c.args.firsts.now.value.items) c.put_first.new.stores.items c.worse_of.result u) (sym c.join.ensures.both)
    (subst (λ ns. HaveRun g.S.Stores.bytes g.S.Stores.made g.S.Stores.mirrors t (drop k programs) (drop k c.args.firsts.now.value.items) ns c.worse_of.result (both v w)) (sym c.put_first.ensures.items)
    (subst (λ (e : Ending). HaveRun g.S.Stores.bytes g.S.Stores.made g.S.Stores.mirrors t (drop k programs) (drop k c.args.firsts.now.value.items) (worker.stores ∷ c.args.stores.now.items) e (both v w)) (sym ended)
    (subst (λ fs. HaveRun g.S.Stores.bytes g.S.Stores.made g.S.Stores.mirrors t (drop k programs) fs (worker.stores ∷ c.args.stores.now.items) (worse made.ended c.args.ending) (both v w)) (sym begins)
    (subst (λ (ps : List Program). HaveRun g.S.Stores.bytes g.S.Stores.made g.S.Stores.mirrors t ps (slice_index_or c.args.firsts.now.value.items k worker.stores ∷ drop (suc k) c.args.firsts.now.value.items) (worker.stores ∷ c.args.stores.now.items) (worse made.ended c.args.ending) (both v w)) (sym is) more))))
