use Rattle.std.specs.Prelude.{IfSome}
use Rattle.std.proofs.Common.{◌≡◌, ◌<◌, ℕ, length, refl, ◌∙◌, subst, arith}
use Rattle.fls_model.specs.Told.{ToldBytes}
use Rattle.ea_slots.specs.Starts.{AreLoaded}
use Rattle.ea_slots.proofs.Loading.{read_on, loaded_step}
use Rattle.ea_slots.proofs.starts.load_all.Goals as goal

pub loop-place-preserved : goal.loop-place-preserved
loop-place-preserved g c =
    let before = c.loop-place.invariant in
    let loaded = c.in_ok-load_at.ensures in
    let count = c.len-place-end.ensures.count in
    let lt : c.loop-place.place < length c.args.numbers.now = omega (arith, count, c.loop-place-test.true) in
    record {
      read = read_on c.args.fls.now c.loop-place.fls c.load_at.new.fls before.read loaded.reads;
      flash = loaded.flash;
      loaded = loaded_step c.args.geometry c.args.numbers.now c.as_slice.result.now c.loop-place.place _ (record { 0 = 0 }, 0) c.args.fls.now c.loop-place.fls c.loop-place.states c.load_at.new.states
          before.read before.loaded c.as_slice.ensures.value lt refl loaded.loaded c.load_at.ensures.others;
      worn = λ i. c.load_at.ensures.worn i ∙ before.worn i;
      count = c.load_at.ensures.count ∙ before.count;
      room = c.load_at.ensures.room;
    }

pub returns-clause-loaded : goal.returns-clause-loaded
returns-clause-loaded g c =
    let count = c.len-place-end.ensures.count in
    let end : c.loop-place.place ≡ length c.args.numbers.now = omega (arith, count, c.loop-place-test.false, c.loop-place.auto.place-end) in
    subst (λ (n : ℕ). IfSome c.args.fls.now.flash.bytes (λ (b : ToldBytes). AreLoaded c.args.geometry c.args.numbers.now n c.loop-place.states b.now)) end c.loop-place.invariant.loaded
