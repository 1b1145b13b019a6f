-- A device starts up, from what its reads answer.
use Rattle.std.specs.Prelude.{IfSome, option_map, slice_get}
use Rattle.std.specs.List.{All}
use Rattle.std.proofs.Common.{◌≡◌, ◌<◌, ◌+◌, ◌-◌, ℕ, true, List, length, Option, Some, None, Ok, sym, ap, ◌∙◌, subst, arith}
use Rattle.nv_base.specs.declared.geometry.Geometry.{Geometry}
use Rattle.nv_base.specs.declared.instance.DeviceNumber.{DeviceNumber}
use Rattle.fls_model.specs.Told.{Told, ToldBytes, powered}
use Rattle.fls_jobs.specs.State.{FlsState}
use Rattle.ea_told.specs.declared.state.SlotState.{SlotState}
use Rattle.ea_told.specs.Making.{Making}
use Rattle.ea_told.specs.Parts.{Parts}
use Rattle.ea_told.specs.Device.{state_at}
use Rattle.ea_told.specs.Inside.{IsSound}
use Rattle.ea_told.specs.Start.{LoadsAll, started_as, IsStart}
use Rattle.ea_told.proofs.Lists.{entry_is}
use Rattle.ea_slots.specs.Starts.{HasRead, AreLoaded}

loads_all : (m : Making) (states : List SlotState) (bytes : List ℕ) → AreLoaded m.geometry m.numbers (length m.numbers) states bytes → LoadsAll m states bytes
loads_all m states bytes are n i x at =
    let e = entry_is 0 m.numbers n i x at in
    let high : i < 0 + length m.numbers = e.high in
    let lt : i < length m.numbers = omega arith in
    let same : i - 0 ≡ i = omega arith in
    are i x lt (subst (λ (k : ℕ). slice_get m.numbers k ≡ Some x) same e.at)

loads_where : (m : Making) (states : List SlotState) (o : Option ToldBytes) → IfSome o (λ b. AreLoaded m.geometry m.numbers (length m.numbers) states b.now) → IfSome (option_map (λ (b : ToldBytes). b.now) o) (LoadsAll m states)
loads_where m states None are = tt
loads_where m states (Some b) are = loads_all m states b.now are

-- each sector was read; its fields show w of what was known, v
module _ {m : Making} {entry : Told} {w v : Parts} (shown : w ≡ v) (sound : IsSound m entry v) where
  was : IsSound m entry w
  was = subst (IsSound m entry) (sym shown) sound

  pub has_started : (a f : FlsState) → a ≡ record w.fls { flash = powered w.fls.flash } → HasRead a f
      → (states : List SlotState) → IfSome a.flash.bytes (λ b. AreLoaded w.geometry w.numbers (length w.numbers) states b.now) → length states ≡ length w.states → ((i : ℕ) → (state_at states i).worn ≡ (state_at w.states i).worn)
      → (content : List ℕ) → length content ≡ w.geometry.sector → All (λ (x : ℕ). x < 256) content
      → (n : ℕ) → n ≡ w.starts + 1 → (u : Unit {0}) → IsStart m (Ok u) v (record (started_as w f states content true w.faults) { starts = n })
  has_started a f is read states loaded count worn content room small n starts u =
      let flash : f.flash ≡ powered w.fls.flash = ap (λ (x : FlsState). x.flash) read ∙ ap (λ (x : FlsState). x.flash) is in
      let driver : f ≡ record w.fls { flash = f.flash; result = f.result } = read ∙ ap (λ (x : FlsState). record x { result = f.result }) is ∙ (λ k. record w.fls { flash = sym flash k; result = f.result }) in
      let whole : f.flash ≡ record (powered w.fls.flash) { faults = f.flash.faults } = flash ∙ (λ k. record (powered w.fls.flash) { faults = (sym flash k).faults }) in
      let here : IfSome w.fls.flash.bytes (λ b. AreLoaded m.geometry m.numbers (length m.numbers) states b.now) =
      subst (λ (o : Option ToldBytes). IfSome o (λ b. AreLoaded m.geometry m.numbers (length m.numbers) states b.now)) (ap (λ (x : FlsState). x.flash.bytes) is)
      (subst (λ (g : Geometry). IfSome a.flash.bytes (λ b. AreLoaded g m.numbers (length m.numbers) states b.now)) was.made_for.geometry
      (subst (λ (ns : List (DeviceNumber × ℕ)). IfSome a.flash.bytes (λ b. AreLoaded w.geometry ns (length ns) states b.now)) was.made_for.numbers loaded)) in
      let size : length content ≡ length w.content = room ∙ ap (λ (g : Geometry). g.sector) was.made_for.geometry ∙ sym was.made_for.room in
      let after : record (started_as w f states content true w.faults) { starts = n } ≡ started_as w f states content true w.faults = ap (λ (k : ℕ). record (started_as w f states content true w.faults) { starts = k }) starts in
      let own : IsStart m (Ok u) w (record (started_as w f states content true w.faults) { starts = n }) = record {
        fls = f;
        states = states;
        content = content;
        starts = record { flash = whole; driver = driver; count = count; worn = worn; room = size; small = small };
        came = (flash, loads_where m states w.fls.flash.bytes here, after);
      } in
      subst (λ (x : Parts). IsStart m (Ok u) x (record (started_as w f states content true w.faults) { starts = n })) shown own
