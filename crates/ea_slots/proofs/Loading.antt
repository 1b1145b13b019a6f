-- What a start-up loads, from what its reads answer.
use Rattle.std.specs.Prelude.{IfSome, slice_get}
use Rattle.std.proofs.Common.{◌≡◌, ◌≢◌, ◌⊎◌, inl, inr, ◌<◌, ◌≤◌, ◌+◌, ◌*◌, ℕ, suc, List, [], length, take, drop, get_or, Option, Some, None, sym, ap, ◌∙◌, subst, arith}
use Rattle.std.proofs.lemmas.Option.{slice_get-get_or}
use Rattle.nv_base.specs.declared.geometry.Geometry.{Geometry}
use Rattle.nv_base.specs.declared.instance.DeviceNumber.{DeviceNumber}
use Rattle.nv_base.specs.Geometry.{IsLegal}
use Rattle.fls_model.specs.Bytes.{piece}
use Rattle.fls_model.specs.Told.{Told, ToldBytes}
use Rattle.fls_jobs.specs.State.{FlsState}
use Rattle.ea_image.specs.declared.slot_head.SlotHead.{SlotHead}
use Rattle.ea_image.specs.declared.which.Which.{Which}
use Rattle.ea_image.specs.Memory.{memory_loaded}
use Rattle.ea_image.specs.Slots.{head_sector, place_of_page, slot_bytes, standing}
use Rattle.ea_image.proofs.Pieces.{piece_of_piece}
use Rattle.ea_told.specs.declared.state.SlotState.{SlotState}
use Rattle.ea_told.specs.Device.{state_at}
use Rattle.ea_slots.specs.Starts.{HasRead, AreLoaded}

-- ONE READ BEHIND ANOTHER
pub read_on : (a b c : FlsState) → HasRead a b → HasRead b c → HasRead a c
read_on a b c one two = two ∙ ap (λ (f : FlsState). record f { result = c.result }) one

read_same : (a b : FlsState) → HasRead a b → b.flash ≡ a.flash
read_same a b is = ap (λ (f : FlsState). f.flash) is

-- A SLOT
head_page : (g : Geometry) (k : ℕ) (bytes : List ℕ) → 4 * g.page ≤ g.sector → take g.page (piece (k * g.sector) g.sector bytes) ≡ piece (place_of_page g k 0) g.page bytes
head_page g k bytes le =
    let inside : 0 + g.page ≤ g.sector = omega arith in
    let at : k * g.sector + 0 ≡ place_of_page g k 0 = omega arith in
    piece_of_piece (k * g.sector) g.sector 0 g.page bytes inside ∙ ap (λ (a : ℕ). piece a g.page bytes) at

gate_page : (g : Geometry) (k : ℕ) (bytes : List ℕ) → 4 * g.page ≤ g.sector → take g.page (drop g.page (piece (k * g.sector) g.sector bytes)) ≡ piece (place_of_page g k 1) g.page bytes
gate_page g k bytes le =
    let inside : g.page + g.page ≤ g.sector = omega arith in
    let at : k * g.sector + g.page ≡ place_of_page g k 1 = omega arith in
    piece_of_piece (k * g.sector) g.sector g.page g.page bytes inside ∙ ap (λ (a : ℕ). piece a g.page bytes) at

pub found_is : (g : Geometry) (j k size : ℕ) (w : Which) (o : Option ToldBytes) (into : List ℕ) (h : Option SlotHead) → IsLegal g → k ≡ head_sector j w → length into ≡ g.sector
    → IfSome o (λ b. into ≡ piece (k * g.sector) (length into) b.now) → h ≡ standing g.page size (record { head = take g.page into; gate = take g.page (drop g.page into); body = [] })
    → IfSome o (λ b. h ≡ standing g.page size (slot_bytes g b.now j w))
found_is g j k size w None into h legal at room read is = tt
found_is g j k size w (Some b) into h legal at room read is =
    let low = legal.sector_low in
    let all : into ≡ piece (k * g.sector) g.sector b.now = read ∙ ap (λ (n : ℕ). piece (k * g.sector) n b.now) room in
    let head : take g.page into ≡ piece (place_of_page g (head_sector j w) 0) g.page b.now = ap (take g.page) all ∙ head_page g k b.now low ∙ ap (λ (s : ℕ). piece (place_of_page g s 0) g.page b.now) at in
    let gate : take g.page (drop g.page into) ≡ piece (place_of_page g (head_sector j w) 1) g.page b.now = ap (λ (l : List ℕ). take g.page (drop g.page l)) all ∙ gate_page g k b.now low ∙ ap (λ (s : ℕ). piece (place_of_page g s 1) g.page b.now) at in
    is ∙ (λ i. standing g.page size (record { head = head i; gate = gate i; body = [] }))

-- ALL NUMBERS
loaded_next : (g : Geometry) (numbers : List (DeviceNumber × ℕ)) (place size : ℕ) (old new : List SlotState) (o : Option ToldBytes)
    → IfSome o (λ b. AreLoaded g numbers place old b.now) → ((x : DeviceNumber × ℕ) → slice_get numbers place ≡ Some x → size ≡ x.1)
    → IfSome o (λ b. (state_at new place).memory ≡ memory_loaded g.page size (slot_bytes g b.now place)) → ((i : ℕ) → i ≢ place → state_at new i ≡ state_at old i)
    → IfSome o (λ b. AreLoaded g numbers (suc place) new b.now)
loaded_next g numbers place size old new None before is here others = tt
loaded_next g numbers place size old new (Some b) before is here others = λ i x lt at. by_place i x lt at (split i lt)
  where
    split : (i : ℕ) → i < suc place → (i ≡ place) ⊎ (i < place)
    split i lt = grind arith

    by_place : (i : ℕ) (x : DeviceNumber × ℕ) → i < suc place → slice_get numbers i ≡ Some x → (i ≡ place) ⊎ (i < place) → (state_at new i).memory ≡ memory_loaded g.page x.1 (slot_bytes g b.now i)
    by_place i x lt at (inl same) =
        let size' : size ≡ x.1 = is x (subst (λ (k : ℕ). slice_get numbers k ≡ Some x) same at) in
        subst (λ (k : ℕ). (state_at new k).memory ≡ memory_loaded g.page x.1 (slot_bytes g b.now k)) (sym same)
        (here ∙ ap (λ (n : ℕ). memory_loaded g.page n (slot_bytes g b.now place)) size')
    by_place i x lt at (inr less) =
        let ne : i ≢ place = λ e. omega (arith, e, less) in
        ap (λ (s : SlotState). s.memory) (others i ne) ∙ before i x less at

some_same : (x y : DeviceNumber × ℕ) → Some x ≡ Some y → x ≡ y
some_same x y e = cc e

-- one more, of these numbers as the code lends them
pub loaded_step : (g : Geometry) (numbers lent : List (DeviceNumber × ℕ)) (place size : ℕ) (d : DeviceNumber × ℕ) (a b : FlsState) (old new : List SlotState)
    → HasRead a b → IfSome a.flash.bytes (λ x. AreLoaded g numbers place old x.now) → lent ≡ numbers → place < length numbers → size ≡ (get_or lent place d).1
    → IfSome b.flash.bytes (λ x. (state_at new place).memory ≡ memory_loaded g.page size (slot_bytes g x.now place)) → ((i : ℕ) → i ≢ place → state_at new i ≡ state_at old i)
    → IfSome a.flash.bytes (λ x. AreLoaded g numbers (place + 1) new x.now)
loaded_step g numbers lent place size d a b old new read before same lt is here others =
    let one : suc place ≡ place + 1 = omega arith in
    let there = slice_get-get_or numbers place d lt in
    let own : size ≡ (get_or numbers place d).1 = is ∙ ap (λ (l : List (DeviceNumber × ℕ)). (get_or l place d).1) same in
    let of : (x : DeviceNumber × ℕ) → slice_get numbers place ≡ Some x → size ≡ x.1 = λ x at. own ∙ ap (λ (y : DeviceNumber × ℕ). y.1) (some_same (get_or numbers place d) x (sym there ∙ at)) in
    let here' : IfSome a.flash.bytes (λ x. (state_at new place).memory ≡ memory_loaded g.page size (slot_bytes g x.now place)) =
    subst (λ (t : Told). IfSome t.bytes (λ x. (state_at new place).memory ≡ memory_loaded g.page size (slot_bytes g x.now place))) (read_same a b read) here in
    subst (λ (k : ℕ). IfSome a.flash.bytes (λ x. AreLoaded g numbers k new x.now)) one (loaded_next g numbers place size old new a.flash.bytes before of here' others)
