-- The programs of a device: each finds its page blank.
use Rattle.std.specs.Prelude.{IsSome, IsTrue, not, ◌==◌, ◌&&◌}
use Rattle.std.proofs.Common.{◌≡◌, inl, ◌<◌, ◌≤◌, ◌+◌, ◌*◌, ◌/◌, ℕ, zero, suc, List, [], length, Some, None, refl, sym, ap, ◌∙◌, subst, arith}
use Rattle.nv_base.specs.Geometry.{pages_of_bank, address_of_page}
use Rattle.nv_base.specs.declared.geometry.Geometry.{Geometry}
use Rattle.fls_model.specs.Step.{programs}
use Rattle.fls_model.specs.Told.{Change}
use Rattle.fee_format.specs.Pages.{page_at, blank_page}
use Rattle.fee_image.specs.Bank.{Bank, page_of}
use Rattle.fee_image.specs.Log.{HasTail}
use Rattle.fee_switch_laws.specs.fee_log.declared.tail.Tail.{Tail}
use Rattle.fee_switch_laws.specs.fee_log.declared.tail.Tail.TheVariants.{Open, Writes, Owes, Closed}
use Rattle.fee_switch_laws.specs.fee_log.Laws.{HoldsState}
use Rattle.fee_switch_laws.specs.fee_log.Log.{LogState, IsLogState, bank_of, work_in, tail_with}
use Rattle.fee_switch_laws.specs.fee_log.Step.{IsPageOf, due_page, due_bytes, op_of}
use Rattle.promise_device.specs.Making.{Making}
use Rattle.promise_device.specs.Traits.{page_in_bank}
use Rattle.promise_device.specs.Wear.{finds_blank, leaves_room, is_page_due, is_front_due, has_place, is_due_there, is_due_by}
use Rattle.promise_device.proofs.Wears.{unlike, all_two, one_of}
use Rattle.fee_laws.specs.Follows.{anything}
use Rattle.promise_device.proofs.Places.{page_number, bank_of_program, own_page, programs_have_place}
use Rattle.fee_laws.proofs.FollowOperations.{page_is_blank}
use Rattle.fee_laws.proofs.FollowAppends.{due_inside}
use Rattle.fee_laws.proofs.FollowBanks.{some_page}

-- THE PLACE
-- a page that isn't a gate's leaves the room as it is
elsewhere : (m : Making) (g : Geometry) (banks k q : ℕ) (bytes : List ℕ) → g ≡ m.geometry → banks ≡ m.banks → 0 < g.page → q < pages_of_bank g banks → (q ≡ 1 → ⊥) → IsTrue (leaves_room m (address_of_page g banks k q) bytes)
elsewhere m g banks k q bytes shape shared some inside other =
    let address = address_of_page g banks k q in
    let at = bank_of_program g banks k q [] some inside in
    let number = page_number g banks k q some in
    let differs : address / g.page ≡ address / g.page / pages_of_bank g banks * pages_of_bank g banks + 1 → ⊥ =
    λ same. (let here : k * pages_of_bank g banks + q ≡ k * pages_of_bank g banks + 1 = sym number ∙ same ∙ ap (λ (n : ℕ). n * pages_of_bank g banks + 1) at in other (omega (arith, here))) in
    let own : IsTrue (not (address / g.page == address / g.page / pages_of_bank g banks * pages_of_bank g banks + 1)) = unlike _ _ differs in
    one_of _ _ (inl (subst (λ (x : Geometry). IsTrue (not (address / x.page == address / x.page / pages_of_bank x m.banks * pages_of_bank x m.banks + 1))) shape
    (subst (λ (b : ℕ). IsTrue (not (address / g.page == address / g.page / pages_of_bank g b * pages_of_bank g b + 1))) shared own)))

-- a page is in its turn by its place in its bank
pub front_is : (m : Making) (earlier : List Change) (g : Geometry) (banks k q : ℕ) (page bytes : List ℕ) → g ≡ m.geometry → banks ≡ m.banks → 0 < g.page → q < pages_of_bank g banks
    → IsTrue (is_page_due m earlier k q (address_of_page g banks k q) page bytes) → IsTrue (is_front_due m earlier (address_of_page g banks k q) page bytes)
front_is m earlier g banks k q page bytes shape shared some inside due =
    let address = address_of_page g banks k q in
    let bank : address / m.geometry.page / pages_of_bank m.geometry m.banks ≡ k = subst (λ (x : Geometry). address / x.page / pages_of_bank x m.banks ≡ k) shape
    (subst (λ (b : ℕ). address / g.page / pages_of_bank g b ≡ k) shared (bank_of_program g banks k q [] some inside)) in
    let own : page_in_bank m.geometry m.banks address ≡ q = subst (λ (x : Geometry). page_in_bank x m.banks address ≡ q) shape
    (subst (λ (b : ℕ). page_in_bank g b address ≡ q) shared (own_page g banks k q some inside)) in
    subst (λ (n : ℕ). IsTrue (is_page_due m earlier n (page_in_bank m.geometry m.banks address) address page bytes)) (sym bank)
    (subst (λ (n : ℕ). IsTrue (is_page_due m earlier k n address page bytes)) (sym own) due)

-- behind the gate each is
behind_gate : (m : Making) (earlier : List Change) (k q address : ℕ) (page bytes : List ℕ) → 2 ≤ q → IsTrue (is_page_due m earlier k q address page bytes)
behind_gate m earlier k zero address page bytes low = absurd (omega (arith, low))
behind_gate m earlier k (suc zero) address page bytes low = absurd (omega (arith, low))
behind_gate m earlier k (suc (suc q)) address page bytes low = refl

-- a program has a place by its page, which is a bank's
pub place_is : (m : Making) (g : Geometry) (banks k q : ℕ) (page : List ℕ) → g ≡ m.geometry → banks ≡ m.banks → 0 < g.page → k < banks → q < pages_of_bank g banks → length page ≡ g.page
    → IsTrue (has_place m (programs (address_of_page g banks k q) page))
place_is m g banks k q page shape shared some bank inside size =
    let same : record m { geometry = g; banks = banks } ≡ m = (λ i. record m { geometry = shape i; banks = shared i }) in
    subst (λ (x : Making). IsTrue (has_place x (programs (address_of_page g banks k q) page))) same
    (programs_have_place (record m { geometry = g; banks = banks }) k q page some bank inside size)

-- a program of a bank's page is due where that page is blank, and in its turn
pub program_due : (m : Making) (earlier : List Change) (g : Geometry) (banks k q : ℕ) (page bytes : List ℕ) → g ≡ m.geometry → banks ≡ m.banks → 0 < g.page → k < banks → q < pages_of_bank g banks → length page ≡ g.page → (q ≡ 1 → ⊥)
    → page_at g.page bytes (k * pages_of_bank g banks + q) ≡ blank_page g.page → IsTrue (is_page_due m earlier k q (address_of_page g banks k q) page bytes)
    → IsTrue (is_due_by m earlier bytes (programs (address_of_page g banks k q) page))
program_due m earlier g banks k q page bytes shape shared some bank inside size other blank due =
    let address = address_of_page g banks k q in
    all_two (has_place m (programs address page)) (is_due_there m earlier bytes (programs address page)) (place_is m g banks k q page shape shared some bank inside size)
    (all_two _ (leaves_room m address bytes && is_front_due m earlier address page bytes)
    (one_of _ _ (inl (subst (λ (x : Geometry). IsTrue (finds_blank x.page address bytes)) shape (page_is_blank g banks k q bytes some blank))))
    (all_two (leaves_room m address bytes) _ (elsewhere m g banks k q bytes shape shared some inside other) (front_is m earlier g banks k q page bytes shape shared some inside due)))

-- THE PAGE OF A RECORD
-- behind what stands of a log's record its bank is blank
blank_by : (b : Bank) (bytes body : List ℕ) (s : LogState) (t : Tail) → HasTail b bytes anything s.end (tail_with t body) → due_page (record s { tail = t }) < b.pages → IsSome (work_in t) → page_of b bytes (due_page (record s { tail = t })) ≡ blank_page b.page
blank_by b bytes body s Open at inside work = cc work
blank_by b bytes body s (Writes h done) at inside work = at.staged.blank (s.end + done) (omega arith) inside
blank_by b bytes body s (Owes h None) at inside work = cc work
blank_by b bytes body s (Owes h (Some next)) at inside work = at.staged.blank (s.end + 1) (omega arith) inside
blank_by b bytes body s Closed at inside work = cc work

-- so the next program of a log is due
pub record_due : (m : Making) (earlier : List Change) (s : LogState) (body bytes page : List ℕ) → s.geometry ≡ m.geometry → s.banks ≡ m.banks → IsLogState s → HoldsState s body bytes anything → IsSome (work_in s.tail)
    → IsPageOf s.geometry.page (due_bytes s page) → IsTrue (is_due_by m earlier bytes (op_of s page))
record_due m earlier s body bytes page shape shared state holds work is =
    let due = due_inside s s.tail state.end_low state.tail work in
    program_due m earlier s.geometry s.banks s.bank (due_page s) (due_bytes s page) bytes shape shared (some_page s.geometry state.geometry) state.bank due.1 is.size (λ one. (let low = due.0 in absurd (omega (arith, low, one))))
    (blank_by (bank_of s) bytes body s s.tail holds.holds.tail due.1 work) (behind_gate m earlier s.bank (due_page s) (address_of_page s.geometry s.banks s.bank (due_page s)) (due_bytes s page) bytes due.0)
