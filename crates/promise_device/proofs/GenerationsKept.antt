-- The banks take turns: what is kept of them from operation to operation.
use Rattle.std.specs.Prelude.{IsTrue, IfSome, ◌&&◌, ◌||◌, ◌==◌, if◌then◌else◌, replicate}
use Rattle.std.specs.List.{All, list_any}
use Rattle.std.specs.Option.{option_map_or}
use Rattle.std.specs.Int.{byte_at}
use Rattle.std.proofs.Common.{◌≡◌, ◌⊎◌, inl, inr, ◌↔◌, ◌<◌, ◌≤◌, ◌+◌, ◌-◌, ◌*◌, ◌/◌, ◌%◌, ◌^◌, ◌++◌, ◌∷◌, ℕ, zero, suc, Bool, true, false, List, [], Option, Some, None, take, refl, sym, ap, ◌∙◌, subst, arith}
use Rattle.std.proofs.Math.Nat.{mod-lt, mod-eq_of_lt, mul-mod_left}
use Rattle.std.proofs.lemmas.Bool.{cases_eq, false≢true}
use Rattle.std.proofs.lemmas.List.Elements.{All-append, All-replicate}
use Rattle.std.proofs.lemmas.List.Folds.{list_any-append}
use Rattle.std.proofs.lemmas.Nat.{div-add-mod', mod-mul-add}
use Rattle.std.proofs.lemmas.Option.{same_Some}
use Rattle.nv_base.specs.Geometry.{IsLegal, HasBanks, sectors_of_bank, address_of_page}
use Rattle.nv_base.proofs.Shapes.{banks_fill}
use Rattle.fls_model.specs.declared.flash.FlashAnswer.{FlashAnswer}
use Rattle.fls_model.specs.declared.flash.FlashAnswer.TheVariants.{Done, Failed, Off}
use Rattle.fls_model.specs.Attach.{AreBytesOf}
use Rattle.fls_model.specs.Op.{Op, Program, Erase}
use Rattle.fls_model.specs.Told.{Change}
use Rattle.fee_format.specs.declared.bank_head.BankHead.{BankHead}
use Rattle.fee_format.specs.BankHead.{bank_head_page}
use Rattle.fee_format.specs.Formats.{new_format}
use Rattle.fee_format.specs.Pages.{same_bytes}
use Rattle.fee_format.proofs.Tests.{eq_is}
use Rattle.fee_format.proofs.Torn.{byte_small}
use Rattle.fee_image.specs.Image.{Layout, IsLegalLayout, image_page, BankStands, IsActive, active_of}
use Rattle.fee_image.specs.Sound.{IsSoundImage}
use Rattle.fee_image.specs.Laws.{place_of_sector}
use Rattle.fee_image.proofs.Banks.{heads_compute, active_computes, no_active_computes}
use Rattle.fee_image.proofs.Sectors.{layouts_are_legal}
use Rattle.promise_device.specs.Making.{Making, banks_of}
use Rattle.promise_device.specs.Traits.{is_done}
use Rattle.promise_device.specs.Wear.{is_failed, bank_of_op, same_op, bank_behind, generation_in, head_behind, programs_at, leads_to_gate, comes_behind}
use Rattle.promise_device.specs.Generations.{IsTurn, sets_generation, IsInTurn, generation_of}
use Rattle.promise_device.proofs.Wears.{one_of, first_of, second_of, latest_is}
use Rattle.promise_device.specs.SwitchErases.{erases_first}
use Rattle.promise_device.proofs.Places.{bank_of_erase}
use Rattle.promise_device.proofs.SwitchErases.{AreFew}
use Rattle.promise_device.proofs.Operations.{some_sectors}

-- TURNS
-- the bank behind one that has its turn has the next turn
pub wrap : (n p k : ℕ) → 0 < n → k ≡ p % n → (if k + 1 == n then 0 else k + 1) ≡ (p + 1) % n
wrap n p k some is = by (k + 1 == n) (eq_is (k + 1) n)
  where
    all : p / n * n + p % n ≡ p
    all = div-add-mod' p n

    less : p % n < n
    less = mod-lt p some

    by : (b : Bool) → IsTrue b ↔ (k + 1 ≡ n) → (if b then 0 else k + 1) ≡ (p + 1) % n
    by true e =
        let here : k + 1 ≡ n = e.0 refl in
        let one : (p / n + 1) * n ≡ p / n * n + n = omega arith in
        let at : p + 1 ≡ (p / n + 1) * n = (let whole = all in omega (arith, whole, one, is, here)) in
        sym (ap (λ (x : ℕ). x % n) at ∙ mul-mod_left (p / n + 1) n)
    by false e =
        let other : k + 1 ≡ n → ⊥ = λ same. absurd (false≢true (e.1 same)) in
        let within : k + 1 < n = (let lt = less in omega (arith, lt, is, other)) in
        let at : p + 1 ≡ p / n * n + (k + 1) = (let whole = all in omega (arith, whole, is)) in
        sym (ap (λ (x : ℕ). x % n) at ∙ mod-mul-add (p / n) n (k + 1) within)

pub turn_behind : (banks : ℕ) → 0 < banks → (o : Option (ℕ × BankHead)) → IfSome o (λ x. IsTurn banks x.0 x.1.generation) → IsTurn banks (bank_behind banks o) (generation_in o + 1)
turn_behind banks some None turn = (omega arith, sym (mod-eq_of_lt some))
turn_behind banks some (Some x) turn =
    let low = turn.0 in
    let same : x.1.generation - 1 + 1 ≡ x.1.generation + 1 - 1 = omega (arith, low) in
    (omega arith, wrap banks (x.1.generation - 1) x.0 some turn.1 ∙ ap (λ (t : ℕ). t % banks) same)

-- WHAT COMES BEFORE A GATE
pub done_is : (answer : FlashAnswer) → IsTrue (is_done answer) → answer ≡ Done
done_is Done is = refl
done_is Failed is = cc is
done_is Off is = cc is

pub failed_is : (answer : FlashAnswer) → IsTrue (is_failed answer) → answer ≡ Failed
failed_is Done is = cc is
failed_is Failed is = refl
failed_is Off is = cc is

pub either_of : (a b : Bool) → IsTrue (a || b) → IsTrue a ⊎ IsTrue b
either_of true b is = inl refl
either_of false b is = inr is

-- the page before it was programmed and done, or it was itself, and failed
pub leads_by : (p address other : ℕ) (page bytes : List ℕ) (answer : FlashAnswer) (before : List ℕ) → IsTrue ((is_done answer && (other == address - p)) || (is_failed answer && ((address == other) && same_bytes page bytes)))
    → ((answer ≡ Done) × (other ≡ address - p)) ⊎ ((answer ≡ Failed) × (other ≡ address))
leads_by p address other page bytes answer before is =
    elim (either_of (is_done answer && (other == address - p)) (is_failed answer && ((address == other) && same_bytes page bytes)) is) [
      | inl head ↦ inl (done_is answer (first_of (is_done answer) (other == address - p) head), (eq_is _ _).0 (second_of (is_done answer) (other == address - p) head))
      | inr gate ↦ inr (
        failed_is answer (first_of (is_failed answer) ((address == other) && same_bytes page bytes) gate),
        sym ((eq_is _ _).0 (first_of (address == other) (same_bytes page bytes) (second_of (is_failed answer) ((address == other) && same_bytes page bytes) gate))),
      )
    ]

pub or_none : (a b : Bool) → a ≡ false → b ≡ false → IsTrue (a || b) → ⊥
or_none true b one two is = cc one
or_none false b one two is = cc (two, is)

pub and_none : (a : Bool) → (a && false) ≡ false
and_none true = refl
and_none false = refl

-- FIRST BYTES
pub small_cons : (x : ℕ) (xs : List ℕ) → x < 256 → All (λ (y : ℕ). y < 256) xs → All (λ (y : ℕ). y < 256) (x ∷ xs)
small_cons x xs small all zero d lt = small
small_cons x xs small all (suc k) d lt = all k d (omega arith)

pub turned : (x : ℕ) → 255 - x < 256
turned x = omega arith

pub head_small : (p t : ℕ) → All (λ (x : ℕ). x < 256) (bank_head_page p (record { format = new_format; generation = t }))
head_small p t =
    let rest : List ℕ = replicate (p - 12) 255 in
    let c0 : List ℕ = (255 - byte_at 0 t) ∷ rest in
    let c1 : List ℕ = (255 - byte_at 1 t) ∷ c0 in
    let c2 : List ℕ = (255 - byte_at 2 t) ∷ c1 in
    let c3 : List ℕ = (255 - byte_at 3 t) ∷ c2 in
    let c4 : List ℕ = 253 ∷ c3 in
    let c5 : List ℕ = 189 ∷ c4 in
    let b0 : List ℕ = byte_at 0 t ∷ c5 in
    let b1 : List ℕ = byte_at 1 t ∷ b0 in
    let b2 : List ℕ = byte_at 2 t ∷ b1 in
    let b3 : List ℕ = byte_at 3 t ∷ b2 in
    let i0 = small_cons (255 - byte_at 0 t) rest (turned (byte_at 0 t)) (All-replicate (λ (x : ℕ). x < 256) (p - 12) 255 (omega arith)) in
    let i1 = small_cons (255 - byte_at 1 t) c0 (turned (byte_at 1 t)) i0 in
    let i2 = small_cons (255 - byte_at 2 t) c1 (turned (byte_at 2 t)) i1 in
    let i3 = small_cons (255 - byte_at 3 t) c2 (turned (byte_at 3 t)) i2 in
    let i4 = small_cons 253 c3 (omega arith) i3 in
    let i5 = small_cons 189 c4 (omega arith) i4 in
    let j0 = small_cons (byte_at 0 t) c5 (byte_small 0 t) i5 in
    let j1 = small_cons (byte_at 1 t) b0 (byte_small 1 t) j0 in
    let j2 = small_cons (byte_at 2 t) b1 (byte_small 2 t) j1 in
    let j3 = small_cons (byte_at 3 t) b2 (byte_small 3 t) j2 in
    small_cons 66 (2 ∷ b3) (omega arith) (small_cons 2 b3 (omega arith) j3)

-- ONE OPERATION MORE
pub any_more : (f : Change → Bool) (xs : List Change) (x : Change) → IsTrue (list_any f xs) → IsTrue (list_any f (xs ++ x ∷ []))
any_more f xs x is = subst (λ (b : Bool). IsTrue b) (sym (list_any-append f xs (x ∷ []))) (one_of (list_any f xs) (list_any f (x ∷ [])) (inl is))

pub any_last : (f : Change → Bool) (xs : List Change) (x : Change) → IsTrue (f x) → IsTrue (list_any f (xs ++ x ∷ []))
any_last f xs x is = subst (λ (b : Bool). IsTrue b) (sym (list_any-append f xs (x ∷ []))) (one_of (list_any f xs) (list_any f (x ∷ [])) (inr (one_of (f x) false (inl is))))

pub all_more : (P : Change → Type 0) (xs : List Change) (x : Change) → All P xs → P x → All P (xs ++ x ∷ [])
all_more P xs x all is = All-append P xs (x ∷ []) all (alone P x is)
  where
    alone : (Q : Change → Type 0) (y : Change) → Q y → All Q (y ∷ [])
    alone Q y here zero d lt = here
    alone Q y here (suc k) d lt = absurd (omega arith)

pub more_turns : (m : Making) (least most : ℕ) (op : Op) → least ≤ most → IsInTurn m least op → IsInTurn m most op
more_turns m least most (Program address page) le turn = λ first. let is = turn first in (is.0, is.1, (let high = is.2 in omega (arith, high)), is.3)
more_turns m least most (Erase address n) le turn = tt

module _ (m : Making) (legal : IsLegal m.geometry) (shared : HasBanks m.geometry m.banks) where
  abbrev pub l : Layout
  l = banks_of m

  pub legal_layout : IsLegalLayout l
  legal_layout = layouts_are_legal m.geometry m.banks legal shared

  pub some_banks : 0 < m.banks
  some_banks = let low = shared.low in omega (arith, low)

  pub some_bytes : 0 < m.geometry.page
  some_bytes = let low = legal.page_low in omega (arith, low)

  pub four_pages : 4 ≤ l.pages
  four_pages = (banks_fill m.geometry m.banks legal shared).1

  abbrev pub gate_op : ℕ → List ℕ → Op
  gate_op k page = Program (address_of_page m.geometry m.banks k 1) page

  -- THE ACTIVE BANK
  -- where each bank that stands stood, and the active one stands still, it is active still
  pub still_active : (old new : List ℕ) (o : Option (ℕ × BankHead)) → active_of l old ≡ o → ((i : ℕ) (h : BankHead) → i < l.banks → BankStands l new i h → BankStands l old i h)
      → IfSome o (λ x. BankStands l old x.0 x.1 → BankStands l new x.0 x.1) → active_of l new ≡ o
  still_active old new None at stood still = (no_active_computes l new).0 (λ i h lt stands. (no_active_computes l old).1 at i h lt (stood i h lt stands))
  still_active old new (Some x) at stood still =
      let is : IsActive l old x.0 x.1 = (active_computes l old x.0 x.1).1 at in
      (active_computes l new x.0 x.1).0 (record { bank = is.bank; stands = still is.stands; first = λ j other lt ne stands. is.first j other lt ne (stood j other lt stands) })

  -- the bank behind it is another one
  pub other_behind : (o : Option (ℕ × BankHead)) → IfSome o (λ x. x.0 ≡ bank_behind m.banks o → ⊥)
  other_behind None = tt
  other_behind (Some x) = λ same. differs (x.0 + 1 == m.banks) (eq_is (x.0 + 1) m.banks) same
    where
      differs : (b : Bool) → IsTrue b ↔ (x.0 + 1 ≡ m.banks) → x.0 ≡ (if b then 0 else x.0 + 1) → ⊥
      differs true e same = let at : x.0 + 1 ≡ m.banks = e.0 refl in let low = shared.low in omega (arith, at, same, low)
      differs false e same = omega (arith, same)

  -- it has the greatest generation
  pub greatest : (image : List ℕ) (o : Option (ℕ × BankHead)) → active_of l image ≡ o → (k : ℕ) (h : BankHead) → k < l.banks → BankStands l image k h → h.generation ≤ generation_in o
  greatest image None at k h lt stands = absurd ((no_active_computes l image).1 at k h lt stands)
  greatest image (Some x) at k h lt stands =
      let is : IsActive l image x.0 x.1 = (active_computes l image x.0 x.1).1 at in
      elim (cases_eq k x.0) [
        | inl same ↦ (let one : x.1 ≡ h = one_head image k x.1 h (subst (λ (n : ℕ). BankStands l image n x.1) (sym same) is.stands) stands in let e : x.1.generation ≡ h.generation = ap (λ (y : BankHead). y.generation) one in omega (arith, e))
        | inr differs ↦ elim (is.first k h lt differs stands) [ inl less ↦ omega (arith, less) | inr tie ↦ (let e = tie.0 in omega (arith, e)) ]
      ]
    where
      one_head : (bytes : List ℕ) (j : ℕ) (i other : BankHead) → BankStands l bytes j i → BankStands l bytes j other → i ≡ other
      one_head bytes j i other one two = same_Some i other (sym ((heads_compute l bytes j i).0 one) ∙ (heads_compute l bytes j other).0 two)

  -- THE GATE IS DUE
  -- What is known where a gate of bank k may come next: these were the bytes before its head, over which it doesn't stand; its first
  -- page is that head.
  pub record Waits (earlier : List Change) (image : List ℕ) (k : ℕ) : Type 0 where
    pub was : List ℕ
    pub shut : (h : BankHead) → BankStands l was k h → ⊥
    pub others : (i : ℕ) → (i ≡ k → ⊥) → (image_page l image i 0 ≡ image_page l was i 0) × (image_page l image i 1 ≡ image_page l was i 1)
    pub next : k ≡ bank_behind m.banks (active_of l was)
    pub low : generation_of m was + 1 < 2 ^ 32
    pub head : image_page l image k 0 ≡ bank_head_page m.geometry.page (head_behind (active_of l was))
    pub turn : IsTurn m.banks k (generation_of m was + 1)
    pub set : (t : ℕ) → 1 ≤ t → t ≤ generation_of m was + 1 → IsTrue (list_any (sets_generation m t) earlier)
    pub asked : All (λ x. IsInTurn m (generation_of m was + 1) x.op) earlier
    pub few : (j : ℕ) → j < m.banks → AreFew m earlier j (generation_of m was)

  pub record Inv (earlier : List Change) (image : List ℕ) : Type 0 where
    pub bytes : AreBytesOf m.geometry image
    pub sound : IsSoundImage l image
    pub turns : (k : ℕ) (h : BankHead) → k < l.banks → BankStands l image k h → IsTurn m.banks k h.generation
    pub set : (t : ℕ) → 1 ≤ t → t ≤ generation_of m image → IsTrue (list_any (sets_generation m t) earlier)
    pub asked : All (λ x. IsInTurn m (generation_of m image + 1) x.op) earlier
    pub few : (j : ℕ) → j < m.banks → AreFew m earlier j (generation_of m image)
    pub gate : (k : ℕ) (page : List ℕ) → k < m.banks → IsTrue (comes_behind m.geometry (gate_op k page) earlier) → Waits earlier image k

  -- a gate comes behind this operation
  pub before_gate : (k : ℕ) → address_of_page m.geometry m.banks k 1 - m.geometry.page ≡ address_of_page m.geometry m.banks k 0
  before_gate k = at (k * l.pages) m.geometry.page
    where
      at : (n p : ℕ) → (n + 1) * p - p ≡ (n + 0) * p
      at n p = omega arith

  pub led : (earlier : List Change) (x : Change) (k : ℕ) (page : List ℕ) → IsTrue (comes_behind m.geometry (gate_op k page) (earlier ++ x ∷ [])) → IsTrue (leads_to_gate m.geometry (gate_op k page) x)
  led earlier x k page is = subst (λ (o : Option Change). IsTrue (option_map_or (leads_to_gate m.geometry (gate_op k page)) o false)) (latest_is None earlier x) is

  -- no erase
  pub no_erase : (k : ℕ) (page : List ℕ) (x : Change) (address n : ℕ) → x.op ≡ Erase address n → IsTrue (leads_to_gate m.geometry (gate_op k page) x) → ⊥
  no_erase k page x address n op is =
      or_none (is_done x.answer && programs_at (address_of_page m.geometry m.banks k 1 - m.geometry.page) x.op) (is_failed x.answer && same_op (gate_op k page) x.op)
      (ap (λ (o : Op). is_done x.answer && programs_at (address_of_page m.geometry m.banks k 1 - m.geometry.page) o) op ∙ and_none (is_done x.answer))
      (ap (λ (o : Op). is_failed x.answer && same_op (gate_op k page) o) op ∙ and_none (is_failed x.answer)) is

  -- but the program of the bank's head, done, or of its gate, failed
  pub gate_behind : (k : ℕ) (page : List ℕ) (x : Change) (address : ℕ) (bytes : List ℕ) → x.op ≡ Program address bytes → IsTrue (leads_to_gate m.geometry (gate_op k page) x)
      → ((x.answer ≡ Done) × (address ≡ address_of_page m.geometry m.banks k 0)) ⊎ ((x.answer ≡ Failed) × (address ≡ address_of_page m.geometry m.banks k 1))
  gate_behind k page x address bytes op is =
      let gate = address_of_page m.geometry m.banks k 1 in
      let here : IsTrue ((is_done x.answer && programs_at (gate - m.geometry.page) (Program address bytes)) || (is_failed x.answer && same_op (gate_op k page) (Program address bytes))) =
      subst (λ (o : Op). IsTrue ((is_done x.answer && programs_at (gate - m.geometry.page) o) || (is_failed x.answer && same_op (gate_op k page) o))) op is in
      elim (leads_by m.geometry.page gate address page bytes x.answer x.before here) [ inl head ↦ inl (head.0, head.1 ∙ before_gate k) | inr gate' ↦ inr gate' ]

  -- WHERE THE ACTIVE BANK STAYS
  pub stays : (earlier : List Change) (x : Change) (image new : List ℕ) → Inv earlier image → AreBytesOf m.geometry new → IsSoundImage l new → ((i : ℕ) (h : BankHead) → i < l.banks → BankStands l new i h → BankStands l image i h)
      → active_of l new ≡ active_of l image → IsInTurn m (generation_of m image + 1) x.op → ((j : ℕ) → j < m.banks → AreFew m (earlier ++ x ∷ []) j (generation_of m image))
      → ((k : ℕ) (page : List ℕ) → k < m.banks → IsTrue (comes_behind m.geometry (gate_op k page) (earlier ++ x ∷ [])) → Waits (earlier ++ x ∷ []) new k) → Inv (earlier ++ x ∷ []) new
  stays earlier x image new inv bytes sound stood same turn few gate =
      let g : generation_of m new ≡ generation_of m image = ap generation_in same in
      record {
        bytes = bytes;
        sound = sound;
        turns = λ k h lt stands. inv.turns k h lt (stood k h lt stands);
        set = λ t low high. any_more (sets_generation m t) earlier x (inv.set t low (omega (arith, high, g)));
        asked = subst (λ (n : ℕ). All (λ (y : Change). IsInTurn m (n + 1) y.op) (earlier ++ x ∷ [])) (sym g) (all_more (λ (y : Change). IsInTurn m (generation_of m image + 1) y.op) earlier x inv.asked turn);
        few = λ j lt. subst (AreFew m (earlier ++ x ∷ []) j) (sym g) (few j lt);
        gate = gate;
      }

  -- the active bank has its turn
  pub active_turn : (earlier : List Change) (image : List ℕ) → Inv earlier image → (o : Option (ℕ × BankHead)) → active_of l image ≡ o → IfSome o (λ x. IsTurn m.banks x.0 x.1.generation)
  active_turn earlier image inv None at = tt
  active_turn earlier image inv (Some x) at =
      let is : IsActive l image x.0 x.1 = (active_computes l image x.0 x.1).1 at in inv.turns x.0 x.1 is.bank is.stands

  -- an erase of a bank's first sector is of that bank
  pub first_own : (j : ℕ) (op : Op) → IsTrue (erases_first m j op) → bank_of_op m.geometry m.banks op ≡ j
  first_own j (Program address page) is = cc is
  first_own j (Erase address n) is =
      let at : address ≡ place_of_sector m.geometry m.banks j 0 = (eq_is _ _).0 is ∙ sym (begin j (sectors_of_bank m.geometry m.banks) m.geometry.sector) in
      ap (λ (a : ℕ). bank_of_op m.geometry m.banks (Erase a n)) at ∙ bank_of_erase m.geometry m.banks j 0 (let low = legal.sector_low in let some = some_bytes in omega (arith, low, some)) (some_sectors m legal shared)
    where
      begin : (k sectors sector : ℕ) → (k * sectors + 0) * sector ≡ k * (sectors * sector)
      begin k sectors sector = omega arith
