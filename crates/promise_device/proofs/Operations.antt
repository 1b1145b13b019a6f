-- Operations that have a place in a bank: where they lie, and what they leave.
use Rattle.std.specs.Prelude.{IsTrue, ◌==◌, nat_lt}
use Rattle.std.proofs.Common.{◌≡◌, ◌<◌, ◌≤◌, ◌+◌, ◌-◌, ◌*◌, ◌/◌, ◌%◌, ◌++◌, ℕ, zero, suc, List, [], ◌∷◌, length, take, drop, sym, ap, ◌∙◌, subst, arith}
use Rattle.std.proofs.Math.Nat.{mod-lt, mul-le-mul_right, mul_comm, mod-eq-sub-div-mul}
use Rattle.std.proofs.lemmas.Nat.{div-add-mod', and_le_l}
use Rattle.nv_base.specs.Geometry.{IsLegal, HasBanks, size_of, pages_of_bank, sectors_of_bank, address_of_page}
use Rattle.nv_base.proofs.Shapes.{banks_fill, pages_lie_inside}
use Rattle.fls_model.specs.declared.flash.FlashAnswer.{FlashAnswer}
use Rattle.fls_model.specs.declared.flash.FlashAnswer.TheVariants.{Done, Failed, Off}
use Rattle.fls_model.specs.Attach.{AreBytesOf}
use Rattle.fls_model.specs.Bytes.{AreBytes, piece, and_bytes}
use Rattle.fls_model.specs.Op.{Op, Program, Erase, MayLeave, after_op}
use Rattle.fls_model.specs.Step.{Leaves}
use Rattle.fls_model.proofs.Within.{within_program, within_erase}
use Rattle.fee_format.proofs.Tests.{eq_is, lt_is}
use Rattle.fee_image.specs.BankLaws.{erase_of}
use Rattle.fee_image.specs.Laws.{place_of_sector}
use Rattle.fee_image.proofs.Sectors.{sectors_lie_in_banks}
use Rattle.promise_device.specs.Making.{Making}
use Rattle.promise_device.specs.Traits.{page_in_bank}
use Rattle.promise_device.specs.Wear.{bank_of_op, is_whole, has_place}
use Rattle.promise_device.proofs.Wears.{first_of, second_of}

-- BYTES
taken_bytes : (n : ℕ) (xs : List ℕ) → AreBytes xs → AreBytes (take n xs)
taken_bytes zero xs small k = omega arith
taken_bytes (suc n) [] small k = omega arith
taken_bytes (suc n) (x ∷ xs) small zero = small 0
taken_bytes (suc n) (x ∷ xs) small (suc k) = taken_bytes n xs (λ i. small (suc i)) k

dropped_bytes : (n : ℕ) (xs : List ℕ) → AreBytes xs → AreBytes (drop n xs)
dropped_bytes zero xs small k = small k
dropped_bytes (suc n) [] small k = omega arith
dropped_bytes (suc n) (x ∷ xs) small k = dropped_bytes n xs (λ i. small (suc i)) k

joined_bytes : (xs ys : List ℕ) → AreBytes xs → AreBytes ys → AreBytes (xs ++ ys)
joined_bytes [] ys small small' k = small' k
joined_bytes (x ∷ xs) ys small small' zero = small 0
joined_bytes (x ∷ xs) ys small small' (suc k) = joined_bytes xs ys (λ i. small (suc i)) small' k

cleared_bytes : (xs page : List ℕ) → AreBytes xs → AreBytes (and_bytes xs page)
cleared_bytes [] [] small k = small k
cleared_bytes [] (y ∷ ys) small k = omega arith
cleared_bytes (x ∷ xs) [] small k = small k
cleared_bytes (x ∷ xs) (y ∷ ys) small zero = let here : x < 256 = small 0 in let less = and_le_l x y in omega (arith, here, less)
cleared_bytes (x ∷ xs) (y ∷ ys) small (suc k) = cleared_bytes xs ys (λ i. small (suc i)) k

programs_keep_bytes : (a : ℕ) (page old : List ℕ) → AreBytes old → AreBytes (after_op (Program a page) old)
programs_keep_bytes a page old small =
    let over = and_bytes (piece a (length page) old) page in
    joined_bytes (take a old ++ over) (drop (a + length over) old)
    (joined_bytes (take a old) over (taken_bytes a old small) (cleared_bytes (piece a (length page) old) page (taken_bytes (length page) (drop a old) (dropped_bytes a old small))))
    (dropped_bytes (a + length over) old small)

-- where an operation's range ends
abbrev ends_of : Op → ℕ
ends_of (Program address page) = address + length page
ends_of (Erase address n) = address + n

some_of : (q each rest all : ℕ) → q * each + rest ≡ all → rest ≡ 0 → 2 ≤ all → 0 < q
some_of zero each rest all is none two = absurd (let nothing : 0 * each ≡ 0 = omega arith in omega (arith, is, none, two, nothing))
some_of (suc q) each rest all is none two = omega arith

module _ (m : Making) (legal : IsLegal m.geometry) (shared : HasBanks m.geometry m.banks) where
  abbrev B : ℕ
  B = pages_of_bank m.geometry m.banks

  abbrev S : ℕ
  S = sectors_of_bank m.geometry m.banks

  some_pages : 0 < B
  some_pages = let four = (banks_fill m.geometry m.banks legal shared).1 in omega (arith, four)

  pub some_sectors : 0 < S
  some_sectors = some_of (m.geometry.sectors / m.banks) m.banks (m.geometry.sectors % m.banks) m.geometry.sectors (div-add-mod' m.geometry.sectors m.banks) shared.whole legal.sectors_low

  -- WHERE THEY LIE
  -- a program is of page q of bank k
  pub record IsProgramOf (k q address : ℕ) (page : List ℕ) : Type 0 where
    pub bank : k < m.banks
    pub inside : q < B
    pub at : address ≡ address_of_page m.geometry m.banks k q
    pub size : length page ≡ m.geometry.page

  -- n is the place of the page or the sector at its address, among so many of each bank
  splits : (n each : ℕ) → 0 < each → (n ≡ n / each * each + (n - n / each * each)) × (n - n / each * each < each)
  splits n each some =
      let all = div-add-mod' n each in
      let rest = mod-eq-sub-div-mul n each in
      let less : n % each < each = mod-lt n some in
      (omega (arith, all), omega (arith, rest, less))

  pub program_has : (address : ℕ) (page : List ℕ) → IsTrue (has_place m (Program address page))
      → IsProgramOf (bank_of_op m.geometry m.banks (Program address page)) (page_in_bank m.geometry m.banks address) address page
  program_has address page placed =
      let bank = bank_of_op m.geometry m.banks (Program address page) in
      let whole = second_of (nat_lt bank m.banks) (is_whole m.geometry (Program address page)) placed in
      let aligned : address % m.geometry.page ≡ 0 = (eq_is _ _).0 (first_of (address % m.geometry.page == 0) (length page == m.geometry.page) whole) in
      let n = address / m.geometry.page in
      let here : address ≡ n * m.geometry.page = (let all = div-add-mod' address m.geometry.page in omega (arith, all, aligned)) in
      let split = splits n B some_pages in
      record {
        bank = (lt_is _ _).0 (first_of (nat_lt bank m.banks) (is_whole m.geometry (Program address page)) placed);
        inside = split.1;
        at = here ∙ ap (λ (x : ℕ). x * m.geometry.page) split.0;
        size = (eq_is _ _).0 (second_of (address % m.geometry.page == 0) (length page == m.geometry.page) whole);
      }

  -- an erase is of sector s of bank k
  pub record IsEraseOf (k s : ℕ) (op : Op) : Type 0 where
    pub bank : k < m.banks
    pub inside : s < S
    pub op_is : op ≡ erase_of m.geometry m.banks k s

  pub erase_has : (address n : ℕ) → IsTrue (has_place m (Erase address n))
      → let k = bank_of_op m.geometry m.banks (Erase address n) in IsEraseOf k (address / m.geometry.sector - k * S) (Erase address n)
  erase_has address n placed =
      let bank = bank_of_op m.geometry m.banks (Erase address n) in
      let whole = second_of (nat_lt bank m.banks) (is_whole m.geometry (Erase address n)) placed in
      let aligned : address % m.geometry.sector ≡ 0 = (eq_is _ _).0 (first_of (address % m.geometry.sector == 0) (n == m.geometry.sector) whole) in
      let size : n ≡ m.geometry.sector = (eq_is _ _).0 (second_of (address % m.geometry.sector == 0) (n == m.geometry.sector) whole) in
      let i = address / m.geometry.sector in
      let here : address ≡ i * m.geometry.sector = (let all = div-add-mod' address m.geometry.sector in omega (arith, all, aligned)) in
      let split = splits i S some_sectors in
      let at : address ≡ place_of_sector m.geometry m.banks bank (i - bank * S) = here ∙ ap (λ (x : ℕ). x * m.geometry.sector) split.0 in
      record {
        bank = (lt_is _ _).0 (first_of (nat_lt bank m.banks) (is_whole m.geometry (Erase address n)) placed);
        inside = split.1;
        op_is = (λ j. Erase (at j) (size j));
      }

  -- WHAT THEY LEAVE
  sectors_inside : (k s : ℕ) → k < m.banks → s < S → place_of_sector m.geometry m.banks k s + m.geometry.sector ≤ size_of m.geometry
  sectors_inside k s bank inside =
      let H = B * m.geometry.page in
      let high = (sectors_lie_in_banks m.geometry m.banks k s legal shared inside).high in
      let fill = (banks_fill m.geometry m.banks legal shared).0 in
      let le = mul-le-mul_right H (let t : suc k ≤ m.banks = bank in t) in
      let one : suc k * H ≡ k * H + H = omega arith in
      let turn : H * m.banks ≡ m.banks * H = mul_comm H m.banks in
      omega (arith, high, fill, le, one, turn)

  done_leaves : (op : Op) (old new : List ℕ) → IsTrue (has_place m op) → AreBytesOf m.geometry old → new ≡ after_op op old → MayLeave op old new
  done_leaves (Program address page) old new placed are done =
      let of = program_has address page placed in
      let inside = pages_lie_inside m.geometry m.banks (bank_of_op m.geometry m.banks (Program address page)) (page_in_bank m.geometry m.banks address) 1 legal shared of.bank (let less = of.inside in omega (arith, less)) in
      let at = of.at in
      let size = of.size in
      let all = are.size in
      within_program address page old new done (omega (arith, inside, at, size, all)) (λ small. subst AreBytes (sym done) (programs_keep_bytes address page old small))
  done_leaves (Erase address n) old new placed are done =
      let k = bank_of_op m.geometry m.banks (Erase address n) in
      let of = erase_has address n placed in
      let inside = sectors_inside k (address / m.geometry.sector - k * S) of.bank of.inside in
      let all : length old ≡ size_of m.geometry = are.size in
      let fits : (op : Op) → op ≡ erase_of m.geometry m.banks k (address / m.geometry.sector - k * S) → ends_of op ≤ size_of m.geometry = (λ op is. subst (λ (o : Op). ends_of o ≤ size_of m.geometry) (sym is) inside) in
      within_erase address n old new done (let here : address + n ≤ size_of m.geometry = fits (Erase address n) of.op_is in omega (arith, here, all)) are.bytes

  -- done, failed or cut, whatever is left of one is some that a cut may leave
  pub leaves_within : (op : Op) (answer : FlashAnswer) (old new : List ℕ) → IsTrue (has_place m op) → AreBytesOf m.geometry old → Leaves op answer old new → MayLeave op old new
  leaves_within op Done old new placed are left = done_leaves op old new placed are left
  leaves_within op Failed old new placed are left = left
  leaves_within op Off old new placed are left = left
