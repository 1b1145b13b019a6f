-- The copy that comes next.
use Rattle.std.specs.Prelude.{IsTrue, not}
use Rattle.std.proofs.Common.{◌≡◌, ◌≤◌, ◌<◌, ◌+◌, ◌==◌, ℕ, Bool, true, false, List, [], ◌∷◌, Option, Some, None, refl, sym, ap, ◌∙◌, subst, arith}
use Rattle.std.proofs.lemmas.Bool.{eqb-true}
use Rattle.nv_base.specs.declared.instance.DeviceNumber.{DeviceNumber}
use Rattle.nv_base.specs.Held.{Held}
use Rattle.fee_image.specs.Image.{Layout}
use Rattle.fee_image.specs.Copies.{Flag, Each}
use Rattle.fee_switch_laws.specs.fee_log.Log.{LogState}
use Rattle.fee_switch_laws.specs.fee_switch.Banks.{BanksState}
use Rattle.fee_told.specs.Slots.{settled_in}
use Rattle.fee_laws.specs.Copied.{flags_of}
use Rattle.std.specs.Prelude.{◌&&◌, map}
use Rattle.fee_image.specs.Bank.{Bank}
use Rattle.fee_image.specs.Image.{bank_in}
use Rattle.fee_image.specs.May.{held_written}
use Rattle.fee_image.specs.Copies.{is_done}
use Rattle.fee_switch_laws.specs.Flags.{IsOpenFor}
use Rattle.std.specs.Prelude.{option_map, slice_index_or}
use Rattle.std.proofs.Common.{suc}
use Rattle.nv_base.specs.Lengths.{AreLengths}
use Rattle.fee_image.specs.declared.place.Place.{Place}
use Rattle.fee_image.specs.declared.place.Place.TheVariants as place
use Rattle.fee_image.specs.Places.{held_at, is_written}
use Rattle.fee_course.specs.declared.copies.Source.{Source}
use Rattle.fee_course.specs.Copies.{is_left, next_copy, later}
use Rattle.fee_told.specs.Slots.{held_all}
use Rattle.std.specs.Prelude.{◌||◌}
use Rattle.std.proofs.lemmas.Bool.{eq-eqb}
use Rattle.fee_image.specs.Copies.{Copies}
use Rattle.fee_switch_laws.specs.fee_switch.declared.active.ActiveBank.{ActiveBank}
use Rattle.fee_switch_laws.specs.Shown.{old_shown}
use Rattle.fee_laws.specs.Inside.{IsActiveOf}
use Rattle.fee_switch_laws.specs.fee_switch.Copy.{head_at}

-- NUMBERS ABOVE ANOTHER
pub others : (low n : ℕ) (ns : List (DeviceNumber × ℕ)) (ps : List Place) (flags : List Bool) (held : List Held) (P : Flag → Type 0) → AreLengths low ns → n ≤ low → Each (λ f. IsTrue (f.number == n) → P f) (flags_of ns ps flags held)
others low n [] ps flags held P are le = tt
others low n (x ∷ xs) [] [] held P are le = tt
others low n (x ∷ xs) [] (c ∷ cs) held P are le = tt
others low n (x ∷ xs) (p ∷ ps) [] held P are le = tt
others low n (x ∷ xs) (p ∷ ps) (c ∷ cs) [] P are le = tt
others low n (x ∷ xs) (p ∷ ps) (c ∷ cs) (y ∷ ys) P are le = (
  (λ same. (let e : x.0.0 ≡ n = eqb-true x.0.0 n same in let less = are.0 in absurd (omega (arith, e, less)))),
  others x.0.0 n xs ps cs ys P are.4 (let less = are.0 in omega (arith, less)),
)

-- THE ONE THAT COMES NEXT
-- its flag is clear, it has a record, and what its place shows is settled
pub record IsOf (b : Bank) (bytes : List ℕ) (at : Place) (size : ℕ) (f : Flag) : Type 0 where
  pub clear : f.copied ≡ false
  pub length_is : f.length ≡ size
  pub written_is : f.written ≡ true
  pub settled_is : f.settled ≡ held_at b bytes size at

pub record Found (b : Bank) (bytes : List ℕ) (low : ℕ) (ns : List (DeviceNumber × ℕ)) (ps : List Place) (flags : List Bool) (source : Source) (n : DeviceNumber) : Type 0 where
  pub above : low < n.0
  pub left_to : is_left source.place false ≡ true
  pub flags_are : Each (λ f. IsTrue (f.number == n.0) → IsOf b bytes source.place source.length f) (flags_of ns ps flags (held_all b bytes ns ps))

more_by : (x y : ℕ) → x < y → (x == y) ≡ true → ⊥
more_by x y less same = (let e : x ≡ y = eqb-true x y same in omega (arith, e))

was_later : (o : Option Source) (source : Source) → option_map (later 1) o ≡ Some source → (x : Source) × (o ≡ Some x) × (later 1 x ≡ source)
was_later None source is = cc is
was_later (Some x) source is = (x, refl, cc is)

abbrev pub Named : List (DeviceNumber × ℕ) → ℕ → DeviceNumber → ℕ → Type 0
Named ns i n size = (d : DeviceNumber × ℕ) → slice_index_or ns i d ≡ (n, size)

one_on : (x : DeviceNumber × ℕ) (xs : List (DeviceNumber × ℕ)) (i : ℕ) (n : DeviceNumber) (size : ℕ) → Named (x ∷ xs) (i + 1) n size → Named xs i n size
one_on x xs i n size named d = (let same : i + 1 ≡ suc i = omega arith in subst (λ (k : ℕ). slice_index_or (x ∷ xs) k d ≡ (n, size)) same (named d))

-- a copy is to be made of a number that has a record
written_left : (p : Place) → is_left p false ≡ true → is_written p ≡ true
written_left (place.Content at count) left = refl
written_left (place.Invalid count) left = refl
written_left (place.Erased count) left = refl
written_left place.Unwritten left = cc left

module _ (b : Bank) (bytes : List ℕ) where
  this_one : (low : ℕ) (x : DeviceNumber × ℕ) (xs : List (DeviceNumber × ℕ)) (p : Place) (ps : List Place) (cs : List Bool) (source : Source) (n : DeviceNumber) → AreLengths low (x ∷ xs) → is_left p false ≡ true
      → Some (record { index = 0; length = x.1; place = p }) ≡ Some source → Named (x ∷ xs) source.index n source.length → Found b bytes low (x ∷ xs) (p ∷ ps) (false ∷ cs) source n
  this_one low x xs p ps cs source n are is some named =
      let same : record { index = 0; length = x.1; place = p } ≡ source = cc some in
      subst (λ (y : Source). Named (x ∷ xs) y.index n y.length → Found b bytes low (x ∷ xs) (p ∷ ps) (false ∷ cs) y n) same
      (λ named'. (let here : x ≡ (n, x.1) = named' x in
      let number : x.0 ≡ n = ap (λ (y : DeviceNumber × ℕ). y.0) here in
      let at : x.0.0 ≡ n.0 = ap (λ (y : DeviceNumber). y.0) number in
      record {
        above = (let less = are.0 in omega (arith, at, less));
        left_to = is;
        flags_are = ((λ e. record { clear = refl; length_is = refl; written_is = written_left p is; settled_is = refl }), others x.0.0 n.0 xs ps cs (held_all b bytes xs ps) (IsOf b bytes p x.1) are.4 (omega (arith, at)));
      }))
      named

  later_one : (low : ℕ) (x : DeviceNumber × ℕ) (xs : List (DeviceNumber × ℕ)) (p : Place) (ps : List Place) (c : Bool) (cs : List Bool) (source : Source) (n : DeviceNumber) → AreLengths low (x ∷ xs)
      → option_map (later 1) (next_copy xs ps cs) ≡ Some source → Named (x ∷ xs) source.index n source.length
      → ((y : Source) → next_copy xs ps cs ≡ Some y → Named xs y.index n y.length → Found b bytes x.0.0 xs ps cs y n) → Found b bytes low (x ∷ xs) (p ∷ ps) (c ∷ cs) source n
  later_one low x xs p ps c cs source n are some named rest =
      let was = was_later (next_copy xs ps cs) source some in
      let y = was.0 in
      subst (λ (z : Source). Named (x ∷ xs) z.index n z.length → Found b bytes low (x ∷ xs) (p ∷ ps) (c ∷ cs) z n) was.2
      (λ named'. (let found = rest y was.1 (one_on x xs y.index n y.length named') in
      record {
        above = (let less = are.0 in let more = found.above in omega (arith, less, more));
        left_to = found.left_to;
        flags_are = ((λ e. (let more = found.above in absurd (more_by x.0.0 n.0 more e))), found.flags_are);
      }))
      named

  pub next_found : (low : ℕ) (ns : List (DeviceNumber × ℕ)) (ps : List Place) (flags : List Bool) (source : Source) (n : DeviceNumber) → AreLengths low ns → next_copy ns ps flags ≡ Some source → Named ns source.index n source.length → Found b bytes low ns ps flags source n
  next_found low [] ps flags source n are some named = cc some
  next_found low (x ∷ xs) [] flags source n are some named = cc some
  next_found low (x ∷ xs) (p ∷ ps) [] source n are some named = cc some
  next_found low (x ∷ xs) (place.Content at count ∷ ps) (false ∷ cs) source n are some named = this_one low x xs (place.Content at count) ps cs source n are refl some named
  next_found low (x ∷ xs) (place.Invalid count ∷ ps) (false ∷ cs) source n are some named = this_one low x xs (place.Invalid count) ps cs source n are refl some named
  next_found low (x ∷ xs) (place.Erased count ∷ ps) (false ∷ cs) source n are some named = this_one low x xs (place.Erased count) ps cs source n are refl some named
  next_found low (x ∷ xs) (place.Unwritten ∷ ps) (false ∷ cs) source n are some named = later_one low x xs place.Unwritten ps false cs source n are some named (λ y is named'. next_found x.0.0 xs ps cs y n are.4 is named')
  next_found low (x ∷ xs) (place.Content at count ∷ ps) (true ∷ cs) source n are some named = later_one low x xs (place.Content at count) ps true cs source n are some named (λ y is named'. next_found x.0.0 xs ps cs y n are.4 is named')
  next_found low (x ∷ xs) (place.Invalid count ∷ ps) (true ∷ cs) source n are some named = later_one low x xs (place.Invalid count) ps true cs source n are some named (λ y is named'. next_found x.0.0 xs ps cs y n are.4 is named')
  next_found low (x ∷ xs) (place.Erased count ∷ ps) (true ∷ cs) source n are some named = later_one low x xs (place.Erased count) ps true cs source n are some named (λ y is named'. next_found x.0.0 xs ps cs y n are.4 is named')
  next_found low (x ∷ xs) (place.Unwritten ∷ ps) (true ∷ cs) source n are some named = later_one low x xs place.Unwritten ps true cs source n are some named (λ y is named'. next_found x.0.0 xs ps cs y n are.4 is named')

-- none comes where no bank is active
none_erased : (ns all : List (DeviceNumber × ℕ)) (flags : List Bool) → next_copy ns (map {A = DeviceNumber × ℕ} (λ n. place.Unwritten) all) flags ≡ None
none_erased [] all flags = refl
none_erased (n ∷ ns) [] flags = refl
none_erased (n ∷ ns) (a ∷ all) [] = refl
none_erased (n ∷ ns) (a ∷ all) (true ∷ flags) = ap (option_map (later 1)) (none_erased ns all flags)
none_erased (n ∷ ns) (a ∷ all) (false ∷ flags) = ap (option_map (later 1)) (none_erased ns all flags)

-- its number is open, and its record copies it
not_done : (b : Bank) (bytes : List ℕ) (at : Place) (size : ℕ) (f : Flag) → IsOf b bytes at size f → is_done f ≡ false
not_done b bytes at size f is = (λ i. is.clear i || not (is.written_is i))

each_flag : (P Q : Flag → Type 0) → ((f : Flag) → P f → Q f) → (fs : List Flag) → Each P fs → Each Q fs
each_flag P Q all [] has = tt
each_flag P Q all (f ∷ fs) has = (all f has.0, each_flag P Q all fs has.1)

pub found_open : (b : Bank) (bytes : List ℕ) (at : Place) (size n : ℕ) (fs : List Flag) → Each (λ f. IsTrue (f.number == n) → IsOf b bytes at size f) fs → IsOpenFor n fs
found_open b bytes at size n fs are = each_flag (λ f. IsTrue (f.number == n) → IsOf b bytes at size f) (λ f. IsTrue (f.number == n) → is_done f ≡ false) (λ f is same. not_done b bytes at size f (is same)) fs are

copies_one : (b : Bank) (bytes body : List ℕ) (at : Place) (size : ℕ) (n : DeviceNumber) (f : Flag) → is_left at false ≡ true → held_written (head_at at n size) body ≡ held_at b bytes size at → (IsTrue (f.number == n.0) → IsOf b bytes at size f) → Copies (head_at at n size) body f
copies_one b bytes body (place.Content q count) size n f left writes is same =
    let one = is same in
    let a : (n.0 == f.number) ≡ true = eq-eqb n.0 f.number (sym (eqb-true f.number n.0 same)) in
    let c : (size == f.length) ≡ true = eq-eqb size f.length (sym one.length_is) in
    ((λ i. a i && c i), one.written_is, one.settled_is ∙ sym writes)
copies_one b bytes body (place.Invalid count) size n f left writes is same =
    let one = is same in
    let a : (n.0 == f.number) ≡ true = eq-eqb n.0 f.number (sym (eqb-true f.number n.0 same)) in
    ((λ i. a i && true), one.written_is, one.settled_is ∙ sym writes)
copies_one b bytes body (place.Erased count) size n f left writes is same =
    let one = is same in
    let a : (n.0 == f.number) ≡ true = eq-eqb n.0 f.number (sym (eqb-true f.number n.0 same)) in
    ((λ i. a i && true), one.written_is, one.settled_is ∙ sym writes)
copies_one b bytes body place.Unwritten size n f left writes is same = cc left

pub found_copies : (b : Bank) (bytes body : List ℕ) (at : Place) (size : ℕ) (n : DeviceNumber) (fs : List Flag) → is_left at false ≡ true → held_written (head_at at n size) body ≡ held_at b bytes size at → Each (λ f. IsTrue (f.number == n.0) → IsOf b bytes at size f) fs
    → Each (Copies (head_at at n size) body) fs
found_copies b bytes body at size n fs left writes are = each_flag (λ f. IsTrue (f.number == n.0) → IsOf b bytes at size f) (Copies (head_at at n size) body) (λ f is. copies_one b bytes body at size n f left writes is) fs are

-- OF A LOG
-- where a bank is active
pub record FoundIn (l : Layout) (bytes : List ℕ) (a : Option ActiveBank) (log : LogState) (body : List ℕ) (source : Source) (n : DeviceNumber) : Type 0 where
  pub active : ActiveBank
  pub is : a ≡ Some active
  pub left_in : is_left source.place false ≡ true
  pub flags_in : Each (λ f. IsTrue (f.number == n.0) → IsOf (bank_in l active.head.format active.bank) bytes source.place source.length f) (flags_of log.numbers log.places log.flags (settled_in l log.numbers bytes (old_shown a log body)))

pub found_in : (l : Layout) (bytes : List ℕ) (s : BanksState) (a : Option ActiveBank) (body : List ℕ) (source : Source) (n : DeviceNumber) → AreLengths 0 s.log.numbers → IsActiveOf s a → next_copy s.log.numbers s.log.places s.log.flags ≡ Some source
    → Named s.log.numbers source.index n source.length → FoundIn l bytes a s.log body source n
found_in l bytes s None body source n are active some named =
    let places = ap (λ (x : LogState). x.places) active in
    let none : next_copy s.log.numbers s.log.places s.log.flags ≡ None = ap (λ (ps : List Place). next_copy s.log.numbers ps s.log.flags) places ∙ none_erased s.log.numbers s.log.numbers s.log.flags in
    cc (some, none)
found_in l bytes s (Some a) body source n are active some named =
    let found = next_found (bank_in l a.head.format a.bank) bytes 0 s.log.numbers s.log.places s.log.flags source n are some named in
    record { active = a; is = refl; left_in = found.left_to; flags_in = found.flags_are }
