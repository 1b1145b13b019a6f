-- A target that each number is copied to.
use Rattle.std.specs.Prelude.{Contains, ◌&&◌, ◌||◌, map, length, option_map, if◌then◌else◌}
use Rattle.std.proofs.Common.{◌≡◌, ◌==◌, ℕ, zero, suc, Bool, true, false, List, [], ◌∷◌, Option, Some, None, refl, sym, ap, ◌∙◌, arith}
use Rattle.std.proofs.lemmas.Bool.{cond_both, eq-eqb}
use Rattle.nv_base.specs.declared.instance.DeviceNumber.{DeviceNumber}
use Rattle.nv_base.specs.Held.{Held, never_written}
use Rattle.memif.specs.Told.{at_number, length_of}
use Rattle.fee_image.specs.Bank.{Bank}
use Rattle.fee_image.specs.Image.{Layout, bank_in}
use Rattle.fee_image.specs.declared.place.Place.{Place}
use Rattle.fee_image.specs.declared.place.Place.TheVariants as place
use Rattle.fee_image.specs.May.{IsAmong}
use Rattle.fee_image.specs.Copies.{Flag, Each, is_done, copied_of, shown_by}
use Rattle.fee_image.specs.Places.{held_at, is_written}
use Rattle.fee_switch_laws.specs.fee_log.Log.{LogState, IsLogState}
use Rattle.fee_switch_laws.proofs.Within.{within_length}
use Rattle.fee_course.specs.declared.copies.Source.{Source}
use Rattle.fee_course.specs.Copies.{next_copy, later}
use Rattle.fee_switch_laws.specs.Shown.{old_shown}
use Rattle.fee_switch_laws.specs.fee_switch.declared.active.ActiveBank.{ActiveBank}
use Rattle.fee_told.specs.Slots.{held_all, settled_in, AreCopied}
use Rattle.fee_laws.specs.Copied.{flags_of}

-- A COPY OF EACH IS DONE
none_later : (o : Option Source) → option_map (later 1) o ≡ None → o ≡ None
none_later None none = refl
none_later (Some x) none = cc none

abbrev AllDone : List (DeviceNumber × ℕ) → List Place → List Bool → List Held → Type 0
AllDone ns ps flags held = Each (λ f. is_done f ≡ true) (flags_of ns ps flags held)

or_true : (copied : Bool) → copied || true ≡ true
or_true true = refl
or_true false = refl

pub all_done : (ns : List (DeviceNumber × ℕ)) (ps : List Place) (flags : List Bool) (held : List Held) → next_copy ns ps flags ≡ None → AllDone ns ps flags held
all_done [] ps flags held none = tt
all_done (n ∷ ns) [] [] held none = tt
all_done (n ∷ ns) [] (x ∷ flags) held none = tt
all_done (n ∷ ns) (p ∷ ps) [] held none = tt
all_done (n ∷ ns) (p ∷ ps) (x ∷ flags) [] none = tt
all_done (n ∷ ns) (p ∷ ps) (true ∷ flags) (h ∷ held) none = (refl, all_done ns ps flags held (none_later (next_copy ns ps flags) none))
all_done (n ∷ ns) (place.Content at count ∷ ps) (false ∷ flags) (h ∷ held) none = cc none
all_done (n ∷ ns) (place.Invalid count ∷ ps) (false ∷ flags) (h ∷ held) none = cc none
all_done (n ∷ ns) (place.Erased count ∷ ps) (false ∷ flags) (h ∷ held) none = cc none
all_done (n ∷ ns) (place.Unwritten ∷ ps) (false ∷ flags) (h ∷ held) none = (refl, all_done ns ps flags held (none_later (next_copy ns ps flags) none))

-- a number without a record was never written
abbrev AreBlank : List Place → List Held → Type 0
AreBlank (p ∷ ps) (h ∷ held) = ((if is_written p then h else never_written) ≡ h) × AreBlank ps held
AreBlank ps held = Unit {0}

shown_blank : (b : Bank) (bytes : List ℕ) (length : ℕ) (p : Place) → (if is_written p then held_at b bytes length p else never_written) ≡ held_at b bytes length p
shown_blank b bytes length (place.Content at count) = refl
shown_blank b bytes length (place.Invalid count) = refl
shown_blank b bytes length (place.Erased count) = refl
shown_blank b bytes length place.Unwritten = refl

all_blank : (b : Bank) (bytes : List ℕ) (ns : List (DeviceNumber × ℕ)) (ps : List Place) → AreBlank ps (held_all b bytes ns ps)
all_blank b bytes [] [] = tt
all_blank b bytes [] (p ∷ ps) = tt
all_blank b bytes (n ∷ ns) [] = tt
all_blank b bytes (n ∷ ns) (p ∷ ps) = (shown_blank b bytes n.1 p, all_blank b bytes ns ps)

none_blank : (all : List (DeviceNumber × ℕ)) (ps : List Place) → AreBlank ps (map {A = DeviceNumber × ℕ} (λ n. never_written) all)
none_blank [] [] = tt
none_blank [] (p ∷ ps) = tt
none_blank (a ∷ all) [] = tt
none_blank (a ∷ all) (p ∷ ps) = (cond_both (is_written p) never_written never_written (λ (h : Held). h ≡ never_written) (λ e. refl) (λ e. refl), none_blank all ps)

-- NOTHING BUT WHAT IS SETTLED
pub only_one : (m n : Held) → Contains (n ∷ []) m → m ≡ n
only_one m n (zero, lt, e) = sym e
only_one m n (suc j, lt, e) = absurd (omega arith)

by_test : (b c d : Bool) (l size : ℕ) (rest : Option ℕ) (more : Option (List Held)) (x y m : Held) → (l ≡ size → c ≡ true) → d ≡ true → (if b then Some l else rest) ≡ Some size
    → (rest ≡ Some size → IsAmong more m → m ≡ y) → IsAmong (if b && c then (if d then Some (x ∷ []) else None) else more) m → m ≡ (if b then x else y)
by_test false c d l size rest more x y m same done is later' among = later' is among
by_test true true true l size rest more x y m same done is later' among = only_one m x among
by_test true true false l size rest more x y m same done is later' among = cc done
by_test true false d l size rest more x y m same done is later' among = (let z : l ≡ size = cc is in let w : false ≡ true = same z in cc w)

same_test : (a b : ℕ) → a ≡ b → (a == b) ≡ true
same_test a b e = eq-eqb a b e

pub settled_alone : (ns : List (DeviceNumber × ℕ)) (ps : List Place) (flags : List Bool) (held : List Held) (n size : ℕ) (m : Held) → length ps ≡ length ns → length flags ≡ length ns → length held ≡ length ns → AllDone ns ps flags held → AreBlank ps held
    → length_of ns n ≡ Some size → IsAmong (copied_of (flags_of ns ps flags held) n size) m → m ≡ at_number never_written ns held n
settled_alone [] ps flags held n size m p a b done blank is among = cc is
settled_alone (x ∷ xs) [] flags held n size m p a b done blank is among = absurd (omega (arith, p))
settled_alone (x ∷ xs) (q ∷ ps) [] held n size m p a b done blank is among = absurd (omega (arith, a))
settled_alone (x ∷ xs) (q ∷ ps) (c ∷ cs) [] n size m p a b done blank is among = absurd (omega (arith, b))
settled_alone (x ∷ xs) (q ∷ ps) (c ∷ cs) (y ∷ ys) n size m p a b done blank is among =
    let f : Flag = record { number = x.0.0; length = x.1; copied = c; written = is_written q; settled = y } in
    by_test (x.0.0 == n) (x.1 == size) (is_done f) x.1 size (length_of xs n) (copied_of (flags_of xs ps cs ys) n size) (shown_by f) (at_number never_written xs ys n) m
    (same_test x.1 size) done.0 is (settled_alone xs ps cs ys n size m (omega (arith, p)) (omega (arith, a)) (omega (arith, b)) done.1 blank.1) among
    ∙ ap (λ (h : Held). if x.0.0 == n then h else at_number never_written xs ys n) blank.0

-- OF A LOG
held_many : (b : Bank) (bytes : List ℕ) (ns : List (DeviceNumber × ℕ)) (ps : List Place) → length ps ≡ length ns → length (held_all b bytes ns ps) ≡ length ns
held_many b bytes [] ps many = refl
held_many b bytes (n ∷ ns) [] many = absurd (omega (arith, many))
held_many b bytes (n ∷ ns) (x ∷ ps) many = ap suc (held_many b bytes ns ps (omega (arith, many)))

none_many : (ns : List (DeviceNumber × ℕ)) → length (map {A = DeviceNumber × ℕ} (λ n. never_written) ns) ≡ length ns
none_many [] = refl
none_many (n ∷ ns) = ap suc (none_many ns)

pub are_copied : (l : Layout) (bytes : List ℕ) (a : Option ActiveBank) (log : LogState) (body : List ℕ) → IsLogState log → next_copy log.numbers log.places log.flags ≡ None
    → AreCopied l log.numbers bytes (old_shown a log body) (copied_of (flags_of log.numbers log.places log.flags (settled_in l log.numbers bytes (old_shown a log body))))
are_copied l bytes None log body is none n size m at among =
    let held = map {A = DeviceNumber × ℕ} (λ n. never_written) log.numbers in
    settled_alone log.numbers log.places log.flags held n size m (within_length log.geometry.page log.end log.numbers log.places is.places) is.flags (none_many log.numbers)
    (all_done log.numbers log.places log.flags held none) (none_blank log.numbers log.places) at among
are_copied l bytes (Some a) log body is none n size m at among =
    let b = bank_in l a.head.format a.bank in
    let held = held_all b bytes log.numbers log.places in
    let many = within_length log.geometry.page log.end log.numbers log.places is.places in
    settled_alone log.numbers log.places log.flags held n size m many is.flags (held_many b bytes log.numbers log.places many)
    (all_done log.numbers log.places log.flags held none) (all_blank b bytes log.numbers log.places) at among
