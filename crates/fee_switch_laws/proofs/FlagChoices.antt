-- What the choice of the next copy says of the flags.
use Rattle.std.proofs.Common.{◌≡◌, ◌<◌, ◌≤◌, ◌+◌, ℕ, suc, Bool, true, false, IsTrue, not, ◌||◌, List, [], ◌∷◌, Option, Some, None, option_map, cond, eqb, sym, ap, ◌∙◌, refl, arith}
use Rattle.std.specs.Prelude.{slice_get}
use Rattle.std.proofs.lemmas.Bool.{eqb-true}
use Rattle.nv_base.specs.declared.instance.DeviceNumber.{DeviceNumber}
use Rattle.nv_base.specs.Lengths.{AreLengths}
use Rattle.fee_image.specs.declared.place.Place.{Place}
use Rattle.fee_image.specs.declared.place.Place.TheVariants.{Content, Invalid, Erased, Unwritten}
use Rattle.fee_image.specs.Places.{is_written}
use Rattle.fee_image.specs.Copies.{Flag, is_done, Each}
use Rattle.fee_course.specs.declared.copies.Source.{Source}
use Rattle.fee_course.specs.Copies.{is_left, later, next_copy}
use Rattle.fee_switch_laws.specs.Flags.{AreFlagsOf, IsOpenFor}
use Rattle.fee_switch_laws.specs.FlagLaws.{NextIsOpen, SealsMayBegin}
use Rattle.fee_image.proofs.Copies.{done_is_whole}

pub none_is_some : {A : Type 0} (x : A) → None ≡ Some x → ⊥
none_is_some x e = cc

some_is_none : {A : Type 0} (x : A) → Some x ≡ None → ⊥
some_is_none x e = cc

unsome : (a b : Source) → Some a ≡ Some b → a ≡ b
unsome a b e = cc

-- a copy is left exactly where a flag isn't done
left_is_open : (x : Place) (c d e : Bool) → d ≡ c → e ≡ is_written x → (d || not e) ≡ not (is_left x c)
left_is_open x true d e a b = rw a refl
left_is_open (Content at count) false d e a b = rw (a, b) refl
left_is_open (Invalid count) false d e a b = rw (a, b) refl
left_is_open (Erased count) false d e a b = rw (a, b) refl
left_is_open Unwritten false d e a b = rw (a, b) refl

-- numbers behind a greater one aren't this one
behind_is_other : (low number : ℕ) (ns : List (DeviceNumber × ℕ)) (ps : List Place) (cs : List Bool) (fs : List Flag) → AreLengths low ns → AreFlagsOf ns ps cs fs → number ≤ low → IsOpenFor number fs
behind_is_other low number [] [] [] [] order are le = tt
behind_is_other low number [] [] [] (f ∷ fs) order are le = absurd are
behind_is_other low number [] [] (c ∷ cs) fs order are le = absurd are
behind_is_other low number [] (x ∷ ps) cs fs order are le = absurd are
behind_is_other low number (n ∷ ns) [] cs fs order are le = absurd are
behind_is_other low number (n ∷ ns) (x ∷ ps) [] fs order are le = absurd are
behind_is_other low number (n ∷ ns) (x ∷ ps) (c ∷ cs) [] order are le = absurd are
behind_is_other low number (n ∷ ns) (x ∷ ps) (c ∷ cs) (f ∷ fs) order are le =
    ((λ same. absurd (differ same)), behind_is_other n.0.0 number ns ps cs fs order.4 are.4 (let lt = order.0 in omega arith))
  where
    differ : eqb f.number number ≡ true → ⊥
    differ same = let e = eqb-true f.number number same in let a = are.0 in let lt = order.0 in omega arith

open_by : (low : ℕ) (ns : List (DeviceNumber × ℕ)) (ps : List Place) (cs : List Bool) (fs : List Flag) (s : Source) (n : DeviceNumber × ℕ)
    → AreLengths low ns → AreFlagsOf ns ps cs fs → next_copy ns ps cs ≡ Some s → slice_get ns s.index ≡ Some n → IsOpenFor n.0.0 fs × (low < n.0.0)
open_by low [] ps cs fs s n order are next is = absurd (none_is_some s next)
open_by low (m ∷ ns) [] cs fs s n order are next is = absurd (none_is_some s next)
open_by low (m ∷ ns) (x ∷ ps) [] fs s n order are next is = absurd (none_is_some s next)
open_by low (m ∷ ns) (x ∷ ps) (c ∷ cs) [] s n order are next is = absurd are
open_by low (m ∷ ns) (x ∷ ps) (c ∷ cs) (f ∷ fs) s n order are next is = split (λ (t : Source) (e : next_copy ns ps cs ≡ Some t) (i : slice_get ns t.index ≡ Some n). open_by m.0.0 ns ps cs fs t n order.4 are.4 e i) (is_left x c) refl next
  where
    at_head : is_left x c ≡ true → s.index ≡ 0 → IsOpenFor n.0.0 (f ∷ fs) × (low < n.0.0)
    at_head left zero_is =
        let same : Some m ≡ Some n = rw zero_is at is in
        let number : m.0.0 ≡ n.0.0 = ap (λ (o : Option (DeviceNumber × ℕ)). number_of o) same in
        let done : is_done f ≡ false = left_is_open x c f.copied f.written are.2 are.3 ∙ ap not left in
        (((λ _. done), behind_is_other m.0.0 n.0.0 ns ps cs fs order.4 are.4 (omega arith)), let lt = order.0 in omega arith)
      where
        number_of : Option (DeviceNumber × ℕ) → ℕ
        number_of None = 0
        number_of (Some y) = y.0.0

    later_on : ((t : Source) → next_copy ns ps cs ≡ Some t → slice_get ns t.index ≡ Some n → IsOpenFor n.0.0 fs × (m.0.0 < n.0.0)) → (o : Option Source) → next_copy ns ps cs ≡ o → option_map (later 1) o ≡ Some s → IsOpenFor n.0.0 (f ∷ fs) × (low < n.0.0)
    later_on behind None e next' = absurd (none_is_some s next')
    later_on behind (Some t) e next' =
        let moved : later 1 t ≡ s = cc in
        let index : t.index + 1 ≡ s.index = ap (λ (y : Source). y.index) moved in
        let up : s.index ≡ suc t.index = omega arith in
        let is' : slice_get ns t.index ≡ Some n = rw up at is in
        let h = behind t e is' in
        let lt = h.1 in
        (((λ same. absurd (differ lt same)), h.0), let a = order.0 in omega arith)
      where
        differ : m.0.0 < n.0.0 → eqb f.number n.0.0 ≡ true → ⊥
        differ lt same = let e = eqb-true f.number n.0.0 same in let a = are.0 in omega arith

    split : ((t : Source) → next_copy ns ps cs ≡ Some t → slice_get ns t.index ≡ Some n → IsOpenFor n.0.0 fs × (m.0.0 < n.0.0)) → (b : Bool) → is_left x c ≡ b → cond b (Some (record { index = 0; length = m.1; place = x })) (option_map (later 1) (next_copy ns ps cs)) ≡ Some s → IsOpenFor n.0.0 (f ∷ fs) × (low < n.0.0)
    split behind true left e = at_head left (ap (λ (y : Source). y.index) (sym (unsome _ _ e)))
    split behind false left e = later_on behind (next_copy ns ps cs) refl e

pub next_is_open : NextIsOpen
next_is_open ns ps cs fs s n order are next is = (open_by 0 ns ps cs fs s n order are next is).0

-- where none is left each is done
pub each_is_done : (ns : List (DeviceNumber × ℕ)) (ps : List Place) (cs : List Bool) (fs : List Flag) → AreFlagsOf ns ps cs fs → next_copy ns ps cs ≡ None → Each (λ f. IsTrue (is_done f)) fs
each_is_done [] [] [] [] are none = tt
each_is_done [] [] [] (f ∷ fs) are none = absurd are
each_is_done [] [] (c ∷ cs) fs are none = absurd are
each_is_done [] (x ∷ ps) cs fs are none = absurd are
each_is_done (n ∷ ns) [] cs fs are none = absurd are
each_is_done (n ∷ ns) (x ∷ ps) [] fs are none = absurd are
each_is_done (n ∷ ns) (x ∷ ps) (c ∷ cs) [] are none = absurd are
each_is_done (n ∷ ns) (x ∷ ps) (c ∷ cs) (f ∷ fs) are none = split (λ e. each_is_done ns ps cs fs are.4 e) (is_left x c) refl none
  where
    rest : (o : Option Source) → option_map (later 1) o ≡ None → o ≡ None
    rest None e = refl
    rest (Some s) e = absurd (some_is_none (later 1 s) e)

    split : (next_copy ns ps cs ≡ None → Each (λ g. IsTrue (is_done g)) fs) → (b : Bool) → is_left x c ≡ b → cond b (Some (record { index = 0; length = n.1; place = x })) (option_map (later 1) (next_copy ns ps cs)) ≡ None → Each (λ g. IsTrue (is_done g)) (f ∷ fs)
    split behind true left e = absurd (some_is_none (record { index = 0; length = n.1; place = x }) e)
    split behind false left e =
        (left_is_open x c f.copied f.written are.2 are.3 ∙ ap not left, behind (rest (next_copy ns ps cs) e))

pub seals_may_begin : SealsMayBegin
seals_may_begin ns places copied fs doubts are none = done_is_whole fs doubts (each_is_done ns places copied fs are none)
