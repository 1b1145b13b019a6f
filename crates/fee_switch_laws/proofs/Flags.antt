-- The flags of the numbers, as the log's flags and places change.
use Rattle.std.proofs.Common.{◌≡◌, ◌∙◌, ℕ, Bool, true, false, IsTrue, List, [], ◌∷◌, cond, eqb, sym, ap, refl}
use Rattle.std.proofs.lemmas.Bool.{eqb-false, ne_eqb}
use Rattle.nv_base.specs.declared.instance.DeviceNumber.{DeviceNumber}
use Rattle.nv_base.specs.Held.{Held}
use Rattle.fee_format.specs.declared.rec_head.RecHead.{RecHead}
use Rattle.fee_format.specs.declared.rec_head.RecordKind.{RecordKind}
use Rattle.fee_format.specs.declared.rec_head.RecordKind.TheVariants as kind
use Rattle.fee_image.specs.Found.{fits}
use Rattle.fee_image.specs.declared.place.Place.{Place}
use Rattle.fee_image.specs.Places.{is_written, place_of_kind, place_at, noted}
use Rattle.fee_image.specs.Copies.{Flag, Each, at_number, settled_at}
use Rattle.fee_log.specs.Index.{with_flag, clear_flags}
use Rattle.fee_switch_laws.specs.Flags.{AreFlagsOf, all_clear}

-- one flag, set or cleared where its number is the one
one_with : (n : DeviceNumber × ℕ) (x : Place) (c on : Bool) (f : Flag) (a b : Bool) → a ≡ b
    → f.number ≡ n.0.0 → f.length ≡ n.1 → f.copied ≡ c → f.written ≡ is_written x
    → let g = cond a (record f { copied = on }) f in (g.number ≡ n.0.0) × (g.length ≡ n.1) × (g.copied ≡ cond b on c) × (g.written ≡ is_written x)
one_with n x c on f true true same i j k l = (i, j, refl, l)
one_with n x c on f false false same i j k l = (i, j, k, l)
one_with n x c on f true false same i j k l = cc
one_with n x c on f false true same i j k l = cc

pub are_with : (ns : List (DeviceNumber × ℕ)) (ps : List Place) (cs : List Bool) (fs : List Flag) (number : ℕ) (on : Bool) → AreFlagsOf ns ps cs fs
    → AreFlagsOf ns ps (with_flag ns cs number on) (at_number number (λ f. record f { copied = on }) fs)
are_with [] [] [] [] number on are = tt
are_with [] [] [] (f ∷ fs) number on are = absurd are
are_with [] [] (c ∷ cs) fs number on are = absurd are
are_with [] (x ∷ ps) cs fs number on are = absurd are
are_with (n ∷ ns) [] cs fs number on are = absurd are
are_with (n ∷ ns) (x ∷ ps) [] fs number on are = absurd are
are_with (n ∷ ns) (x ∷ ps) (c ∷ cs) [] number on are = absurd are
are_with (n ∷ ns) (x ∷ ps) (c ∷ cs) (f ∷ fs) number on are =
    let h = one_with n x c on f (eqb f.number number) (eqb n.0.0 number) (ap (λ (m : ℕ). eqb m number) are.0) are.0 are.1 are.2 are.3 in
    (h.0, h.1, h.2, h.3, are_with ns ps cs fs number on are.4)

pub are_clear : (ns : List (DeviceNumber × ℕ)) (ps : List Place) (cs : List Bool) (fs : List Flag) → AreFlagsOf ns ps cs fs → AreFlagsOf ns ps (clear_flags ns) (all_clear fs)
are_clear [] [] [] [] are = tt
are_clear [] [] [] (f ∷ fs) are = absurd are
are_clear [] [] (c ∷ cs) fs are = absurd are
are_clear [] (x ∷ ps) cs fs are = absurd are
are_clear (n ∷ ns) [] cs fs are = absurd are
are_clear (n ∷ ns) (x ∷ ps) [] fs are = absurd are
are_clear (n ∷ ns) (x ∷ ps) (c ∷ cs) [] are = absurd are
are_clear (n ∷ ns) (x ∷ ps) (c ∷ cs) (f ∷ fs) are = (are.0, are.1, refl, are.3, are_clear ns ps cs fs are.4)

-- A RECORD IS COMMITTED
-- a record is one of a flag where it has its number
fit_is : (f : Flag) (h : RecHead) (b : Bool) → eqb f.number h.number.0 ≡ b → (IsTrue (eqb f.number h.number.0) → IsTrue (fits f.number f.length h)) → b ≡ fits f.number f.length h
fit_is f h true e fit = sym (fit e)
fit_is f h false e fit = sym (rw (ne_eqb h.number.0 f.number (λ same. eqb-false f.number h.number.0 e (sym same))) refl)

one_settled : (n : DeviceNumber × ℕ) (x y : Place) (c : Bool) (f : Flag) (m : Held) (a b : Bool) → a ≡ b → true ≡ is_written y
    → f.number ≡ n.0.0 → f.length ≡ n.1 → f.copied ≡ c → f.written ≡ is_written x
    → let g = cond a (record f { written = true; settled = m }) f in (g.number ≡ n.0.0) × (g.length ≡ n.1) × (g.copied ≡ c) × (g.written ≡ is_written (cond b y x))
one_settled n x y c f m true true same new i j k l = (i, j, k, new)
one_settled n x y c f m false false same new i j k l = (i, j, k, l)
one_settled n x y c f m true false same new i j k l = cc
one_settled n x y c f m false true same new i j k l = cc

pub are_settled : (ns : List (DeviceNumber × ℕ)) (ps : List Place) (cs : List Bool) (fs : List Flag) (at : ℕ) (h : RecHead) (m : Held) → true ≡ is_written (place_at at h)
    → Each (λ f. IsTrue (eqb f.number h.number.0) → IsTrue (fits f.number f.length h)) fs → AreFlagsOf ns ps cs fs → AreFlagsOf ns (noted ns ps at h) cs (settled_at h.number.0 m fs)
are_settled [] [] [] [] at h m new fit are = tt
are_settled [] [] [] (f ∷ fs) at h m new fit are = absurd are
are_settled [] [] (c ∷ cs) fs at h m new fit are = absurd are
are_settled [] (x ∷ ps) cs fs at h m new fit are = absurd are
are_settled (n ∷ ns) [] cs fs at h m new fit are = absurd are
are_settled (n ∷ ns) (x ∷ ps) [] fs at h m new fit are = absurd are
are_settled (n ∷ ns) (x ∷ ps) (c ∷ cs) [] at h m new fit are = absurd are
are_settled (n ∷ ns) (x ∷ ps) (c ∷ cs) (f ∷ fs) at h m new fit are =
    let one : fits f.number f.length h ≡ fits n.0.0 n.1 h = λ i. fits (are.0 i) (are.1 i) h in
    let g = one_settled n x (place_at at h) c f m (eqb f.number h.number.0) (fits n.0.0 n.1 h) (fit_is f h (eqb f.number h.number.0) refl fit.0 ∙ one) new are.0 are.1 are.2 are.3 in
    (g.0, g.1, g.2, g.3, are_settled ns ps cs fs at h m new fit.1 are.4)

-- there is one then
kind_is : (k : RecordKind) (at count : ℕ) → true ≡ is_written (place_of_kind k at count)
kind_is kind.Content at count = refl
kind_is kind.Invalid at count = refl
kind_is kind.Erased at count = refl

pub is_placed : (h : RecHead) (at : ℕ) → true ≡ is_written (place_at at h)
is_placed h at = kind_is h.kind at h.count
