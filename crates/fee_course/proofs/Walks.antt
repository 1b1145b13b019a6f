-- Steps along the numbers.
use Rattle.std.proofs.Common.{◌≡◌, ◌<◌, ◌+◌, ℕ, zero, suc, Bool, true, false, List, [], ◌∷◌, length, drop, get_or, Option, Some, None, option_map, refl, sym, ap, ◌∙◌, drop-cons, cond, arith}
use Rattle.std.specs.Prelude.{max}
use Rattle.std.proofs.lemmas.List.{length-set}
use Rattle.nv_base.specs.Pages.{record_pages_of}
use Rattle.nv_base.specs.declared.instance.DeviceNumber.{DeviceNumber}
use Rattle.fee_image.specs.declared.place.Place.{Place}
use Rattle.fee_image.specs.declared.place.Place.TheVariants.{Content}
use Rattle.fee_course.specs.declared.copies.Source.{Source}
use Rattle.fee_course.specs.Copies.{turns_of, is_left, later, next_copy, NoneLeft, copies_left, copies_most, greatest, as_copied, as_cleared, as_appended}

pub left_step : (p : ℕ) (ns : List (DeviceNumber × ℕ)) (ps : List Place) (cs : List Bool) (i : ℕ) (n : DeviceNumber × ℕ) (x : Place) (c : Bool)
    → i < length ns → i < length ps → i < length cs
    → copies_left p (drop i ns) (drop i ps) (drop i cs)
    ≡ turns_of p (get_or ns i n).1 (get_or ps i x) (get_or cs i c) + copies_left p (drop (suc i) ns) (drop (suc i) ps) (drop (suc i) cs)
left_step p ns ps cs i n x c a b d = rw (drop-cons ns i n, drop-cons ps i x, drop-cons cs i c) refl

pub next_step : (ns : List (DeviceNumber × ℕ)) (ps : List Place) (cs : List Bool) (i : ℕ) (n : DeviceNumber × ℕ) (x : Place) (c : Bool)
    → i < length ns → i < length ps → i < length cs
    → next_copy (drop i ns) (drop i ps) (drop i cs)
    ≡ cond (is_left (get_or ps i x) (get_or cs i c)) (Some (record { index = 0; length = (get_or ns i n).1; place = get_or ps i x }))
    (option_map (later 1) (next_copy (drop (suc i) ns) (drop (suc i) ps) (drop (suc i) cs)))
next_step ns ps cs i n x c a b d = rw (drop-cons ns i n, drop-cons ps i x, drop-cons cs i c) refl

pub later_twice : (i : ℕ) (s : Option Source) → option_map (later i) (option_map (later 1) s) ≡ option_map (later (i + 1)) s
later_twice i None = refl
later_twice i (Some s) = let e : s.index + 1 + i ≡ s.index + (i + 1) = omega arith in rw e refl

-- of one number more none is left
pub none_step : (i : ℕ) (ps : List Place) (cs : List Bool) (x : Place) (c : Bool)
    → NoneLeft i ps cs → is_left (get_or ps i x) (get_or cs i c) ≡ false → NoneLeft (suc i) ps cs
none_step i [] cs x c none last = tt
none_step i (p ∷ ps) [] x c none last = tt
none_step zero (p ∷ ps) (d ∷ cs) x c none last = (last, tt)
none_step (suc i) (p ∷ ps) (d ∷ cs) x c none last = (none.0, none_step i ps cs x c none.1 last)

later_none : (s : Option Source) → option_map (later 0) s ≡ s
later_none None = refl
later_none (Some s) = let e : s.index + 0 ≡ s.index = omega arith in rw e refl

later_once : (i : ℕ) (s : Option Source) → option_map (later 1) (option_map (later i) s) ≡ option_map (later (suc i)) s
later_once i None = refl
later_once i (Some s) = let e : s.index + i + 1 ≡ s.index + suc i = omega arith in rw e refl

-- behind numbers of which none is left the search goes on as it began
pub next_behind : (k : ℕ) (ns : List (DeviceNumber × ℕ)) (ps : List Place) (cs : List Bool) → length ps ≡ length ns → length cs ≡ length ns → NoneLeft k ps cs
    → next_copy ns ps cs ≡ option_map (later k) (next_copy (drop k ns) (drop k ps) (drop k cs))
next_behind zero ns ps cs a b none = sym (later_none (next_copy ns ps cs))
next_behind (suc k) [] ps cs a b none = refl
next_behind (suc k) (n ∷ ns) [] cs a b none = absurd (omega (arith, a))
next_behind (suc k) (n ∷ ns) (p ∷ ps) [] a b none = absurd (omega (arith, b))
next_behind (suc k) (n ∷ ns) (p ∷ ps) (c ∷ cs) a b none =
    let behind = next_behind k ns ps cs (omega (arith, a)) (omega (arith, b)) none.1 in
    let here : next_copy (n ∷ ns) (p ∷ ps) (c ∷ cs) ≡ option_map (later 1) (next_copy ns ps cs) = rw none.0 refl in
    here ∙ ap (option_map (later 1)) behind ∙ later_once k (next_copy (drop k ns) (drop k ps) (drop k cs))

pub most_step : (p : ℕ) (ns : List (DeviceNumber × ℕ)) (i : ℕ) (n : DeviceNumber × ℕ) → i < length ns
    → copies_most p (drop i ns) ≡ record_pages_of (get_or ns i n).1 p + 1 + copies_most p (drop (suc i) ns)
most_step p ns i n lt = rw (drop-cons ns i n) refl

pub greatest_step : (p : ℕ) (ns : List (DeviceNumber × ℕ)) (i : ℕ) (n : DeviceNumber × ℕ) → i < length ns
    → greatest p (drop i ns) ≡ max (record_pages_of (get_or ns i n).1 p) (greatest p (drop (suc i) ns))
greatest_step p ns i n lt = rw (drop-cons ns i n) refl

pub appended_length : (a : Option ℕ) (ps : List Place) → length (as_appended a ps) ≡ length ps
appended_length None ps = refl
appended_length (Some i) ps = length-set ps i (Content 0 0)

pub copied_length : (a : Option ℕ) (cs : List Bool) → length (as_copied a cs) ≡ length cs
copied_length None cs = refl
copied_length (Some i) cs = length-set cs i true

pub cleared_length : (a b : Option ℕ) (cs : List Bool) → length (as_cleared a (as_copied b cs)) ≡ length cs
cleared_length None b cs = copied_length b cs
cleared_length (Some i) b cs = length-set (as_copied b cs) i false ∙ copied_length b cs
