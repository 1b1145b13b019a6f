-- Guards of bytes by their complements.
use Rattle.std.specs.Prelude.{◌++◌, bit_and}
use Rattle.std.specs.Int.Bits.{and_self}
use Rattle.std.proofs.Common.{◌≡◌, ◌<◌, ◌≤◌, ℕ, ◌-◌, suc, List, [], ◌∷◌, length, Option, Some, None, refl, sym, ap, ◌∙◌, subst, arith}
use Rattle.std.proofs.lemmas.List.{length-append, length-map}
use Rattle.std.proofs.lemmas.Nat.{and_le_r, and_comm, and_assoc, and-not}
use Rattle.fls_model.specs.Bytes.{Grown, AreBytes}
use Rattle.fee_format.specs.Guard.{complements, guarded, GuardsHold, AreAs, PairsGrow, GuardsMayGrow}

pub grown_le : (x y : ℕ) → bit_and x y ≡ x → x ≤ y
grown_le x y is = omega (arith, is, and_le_r x y)

-- THEY HOLD
-- the bytes in front, and those behind them
pub grown_parts : (xs ys rest more : List ℕ) → length xs ≡ length ys → Grown (xs ++ rest) (ys ++ more) → Grown xs ys × Grown rest more
grown_parts [] [] rest more same grown = (tt, grown)
grown_parts [] (y ∷ ys) rest more same grown = absurd (omega (arith, same))
grown_parts (x ∷ xs) [] rest more same grown = absurd (omega (arith, same))
grown_parts (x ∷ xs) (y ∷ ys) rest more same grown =
    let parts = grown_parts xs ys rest more (omega (arith, same)) grown.2 in
    ((grown.0, grown.1, parts.0), parts.1)

-- a byte beside its complement can't change
held : (x y : ℕ) → x < 256 → y < 256 → bit_and x y ≡ x → bit_and (255 - x) (255 - y) ≡ 255 - x → x ≡ y
held x y small small2 up down = omega (arith, grown_le x y up, grown_le (255 - x) (255 - y) down)

all_held : (xs ys : List ℕ) → AreBytes xs → AreBytes ys → Grown xs ys → Grown (complements xs) (complements ys) → xs ≡ ys
all_held [] [] small small2 up down = refl
all_held [] (y ∷ ys) small small2 up down = absurd up
all_held (x ∷ xs) [] small small2 up down = absurd up
all_held (x ∷ xs) (y ∷ ys) small small2 up down =
    let here = held x y (small 0) (small2 0) up.0 down.0 in
    let rest = all_held xs ys (λ k. small (suc k)) (λ k. small2 (suc k)) up.2 down.2 in
    λ i. here i ∷ rest i

guards_size : (xs ys : List ℕ) → length xs ≡ length ys → length (guarded xs) ≡ length (guarded ys)
guards_size xs ys same =
    let a = length-append xs (complements xs) in
    let b = length-append ys (complements ys) in
    let c = length-map xs (λ x. 255 - x) in
    let d = length-map ys (λ x. 255 - x) in
    omega (arith, a, b, c, d, same)

pub guards_hold : GuardsHold
guards_hold xs ys rest more small small2 same grown =
    let front = (grown_parts (guarded xs) (guarded ys) rest more (guards_size xs ys same) grown).0 in
    let parts = grown_parts xs ys (complements xs) (complements ys) same front in
    all_held xs ys small small2 parts.0 parts.1

-- WHAT MAY COME TO BE GUARDED
apart_grows : (x y : ℕ) → x < 256 → y < 256 → bit_and x y ≡ 0 → bit_and y (255 - x) ≡ y
apart_grows x y small small2 none = and_comm y (255 - x) ∙ (let e = and-not 8 x y small small2 in omega (arith, e, none))

grows_apart : (x y v : ℕ) → v < 256 → y < 256 → bit_and x v ≡ x → bit_and y (255 - v) ≡ y → bit_and x y ≡ 0
grows_apart x y v small small2 up down =
    let e = and-not 8 v y small small2 in
    let turn : bit_and (255 - v) y ≡ y = and_comm (255 - v) y ∙ down in
    let none : bit_and v y ≡ 0 = omega (arith, e, turn) in
    let all : bit_and x y ≡ bit_and x (bit_and v y) = ap (λ (n : ℕ). bit_and n y) (sym up) ∙ and_assoc y x v in
    all ∙ ap (bit_and x) none ∙ (let z : bit_and x 0 ≡ 0 = omega (arith, and_le_r x 0) in z)

abbrev MayBe : List (Option ℕ) → List ℕ → List ℕ → Type 0
MayBe os xs ys = (bs : List ℕ) × AreAs os bs × Grown xs bs × Grown ys (complements bs)

pairs_grow : (os : List (Option ℕ)) (xs ys : List ℕ) → PairsGrow os xs ys → MayBe os xs ys
pairs_grow [] [] [] grow = ([], tt, tt, tt)
pairs_grow [] [] (y ∷ ys) grow = absurd grow
pairs_grow [] (x ∷ xs) ys grow = absurd grow
pairs_grow (o ∷ os) [] ys grow = absurd grow
pairs_grow (o ∷ os) (x ∷ xs) [] grow = absurd grow
pairs_grow (None ∷ os) (x ∷ xs) (y ∷ ys) (((small, small2), none), rest) =
    let (bs, are, up, down) = pairs_grow os xs ys rest in
    (x ∷ bs, (small, are), (and_self x, λ lt. lt, up), (apart_grows x y small small2 none, λ lt. omega arith, down))
pairs_grow (Some known ∷ os) (x ∷ xs) (y ∷ ys) ((small, one, two), rest) =
    let (bs, are, up, down) = pairs_grow os xs ys rest in
    (known ∷ bs, ((refl, small), are), (one, λ lt. small, up), (two, λ lt. omega arith, down))

grown_pairs : (os : List (Option ℕ)) (xs ys bs : List ℕ) → AreAs os bs → Grown xs bs → Grown ys (complements bs) → PairsGrow os xs ys
grown_pairs [] [] [] [] are up down = tt
grown_pairs [] (x ∷ xs) ys [] are up down = absurd up
grown_pairs [] [] (y ∷ ys) [] are up down = absurd down
grown_pairs [] xs ys (b ∷ bs) are up down = absurd are
grown_pairs (o ∷ os) xs ys [] are up down = absurd are
grown_pairs (o ∷ os) [] ys (b ∷ bs) are up down = absurd up
grown_pairs (o ∷ os) (x ∷ xs) [] (b ∷ bs) are up down = absurd down
grown_pairs (None ∷ os) (x ∷ xs) (y ∷ ys) (b ∷ bs) (small, are) up down =
    let lx : x < 256 = omega (arith, grown_le x b up.0, small) in
    let ly : y < 256 = omega (arith, grown_le y (255 - b) down.0) in
    (((lx, ly), grows_apart x y b small ly up.0 down.0), grown_pairs os xs ys bs are up.2 down.2)
grown_pairs (Some known ∷ os) (x ∷ xs) (y ∷ ys) (b ∷ bs) ((is, small), are) up down = (
  (subst (λ (n : ℕ). n < 256) is small, subst (λ (n : ℕ). bit_and x n ≡ x) is up.0, subst (λ (n : ℕ). bit_and y (255 - n) ≡ y) is down.0),
  grown_pairs os xs ys bs are up.2 down.2,
)

pub guards_may_grow : GuardsMayGrow
guards_may_grow os xs ys = (λ grow. pairs_grow os xs ys grow, λ (bs, are, up, down). grown_pairs os xs ys bs are up down)
