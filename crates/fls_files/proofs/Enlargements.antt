-- an image that is brought to its size, or to the disk
use Rattle.std.proofs.Common.{◌≡◌, ◌⊎◌, ◌≢◌, ℕ, zero, suc, ◌+◌, ◌*◌, Bool, true, false, List, [], ◌∷◌, ◌++◌, length, take, drop, replicate, Option, Some, None, IfSome, refl, ap, sym, ◌∙◌, subst, inl, inr, arith, append-nil, true≢false, lit<}
use Rattle.std.proofs.lemmas.Nat.{mul-le}
use Rattle.nv_base.specs.Geometry.{size_of, IsLegal}
use Rattle.nv_base.specs.declared.geometry.Geometry.{Geometry}
use Rattle.std.proofs.lemmas.List.{length-replicate, take_all, drop_all, nil_from_length}
use Rattle.fls_model.specs.Attach.{enlarged, HasSize, AreBytesOf}
use Rattle.fls_model.specs.Bytes.{spliced, AreBytes}
use Rattle.fls_model.specs.Told.{IfBothTold}
use Rattle.fls_files.specs.ByteFile.{FileBytes, Writes, Syncs, Clears}
use Rattle.fls_files.specs.FileFlash.{bytes_of}
use Rattle.fls_files.specs.FileFlashInside.{Fills, IsHeld, IsReady}
use Rattle.fls_files.proofs.FileOperations.{both_then, both_so}

replicate_more : (m n : ℕ) → ◌++◌ {A = ℕ} (replicate m 255) (replicate n 255) ≡ replicate (m + n) 255
replicate_more zero n = let at : n ≡ 0 + n = omega arith in ap (λ (k : ℕ). replicate k 255) at
replicate_more (suc m) n = let at : suc m + n ≡ suc (m + n) = omega arith in rw at (ap (λ (l : List ℕ). 255 ∷ l) (replicate_more m n))

-- a sector more
spliced_end : (old new : List ℕ) (a : ℕ) → length old ≡ a → spliced old a new ≡ old ++ new
spliced_end old new a is =
    let front : take a old ≡ old = take_all a old (omega (arith, is)) in
    let back : drop (a + length new) old ≡ [] = drop_all (a + length new) old (omega (arith, is)) in
    rw (front, back) (append-nil (old ++ new))

-- so many bytes of 255, where the file wasn't lost
abbrev pub Blanked : ℕ → FileBytes → FileBytes → Type 0
Blanked n f f' = f.lost ≡ false → (f'.now ≡ replicate n 255) × (f'.lost ≡ false)

sector_more : (sector i : ℕ) (blank : List ℕ) (f g h : FileBytes) → blank ≡ replicate sector 255 → Blanked (i * sector) f g → Writes (i * sector) blank true g h → Blanked ((i + 1) * sector) f h
sector_more sector i blank f g h is so writes on =
    let before = so on in
    let at : length g.now ≡ i * sector = ap length before.0 ∙ length-replicate (i * sector) 255 in
    let size : i * sector + sector ≡ (i + 1) * sector = omega arith in (
      writes.done refl before.1 (omega (arith, at)) ∙ spliced_end g.now blank (i * sector) at ∙ (λ k. before.0 k ++ is k) ∙ replicate_more (i * sector) sector ∙ ap (λ (n : ℕ). replicate n 255) size,
      writes.lost ∙ before.1,
    )

-- each write of the loop
pub sectors_more : (sector i : ℕ) (blank : List ℕ) (ok : Bool) (x y z : Option FileBytes) → blank ≡ replicate sector 255 → ok ≡ true
    → IfBothTold x y (Blanked (i * sector)) → IfBothTold y z (Writes (i * sector) blank ok) → IfBothTold x z (Blanked ((i + 1) * sector))
sectors_more sector i blank ok x y z is done before writes =
    both_then (Blanked (i * sector)) (Writes (i * sector) blank true) (Blanked ((i + 1) * sector))
    (λ f g h so w. sector_more sector i blank f g h is so w) x y z before (subst (λ (b : Bool). IfBothTold y z (Writes (i * sector) blank b)) done writes)

-- before the first one
pub sectors_none : (sector : ℕ) (ok : Bool) (x y : Option FileBytes) → ok ≡ true → IfBothTold x y (Clears ok) → IfBothTold x y (Blanked (0 * sector))
sectors_none sector ok x y done clears =
    let zero_times : 0 * sector ≡ 0 = omega arith in
    both_so (Clears ok) (Blanked (0 * sector)) (λ f g c on. (rw zero_times (c.done done on), c.lost ∙ on)) x y clears

-- they are on the disk
abbrev pub Enlarges : ℕ → Bool → FileBytes → FileBytes → Type 0
Enlarges size ok f f' = f.lost ≡ false → ok ≡ true → (f'.now ≡ replicate size 255) × (f'.disk ≡ f'.now) × (f'.lost ≡ false)

-- and the sync behind them
pub sectors_all : (size : ℕ) (ok : Bool) (x y z : Option FileBytes) → IfBothTold x y (Blanked size) → IfBothTold y z (Syncs ok) → IfBothTold x z (Enlarges size ok)
sectors_all size ok x y z before syncs =
    both_then (Blanked size) (Syncs ok) (Enlarges size ok)
    (λ f g h so s on done. let all = s.done done (so on).1 in (all.0 ∙ (so on).0, all.1 ∙ sym all.0, all.2)) x y z before syncs

-- one that was given up
pub sectors_not : (size : ℕ) (x y : Option FileBytes) → IfBothTold x y (λ f f'. Unit {0}) → IfBothTold x y (Enlarges size false)
sectors_not size x y both = both_so (λ f f'. Unit {0}) (Enlarges size false) (λ f g u on e. absurd (true≢false (sym e))) x y both

pub told_alike : (P Q : FileBytes → FileBytes → Type 0) (x y z : Option FileBytes) → IfBothTold x y P → IfBothTold y z Q → IfBothTold x z (λ f f'. Unit {0})
told_alike P Q x y z p q = both_then P Q (λ f f'. Unit {0}) (λ f g h a b. tt) x y z p q

pub told_both : (P : FileBytes → FileBytes → Type 0) (x y : Option FileBytes) → IfBothTold x y P → IfBothTold x y (λ f f'. Unit {0})
told_both P x y p = both_so P (λ f f'. Unit {0}) (λ f g a. tt) x y p

enlarged_some : (size : ℕ) (l : List ℕ) → length l ≢ 0 → enlarged size l ≡ l
enlarged_some size [] some = absurd (some refl)
enlarged_some size (x ∷ xs) some = refl

whole_from : (torn : Bool) (f : FileBytes) → length (bytes_of torn f) ≢ 0 → torn ≡ false
whole_from true f some = absurd (some refl)
whole_from false f some = refl

replicate_bytes : (n : ℕ) → AreBytes (replicate n 255)
replicate_bytes zero k = omega arith
replicate_bytes (suc n) zero = lit< tt
replicate_bytes (suc n) (suc k) = replicate_bytes n k

cases_empty : (l : List ℕ) → (l ≡ []) ⊎ (length l ≢ 0)
cases_empty [] = inl refl
cases_empty (x ∷ xs) = inr (λ e. omega arith)

-- A FLASH THAT IS FILLED
found_none : (torn : Bool) (f : FileBytes) → 0 ≡ length (bytes_of torn f) → bytes_of torn f ≡ []
found_none torn f is = nil_from_length (bytes_of torn f) (sym is)

-- one that has its bytes
filled_found : (size found : ℕ) (torn : Bool) (f : FileBytes) → found ≢ 0 → found ≡ length (bytes_of torn f) → Fills size torn torn true false false f f
filled_found size found torn f some is =
    let whole : torn ≡ false = whole_from torn f (λ none. some (is ∙ none)) in
    record {
      failed = λ e. absurd (true≢false e);
      whole = λ e. whole;
      done = λ e ready. (ap (λ (t : Bool). bytes_of t f) (sym whole) ∙ sym (enlarged_some size (bytes_of torn f) (λ none. some (is ∙ none))), ready.0);
      known = λ before now. before now;
    }

pub filled_some : (size found : ℕ) (torn : Bool) (x : Option FileBytes) → found ≢ 0 → IfSome x (λ f. found ≡ length (bytes_of torn f)) → IfBothTold x x (Fills size torn torn true false false)
filled_some size found torn None some is = tt
filled_some size found torn (Some f) some is = filled_found size found torn f some is

-- one that is made
pub filled_new : (size found : ℕ) (torn : Bool) (x y : Option FileBytes) → found ≡ 0 → IfSome x (λ f. found ≡ length (bytes_of torn f)) → IfBothTold x y (Enlarges size true) → IfBothTold x y (Fills size torn false true false false)
filled_new size found torn None None none is made = tt
filled_new size found torn None (Some g) none is made = absurd made
filled_new size found torn (Some f) None none is made = absurd made
filled_new size found torn (Some f) (Some g) none is made = record {
  failed = λ e. absurd (true≢false e);
  whole = λ e. refl;
  done = λ e ready. let all = made (ready.1 refl) refl in (all.0 ∙ ap (enlarged size) (sym (found_none torn f (sym none ∙ is))), all.1);
  known = λ before now. (made (before refl) refl).2;
}

-- and one that was given up
pub filled_not : (size found : ℕ) (torn lost' : Bool) (x y : Option FileBytes) → found ≡ 0 → IfSome x (λ f. found ≡ length (bytes_of torn f)) → IfBothTold x y (λ f g. lost' ≡ false → g.lost ≡ false) → IfBothTold x y (Fills size torn true false false lost')
filled_not size found torn lost' None None none is left = tt
filled_not size found torn lost' None (Some g) none is left = absurd left
filled_not size found torn lost' (Some f) None none is left = absurd left
filled_not size found torn lost' (Some f) (Some g) none is left = record {
  failed = λ e. (found_none torn f (sym none ∙ is), refl);
  whole = λ e. absurd (true≢false (sym e));
  done = λ e ready. absurd (true≢false (sym e));
  known = λ before now. left now;
}

-- AN ATTACH
-- one that was done
pub record Attaches (g : Geometry) (torn_new lost_new : Bool) (old : List ℕ) (f' : FileBytes) : Type 0 where
  pub size : HasSize g old
  pub now : f'.now ≡ enlarged (size_of g) old
  pub are : AreBytesOf g f'.now
  pub whole : torn_new ≡ false
  pub synced : f'.disk ≡ f'.now
  pub known : lost_new ≡ false → f'.lost ≡ false

attaches : (g : Geometry) (found : ℕ) (torn torn_new lost lost_new : Bool) (f f' : FileBytes) → found ≡ length (bytes_of torn f) → (found ≡ 0) ⊎ (found ≡ size_of g) → AreBytes (bytes_of torn f) → IsReady lost f → Fills (size_of g) torn torn_new true lost lost_new f f' → Attaches g torn_new lost_new (bytes_of torn f) f'
attaches g found torn torn_new lost lost_new f f' is or are ready fills = elim or [
  | inl none ↦
      let empty : bytes_of torn f ≡ [] = nil_from_length (bytes_of torn f) (sym is ∙ none) in
      let now : f'.now ≡ replicate (size_of g) 255 = all.0 ∙ ap (enlarged (size_of g)) empty in
      record { size = inl empty; now = all.0; are = rw now (record { size = length-replicate (size_of g) 255; bytes = replicate_bytes (size_of g) }); whole = fills.whole refl; synced = all.1; known = known }
  | inr size ↦ elim (cases_empty (bytes_of torn f)) [
    | inl empty ↦
        let now : f'.now ≡ replicate (size_of g) 255 = all.0 ∙ ap (enlarged (size_of g)) empty in
        record { size = inl empty; now = all.0; are = rw now (record { size = length-replicate (size_of g) 255; bytes = replicate_bytes (size_of g) }); whole = fills.whole refl; synced = all.1; known = known }
    | inr some ↦
        let now : f'.now ≡ bytes_of torn f = all.0 ∙ enlarged_some (size_of g) (bytes_of torn f) some in
        record { size = inr (sym is ∙ size); now = all.0; are = rw now (record { size = sym is ∙ size; bytes = are }); whole = fills.whole refl; synced = all.1; known = known }
  ]
]
  where
    all : (f'.now ≡ enlarged (size_of g) (bytes_of torn f)) × (f'.disk ≡ f'.now)
    all = fills.done refl ready

    known : lost_new ≡ false → f'.lost ≡ false
    known now = fills.known ready.1 now

-- as told
pub attached : (g : Geometry) (found : ℕ) (torn torn_new lost lost_new : Bool) (x y : Option FileBytes) → IfSome x (λ f. found ≡ length (bytes_of torn f)) → (found ≡ 0) ⊎ (found ≡ size_of g) → IfSome x (λ f. AreBytes (bytes_of torn f)) → IfSome x (IsReady lost)
    → IfBothTold x y (Fills (size_of g) torn torn_new true lost lost_new) → IfBothTold x y (λ f f'. Attaches g torn_new lost_new (bytes_of torn f) f')
attached g found torn torn_new lost lost_new None None is or are ready fills = tt
attached g found torn torn_new lost lost_new None (Some f') is or are ready fills = absurd fills
attached g found torn torn_new lost lost_new (Some f) None is or are ready fills = absurd fills
attached g found torn torn_new lost lost_new (Some f) (Some f') is or are ready fills = attaches g found torn torn_new lost lost_new f f' is or are ready fills

pub attached_held : (g : Geometry) (torn torn_new lost_new : Bool) (x y : Option FileBytes) → IsLegal g → IfBothTold x y (λ f f'. Attaches g torn_new lost_new (bytes_of torn f) f') → IfSome y (IsHeld g torn_new lost_new)
attached_held g torn torn_new lost_new None None legal at = tt
attached_held g torn torn_new lost_new None (Some f') legal at = absurd at
attached_held g torn torn_new lost_new (Some f) None legal at = tt
attached_held g torn torn_new lost_new (Some f) (Some f') legal at =
    let product = mul-le 1 1 g.sector g.sectors (omega (arith, legal.page_low, legal.sector_low)) (omega (arith, legal.sectors_low)) in
    record { shape = inr (at.whole, omega (arith, at.are.size, product), at.are); still = inr at.synced; known = at.known }
