-- parts of operations
use Rattle.std.proofs.Common.{◌≡◌, ◌≤◌, ℕ, ◌+◌, ◌-◌, List, [], ◌∷◌, ◌++◌, length, take, drop, replicate, min, refl, sym, ap, ◌∙◌, arith, inl, inr, subst, length-append}
use Rattle.std.specs.Int.Bits.{and_self}
use Rattle.std.proofs.Math.Seq.{take-append-add}
use Rattle.std.proofs.lemmas.List.{length-take, length-take-le, length-replicate, take-replicate, drop-replicate, take_all}
use Rattle.std.proofs.lemmas.Bool.{cases_lt}
use Rattle.fls_model.specs.Bytes.{piece, SameOutside, Grown}
use Rattle.fls_model.specs.Op.{Op, Program, Erase, MayLeave, kept_page, part_of}

take_within : (keep count : ℕ) (page : List ℕ) → count ≡ min (length page) keep → take count page ≡ take keep page
take_within keep count page is = elim (cases_lt keep (length page)) [
  | inl lt ↦ let e : count ≡ keep = omega arith in rw e refl
  | inr ge ↦ take_all count page (omega arith) ∙ sym (take_all keep page (omega arith))
]

pub kept_taken : (keep count : ℕ) (page : List ℕ) → length page ≤ 256 → count ≡ min (length page) keep → take (length page) (take count page ++ drop {A = ℕ} count (replicate 256 255)) ≡ kept_page keep page
kept_taken keep count page le is =
    let at : length (take count page) ≡ count = length-take-le count page (omega arith) in
    let whole : length page ≡ length (take count page) + (length page - keep) = omega arith in
    let rest : drop {A = ℕ} count (replicate 256 255) ≡ replicate (256 - count) 255 = drop-replicate count 256 255 in
    let some : take (length page - keep) (drop {A = ℕ} count (replicate 256 255)) ≡ replicate (length page - keep) 255 = rw rest (take-replicate (length page - keep) (256 - count) 255 (omega (arith, is))) in
    ap (λ (n : ℕ). take n (take count page ++ drop {A = ℕ} count (replicate 256 255))) whole ∙ take-append-add (take count page) (drop {A = ℕ} count (replicate 256 255)) (length page - keep)
    ∙ (λ i. take_within keep count page is i ++ some i)

pub length-kept_page : (keep : ℕ) (page : List ℕ) → length (kept_page keep page) ≡ length page
length-kept_page keep page = simp (length-append, length-take, length-replicate) (omega arith)

-- what a part of an operation may leave the operation may
pub part_within : (keep : ℕ) (op : Op) (old new : List ℕ) → MayLeave (part_of keep op) old new → MayLeave op old new
part_within keep (Program address page) old new may = (subst (λ (n : ℕ). SameOutside address n old new) (length-kept_page keep page) may.0, may.1)
part_within keep (Erase address n) old new may = may

grown_refl : (xs : List ℕ) → Grown xs xs
grown_refl [] = tt
grown_refl (x ∷ xs) = (and_self x, λ h. h, grown_refl xs)

-- a cut may leave all as it was
pub may_stay : (op : Op) (bytes : List ℕ) → MayLeave op bytes bytes
may_stay (Program address page) bytes = (record { size = refl; front = refl; back = refl }, λ are. are)
may_stay (Erase address n) bytes = (record { size = refl; front = refl; back = refl }, grown_refl (piece address n bytes))
