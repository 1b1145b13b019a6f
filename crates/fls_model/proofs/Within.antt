-- what a program and an erase leave is some that a cut may leave
use Rattle.std.proofs.Common.{◌≡◌, ◌<◌, ◌≤◌, ℕ, zero, suc, ◌+◌, List, [], ◌∷◌, ◌++◌, length, take, drop, replicate, refl, ap, ◌∙◌, arith, append_assoc, length-append, length-drop, lit<}
use Rattle.std.specs.Prelude.{bit_and}
use Rattle.std.proofs.lemmas.List.{take_at, drop_at, length-take-le, length-replicate, get_or-drop}
use Rattle.std.proofs.lemmas.Grind.{and_numeral}
use Rattle.std.proofs.Math.Nat.{mod-eq_of_lt}
use Rattle.fls_model.specs.Bytes.{piece, spliced, and_bytes, AreBytes, SameOutside, Grown}
use Rattle.fls_model.specs.Op.{MayLeave, Program, Erase, after_op}

same_outside : (a n : ℕ) (old mid : List ℕ) → length mid ≡ n → a + n ≤ length old → SameOutside a n old (spliced old a mid)
same_outside a n old mid is le =
    let at : length (take a old) ≡ a = length-take-le a old (omega arith) in
    let till : length (take a old ++ mid) ≡ a + n = simp length-append (omega (arith, at)) in
    record {
      size = simp (length-append, length-drop) (omega (arith, at));
      front = rw append_assoc (take_at (take a old) (mid ++ drop (a + length mid) old) a at);
      back = drop_at (take a old ++ mid) (drop (a + length mid) old) (a + n) till ∙ ap (λ (k : ℕ). drop (a + k) old) is;
    }

piece_spliced : (a n : ℕ) (old mid : List ℕ) → length mid ≡ n → a + n ≤ length old → piece a n (spliced old a mid) ≡ mid
piece_spliced a n old mid is le =
    let at : length (take a old) ≡ a = length-take-le a old (omega arith) in
    rw append_assoc (ap (λ (l : List ℕ). take n l) (drop_at (take a old) (mid ++ drop (a + length mid) old) a at) ∙ take_at mid (drop (a + length mid) old) n is)

pub and_full : (x : ℕ) → x < 256 → bit_and x 255 ≡ x
and_full x lt = and_numeral x 254 refl ∙ mod-eq_of_lt lt

-- all bits set
grown_full : (n : ℕ) (old : List ℕ) → n ≤ length old → AreBytes old → Grown (take n old) (replicate n 255)
grown_full zero old le small = tt
grown_full (suc n) [] le small = absurd (omega arith)
grown_full (suc n) (x ∷ xs) le small = (and_full x (small 0), λ h. lit< tt, grown_full n xs (omega arith) (λ k. small (suc k)))

length-and_bytes : (old page : List ℕ) → length page ≤ length old → length (and_bytes old page) ≡ length old
length-and_bytes [] [] le = refl
length-and_bytes (x ∷ xs) [] le = refl
length-and_bytes [] (y ∷ ys) le = absurd (omega arith)
length-and_bytes (x ∷ xs) (y ∷ ys) le = ap suc (length-and_bytes xs ys (omega arith))

length-piece : (a n : ℕ) (old : List ℕ) → a + n ≤ length old → length (piece a n old) ≡ n
length-piece a n old le = length-take-le n (drop a old) (omega (arith, length-drop a old))

pub within_program : (a : ℕ) (page old new : List ℕ) → new ≡ after_op (Program a page) old → a + length page ≤ length old → (AreBytes old → AreBytes new) → MayLeave (Program a page) old new
within_program a page old new is le bytes =
    let n : length (piece a (length page) old) ≡ length page = length-piece a (length page) old le in
    (rw is (same_outside a (length page) old (and_bytes (piece a (length page) old) page) (length-and_bytes _ page (omega (arith, n)) ∙ n) le), bytes)

pub within_erase : (a n : ℕ) (old new : List ℕ) → new ≡ after_op (Erase a n) old → a + n ≤ length old → AreBytes old → MayLeave (Erase a n) old new
within_erase a n old new is le small =
    let bytes : AreBytes (drop a old) = λ k. rw get_or-drop (small (a + k)) in
    rw is (same_outside a n old (replicate n 255) (length-replicate n 255) le, rw (piece_spliced a n old (replicate n 255) (length-replicate n 255) le) (grown_full n (drop a old) (omega (arith, length-drop a old)) bytes))
