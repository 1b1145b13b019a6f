-- What programs and erases leave of pieces of bytes.
use Rattle.std.proofs.Common.{◌≡◌, ◌⊎◌, inl, inr, ◌<◌, ◌≤◌, ℕ, ◌+◌, ◌-◌, List, length, take, drop, replicate, sym, ap, ◌∙◌, subst, arith}
use Rattle.std.proofs.lemmas.List.{drop-drop, drop-take, take-take, length-replicate, take-replicate, drop-replicate}
use Rattle.std.specs.List.{All}
use Rattle.fls_model.specs.Bytes.{SameOutside, Grown, and_bytes, piece}
use Rattle.fls_model.specs.Op.{Program, Erase, after_op}
use Rattle.fls_model.proofs.Pieces.{piece_front, piece_back, grown_take, grown_drop, spliced_piece, and_blank, and_zeros}

-- a piece beside a range stays
pub pieces_stay : (a n b m : ℕ) (old new : List ℕ) → SameOutside a n old new → (b + m ≤ a) ⊎ (a + n ≤ b) → piece b m new ≡ piece b m old
pieces_stay a n b m old new out (inl before) = piece_front a b m old new out.front before
pieces_stay a n b m old new out (inr behind) = piece_back (a + n) b m old new out.back behind

-- a piece of a piece
pub piece_of_piece : (a z d m : ℕ) (xs : List ℕ) → d + m ≤ z → piece d m (piece a z xs) ≡ piece (a + d) m xs
piece_of_piece a z d m xs le =
    sym (drop-take d m (piece a z xs)) ∙ ap (drop d) (take-take (d + m) z (drop a xs) le) ∙ drop-take d m (drop a xs) ∙ ap (take m) (drop-drop d a xs)

-- MORE BITS
pub grown_piece : (a z d m : ℕ) (xs ys : List ℕ) → d + m ≤ z → Grown (piece a z xs) (piece a z ys) → Grown (piece (a + d) m xs) (piece (a + d) m ys)
grown_piece a z d m xs ys le grown =
    subst (Grown (piece (a + d) m xs)) (piece_of_piece a z d m ys le)
    (subst (λ (l : List ℕ). Grown l (piece d m (piece a z ys))) (piece_of_piece a z d m xs le)
    (grown_take m (drop d (piece a z xs)) (drop d (piece a z ys)) (grown_drop d (piece a z xs) (piece a z ys) grown)))

-- DONE
-- an erase leaves blank bytes
pub erased_piece : (bytes : List ℕ) (a z d m : ℕ) → a ≤ length bytes → d + m ≤ z → piece (a + d) m (after_op (Erase a z) bytes) ≡ replicate m 255
erased_piece bytes a z d m le inside =
    sym (piece_of_piece a z d m (after_op (Erase a z) bytes) inside)
    ∙ ap (piece d m) (spliced_piece bytes (replicate z 255) a z (length-replicate z 255) le)
    ∙ ap (take m) (drop-replicate d z 255) ∙ take-replicate m (z - d) 255 (omega arith)

-- a program of blank bytes leaves the page, and one of zeros leaves zeros
pub programmed_piece : (bytes page : List ℕ) (a : ℕ) → All (λ x. x < 256) page → a ≤ length bytes → piece a (length page) bytes ≡ replicate (length page) 255 → piece a (length page) (after_op (Program a page) bytes) ≡ page
programmed_piece bytes page a small le blank =
    let same : and_bytes (piece a (length page) bytes) page ≡ page = ap (λ (l : List ℕ). and_bytes l page) blank ∙ and_blank page small in
    spliced_piece bytes (and_bytes (piece a (length page) bytes) page) a (length page) (ap length same) le ∙ same

pub zeroed_piece : (bytes : List ℕ) (a n : ℕ) → length (piece a n bytes) ≡ n → a ≤ length bytes → piece a n (after_op (Program a (replicate n 0)) bytes) ≡ replicate n 0
zeroed_piece bytes a n whole le =
    let size : length (replicate n 0) ≡ n = length-replicate n 0 in
    let at : piece a (length (replicate n 0)) bytes ≡ piece a n bytes = ap (λ (k : ℕ). piece a k bytes) size in
    let same : and_bytes (piece a (length (replicate n 0)) bytes) (replicate n 0) ≡ replicate n 0 = ap (λ (l : List ℕ). and_bytes l (replicate n 0)) at ∙ and_zeros n (piece a n bytes) whole in
    spliced_piece bytes (and_bytes (piece a (length (replicate n 0)) bytes) (replicate n 0)) a n (ap length same ∙ size) le ∙ same
