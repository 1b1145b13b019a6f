-- Bytes cut into pieces.
use Rattle.std.proofs.Common.{◌≡◌, ◌≤◌, ℕ, ◌+◌, List, [], ◌∷◌, ◌++◌, length, take, drop, refl, sym, ap, ◌∙◌, arith, length-drop, take-append-drop}
use Rattle.std.proofs.lemmas.List.{take-append-le, drop-append-le, length-append}
use Rattle.std.proofs.Math.Seq.{take-length}
use Rattle.std.proofs.lemmas.List.Folds.{concat-append}
use Rattle.std.proofs.lemmas.List.Sums.{sum_by-cons, sum_by_push}
use Rattle.std.specs.List.{sum, concat}
use Rattle.nv_streams.specs.Sink.{Puts}
use Rattle.nv_streams.specs.MemorySink.{cut_by, told_pieces}

sum-cons : (n : ℕ) (ns : List ℕ) → sum (n ∷ ns) ≡ n + sum ns
sum-cons n ns = sum_by-cons (λ x. x) n ns

-- behind the first piece
sum-rest : (n : ℕ) (ns bytes : List ℕ) → sum (n ∷ ns) ≡ length bytes → sum ns ≡ length (drop n bytes)
sum-rest n ns bytes is = omega (arith, is, sum-cons n ns, length-drop n bytes)

-- the pieces joined are the bytes
pub concat-cut : (ns bytes : List ℕ) → sum ns ≡ length bytes → concat (cut_by ns bytes) ≡ bytes
concat-cut [] [] is = refl
concat-cut [] (b ∷ bytes) is = cc is
concat-cut (n ∷ ns) bytes is = ap (λ (l : List ℕ). take n bytes ++ l) (concat-cut ns (drop n bytes) (sum-rest n ns bytes is)) ∙ take-append-drop n bytes

-- and one piece more
pub cut-more : (ns bytes piece : List ℕ) → sum ns ≡ length bytes → cut_by (ns ++ length piece ∷ []) (bytes ++ piece) ≡ cut_by ns bytes ++ piece ∷ []
cut-more [] [] piece is = ap (λ (l : List ℕ). l ∷ []) (take-length piece)
cut-more [] (b ∷ bytes) piece is = cc is
cut-more (n ∷ ns) bytes piece is =
    let within : n ≤ length bytes = omega (arith, is, sum-cons n ns) in
    rw (take-append-le n bytes piece within, drop-append-le n bytes piece within, cut-more ns (drop n bytes) piece (sum-rest n ns bytes is)) refl

pub sum-more : (ns bytes piece : List ℕ) → sum ns ≡ length bytes → sum (ns ++ length piece ∷ []) ≡ length (bytes ++ piece)
sum-more ns bytes piece is = sum_by_push (λ x. x) ns (length piece) ∙ ap (λ (n : ℕ). n + length piece) is ∙ sym (length-append bytes piece)

-- so that sink put the piece
pub puts-cut : (ns bytes piece : List ℕ) → sum ns ≡ length bytes → Puts (told_pieces (cut_by ns bytes)) (told_pieces (cut_by (ns ++ length piece ∷ []) (bytes ++ piece))) (piece ∷ [])
puts-cut ns bytes piece is = rw (cut-more ns bytes piece is) (record { bytes = concat-append (cut_by ns bytes) (piece ∷ []); pieces = refl })
