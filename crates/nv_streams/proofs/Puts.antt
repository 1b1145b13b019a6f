-- Pieces that are appended one behind the other.
use Rattle.std.proofs.Common.{◌≡◌, ◌≤◌, ℕ, List, [], ◌∷◌, ◌++◌, length, take, Option, Some, None, refl, sym, ap, ◌∙◌, subst, arith, append_assoc, append-nil}
use Rattle.std.proofs.KnownBytes.{Appends-nil, Appends-trans}
use Rattle.std.proofs.lemmas.List.Folds.{concat-append}
use Rattle.std.specs.List.{concat}
use Rattle.std.specs.Io.KnownBytes.{Appends}
use Rattle.nv_streams.specs.Sink.{Written, AddsPieces, Puts, PutsPart}

adds-nil : (a : Option (List (List ℕ))) → AddsPieces a a []
adds-nil None = tt
adds-nil (Some old) = sym (append-nil old)

adds-trans : (a b c : Option (List (List ℕ))) (xs ys : List (List ℕ)) → AddsPieces a b xs → AddsPieces b c ys → AddsPieces a c (xs ++ ys)
adds-trans None b c xs ys one two = tt
adds-trans (Some a) None c xs ys one two = absurd one
adds-trans (Some a) (Some b) None xs ys one two = absurd two
adds-trans (Some a) (Some b) (Some c) xs ys one two = two ∙ ap (λ (l : List (List ℕ)). l ++ ys) one ∙ append_assoc a xs ys

-- none
pub Puts-nil : (w : Written) → Puts w w []
Puts-nil w = record { bytes = Appends-nil w.bytes; pieces = adds-nil w.pieces }

-- a prefix of a piece
pub PutsPart-one : (w w' : Written) (piece : List ℕ) (n : ℕ) → n ≤ length piece → Appends w.bytes w'.bytes (take n piece) → AddsPieces w.pieces w'.pieces [] → PutsPart w w' (piece ∷ [])
PutsPart-one w w' piece n within bytes pieces =
    record { done = []; piece = piece; rest = []; are = refl; count = n; within = within; bytes = bytes; pieces = pieces }

-- nothing of it
pub PutsPart-none : (w : Written) (piece : List ℕ) → PutsPart w w (piece ∷ [])
PutsPart-none w piece = PutsPart-one w w piece 0 (omega arith) (Appends-nil w.bytes) (adds-nil w.pieces)

-- some, and then more
pub Puts-trans : (a b c : Written) (xs ys : List (List ℕ)) → Puts a b xs → Puts b c ys → Puts a c (xs ++ ys)
Puts-trans a b c xs ys one two = record {
  bytes = subst (λ (l : List ℕ). Appends a.bytes c.bytes l) (sym (concat-append xs ys)) (Appends-trans a.bytes b.bytes c.bytes (concat xs) (concat ys) one.bytes two.bytes);
  pieces = adds-trans a.pieces b.pieces c.pieces xs ys one.pieces two.pieces;
}

-- a part of some is one of more
pub PutsPart-longer : (a b : Written) (xs ys : List (List ℕ)) → PutsPart a b xs → PutsPart a b (xs ++ ys)
PutsPart-longer a b xs ys part = record {
  done = part.done;
  piece = part.piece;
  rest = part.rest ++ ys;
  are = ap (λ (l : List (List ℕ)). l ++ ys) part.are ∙ append_assoc part.done (part.piece ∷ part.rest) ys;
  count = part.count;
  within = part.within;
  bytes = part.bytes;
  pieces = part.pieces;
}

-- some, and then a part of more
pub PutsPart-behind : (a b c : Written) (xs ys : List (List ℕ)) → Puts a b xs → PutsPart b c ys → PutsPart a c (xs ++ ys)
PutsPart-behind a b c xs ys one part =
    let joined : concat xs ++ (concat part.done ++ take part.count part.piece) ≡ concat (xs ++ part.done) ++ take part.count part.piece =
    sym (append_assoc (concat xs) (concat part.done) (take part.count part.piece)) ∙ ap (λ (l : List ℕ). l ++ take part.count part.piece) (sym (concat-append xs part.done)) in
    record {
      done = xs ++ part.done;
      piece = part.piece;
      rest = part.rest;
      are = ap (λ (l : List (List ℕ)). xs ++ l) part.are ∙ sym (append_assoc xs part.done (part.piece ∷ part.rest));
      count = part.count;
      within = part.within;
      bytes = subst (λ (l : List ℕ). Appends a.bytes c.bytes l) joined (Appends-trans a.bytes b.bytes c.bytes (concat xs) (concat part.done ++ take part.count part.piece) one.bytes part.bytes);
      pieces = adds-trans a.pieces b.pieces c.pieces xs part.done one.pieces part.pieces;
    }
