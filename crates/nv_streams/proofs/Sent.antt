-- Bytes that are sent in pieces.
use Rattle.std.proofs.Common.{ℕ, ◌+◌, List, ◌++◌, take, drop, Option, Some, None, ap, ◌∙◌, sym, append_assoc}
use Rattle.std.proofs.Math.Seq.{take-add}
use Rattle.std.specs.Io.KnownBytes.{Appends, Keeps}

-- the first n bytes, and then the next m
pub Appends-more : (a b c : Option (List ℕ)) (bytes : List ℕ) (n m : ℕ) → Appends a b (take n bytes) → Appends b c (take m (drop n bytes)) → Appends a c (take (n + m) bytes)
Appends-more None b c bytes n m one two = tt
Appends-more (Some xs) None c bytes n m one two = absurd one
Appends-more (Some xs) (Some ys) None bytes n m one two = absurd two
Appends-more (Some xs) (Some ys) (Some zs) bytes n m one two =
    two ∙ ap (λ (l : List ℕ). l ++ take m (drop n bytes)) one ∙ append_assoc xs (take n bytes) (take m (drop n bytes)) ∙ ap (λ (l : List ℕ). xs ++ l) (sym (take-add n m bytes))

-- and none more
pub Appends-kept : (a b c : Option (List ℕ)) (bytes : List ℕ) → Appends a b bytes → Keeps b c → Appends a c bytes
Appends-kept None b c bytes one two = tt
Appends-kept (Some xs) None c bytes one two = absurd one
Appends-kept (Some xs) (Some ys) None bytes one two = absurd two
Appends-kept (Some xs) (Some ys) (Some zs) bytes one two = two ∙ one
