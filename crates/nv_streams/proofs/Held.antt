-- Bytes that are held back and then go on.
use Rattle.std.proofs.Common.{◌≡◌, ◌≤◌, ℕ, List, [], ◌∷◌, ◌++◌, length, take, drop, Option, Some, None, sym, ap, ◌∙◌, subst, append_assoc, append-nil, take-append-drop, arith}
use Rattle.std.proofs.KnownBytes.{Appends-trans}
use Rattle.std.specs.Io.KnownBytes.{Appends, append_known}
use Rattle.nv_streams.specs.Sink.{PutsPart, IsFailedPut}
use Rattle.nv_streams.specs.HeldSink.{HeldBytes, Passes, IsFlushed, IsUnflushed, IsPassed, told_held}
use Rattle.nv_streams.specs.declared.sink.SinkAnswer.{SinkAnswer}
use Rattle.nv_streams.specs.declared.sink.SinkAnswer.TheVariants.{Done, Failed}
use Rattle.nv_base.specs.Count.{Rose}
use Rattle.nv_streams.proofs.Puts.{PutsPart-one}

-- What went on, with what is held behind it, grew by what was put.
told_more : (a b : Option (List ℕ)) (bytes held rest more : List ℕ) → Appends a b bytes → bytes ++ rest ≡ held ++ more → Appends (append_known a held) (append_known b rest) more
told_more None b bytes held rest more one is = tt
told_more (Some xs) None bytes held rest more one is = absurd one
told_more (Some xs) (Some ys) bytes held rest more one is =
    ap (λ (l : List ℕ). l ++ rest) one ∙ append_assoc xs bytes rest ∙ ap (λ (l : List ℕ). xs ++ l) is ∙ sym (append_assoc xs held more)

abbrev Tells : HeldBytes → HeldBytes → List ℕ → Type 0
Tells old new more = Appends (append_known old.writer old.held) (append_known new.writer new.held) more

tells_by : (old new : HeldBytes) (bytes rest more : List ℕ) → Passes old new bytes rest → bytes ++ rest ≡ old.held ++ more → Tells old new more
tells_by old new bytes rest more passes is =
    rw passes.holds (told_more old.writer new.writer bytes old.held rest more passes.took is)

-- a beginning of it
puts_part_by : (old new : HeldBytes) (bytes rest piece : List ℕ) (n : ℕ) → n ≤ length piece → Passes old new bytes rest → bytes ++ rest ≡ old.held ++ take n piece → PutsPart (told_held old) (told_held new) (piece ∷ [])
puts_part_by old new bytes rest piece n within passes is =
    PutsPart-one (told_held old) (told_held new) piece n within (tells_by old new bytes rest (take n piece) passes is) tt

-- nothing of it
puts_none_by : (old new : HeldBytes) (n : ℕ) (piece : List ℕ) → Passes old new (take n old.held) (drop n old.held) → PutsPart (told_held old) (told_held new) (piece ∷ [])
puts_none_by old new n piece passes =
    puts_part_by old new (take n old.held) (drop n old.held) piece 0 (omega arith) passes (take-append-drop n old.held ∙ sym (append-nil old.held))

-- what was held, and then some of a piece
passes_both : (a b c : HeldBytes) (bytes held rest : List ℕ) → Passes a b a.held held → Passes b c bytes rest → Passes a c (a.held ++ bytes) rest
passes_both a b c bytes held rest one two =
    record { took = Appends-trans a.writer b.writer c.writer a.held bytes one.took two.took; holds = two.holds }

fails_at : (answer : SinkAnswer) (a b c : HeldBytes) (piece : List ℕ) → Passes a b a.held [] → b.faults ≡ a.faults → IsPassed answer piece b c → IsFailedPut answer (told_held a) a.faults piece (told_held c) c.faults
fails_at Done a b c piece one same two = tt
fails_at Failed a b c piece one same (n, within, two, rose) = (
  puts_part_by a c (a.held ++ take n piece) [] piece n within (passes_both a b c (take n piece) [] [] one two) (append-nil (a.held ++ take n piece)),
  subst (λ (k : ℕ). Rose k c.faults) same rose,
)

-- where the writer fails behind what was held, a beginning of the piece was put
pub fails_behind : (answer : SinkAnswer) (a a' b b' c : HeldBytes) (piece : List ℕ) → a' ≡ a → IsFlushed Done a' b → b' ≡ b → IsPassed answer piece b' c → IsFailedPut answer (told_held a) a.faults piece (told_held c) c.faults
fails_behind answer a a' b b' c piece one flushed two passed =
    fails_at answer a b c piece (subst (λ (x : HeldBytes). Passes x b x.held []) one flushed.0) (subst (λ (x : HeldBytes). b.faults ≡ x.faults) one flushed.1)
    (subst (λ (x : HeldBytes). IsPassed answer piece x c) two passed)

fails_held : (a b : HeldBytes) (piece : List ℕ) → IsUnflushed Failed a b → PutsPart (told_held a) (told_held b) (piece ∷ []) × Rose a.faults b.faults
fails_held a b piece (n, within, passes, rose) = (puts_none_by a b n piece passes, rose)

-- where it fails within what was held, nothing was
pub fails_before : (a a' b : HeldBytes) (piece : List ℕ) → a' ≡ a → IsUnflushed Failed a' b → PutsPart (told_held a) (told_held b) (piece ∷ []) × Rose a.faults b.faults
fails_before a a' b piece one failed = fails_held a b piece (subst (λ (x : HeldBytes). IsUnflushed Failed x b) one failed)
