-- Lines that are put one behind the other.
use Rattle.std.proofs.Common.{◌≡◌, ◌≤◌, ◌<◌, ◌-◌, ℕ, zero, suc, refl, length, ◌+◌, List, [], ◌∷◌, ◌++◌, take, drop, Some, Result, Ok, Err, IfErr, slice_get, ap, sym, subst, ◌∙◌, append_assoc, arith}
use Rattle.std.proofs.lemmas.List.{take_all, length-drop, length-take, take_more, take-append-drop, drop-drop, map-append}
use Rattle.std.proofs.lemmas.Option.{slice_get_within, get_or_from_slice_get}
use Rattle.std.specs.List.{slice_range}
use Rattle.std.specs.Result.{IsErrAnd}
use Rattle.nv_streams.specs.Sink.{Written, Puts, PutsPart}
use Rattle.nv_streams.proofs.Puts.{Puts-trans, PutsPart-longer, PutsPart-behind}
use Rattle.nv_base.specs.declared.entry.Entry.{Entry}
use Rattle.nvm_script.specs.Cut.{cut_lines}
use Rattle.nvm_script.specs.Lines.{entry_line}
use Rattle.nvm_script.specs.Printed.{history_lines}
use Rattle.nvm_lines.specs.Output.{BreaksOff}
use Rattle.nvm_lines.specs.declared.output.OutputFault.{OutputFault}
use Rattle.nvm_lines.specs.declared.output.OutputFault.TheVariants.{Memory}

-- ENTRIES
-- one more
lines-more : (entries : List Entry) (i : ℕ) (e : Entry) → slice_get entries i ≡ Some e → history_lines (take (i + 1) entries) ≡ history_lines (take i entries) ++ entry_line e ∷ []
lines-more entries i e at =
    rw (take_more entries i e (slice_get_within entries i e at), get_or_from_slice_get entries i e e at) (map-append entry_line (take i entries) (e ∷ []))

pub entries-more : (w w1 w2 : Written) (entries : List Entry) (i : ℕ) (e : Entry) (line : List ℕ) → slice_get entries i ≡ Some e → Puts w w1 (history_lines (take i entries)) → line ≡ entry_line e → Puts w1 w2 (line ∷ []) → Puts w w2 (history_lines (take (i + 1) entries))
entries-more w w1 w2 entries i e line at before same put =
    subst (λ (l : List (List ℕ)). Puts w w2 l) (ap (λ (l : List ℕ). history_lines (take i entries) ++ l ∷ []) same ∙ sym (lines-more entries i e at)) (Puts-trans w w1 w2 (history_lines (take i entries)) (line ∷ []) before put)

-- a part of one more is one of all
pub entries-part : (w w1 w2 : Written) (entries : List Entry) (i : ℕ) (e : Entry) (line : List ℕ) → slice_get entries i ≡ Some e → Puts w w1 (history_lines (take i entries)) → line ≡ entry_line e → PutsPart w1 w2 (line ∷ []) → PutsPart w w2 (history_lines entries)
entries-part w w1 w2 entries i e line at before same part =
    let joined : history_lines (take i entries) ++ line ∷ [] ≡ history_lines (take (i + 1) entries) = ap (λ (l : List ℕ). history_lines (take i entries) ++ l ∷ []) same ∙ sym (lines-more entries i e at) in
    let front : PutsPart w w2 (history_lines (take (i + 1) entries)) = subst (λ (l : List (List ℕ)). PutsPart w w2 l) joined (PutsPart-behind w w1 w2 (history_lines (take i entries)) (line ∷ []) before part) in
    let parts : history_lines entries ≡ history_lines (take (i + 1) entries) ++ history_lines (drop (i + 1) entries) =
    ap history_lines (sym (take-append-drop (i + 1) entries)) ∙ map-append entry_line (take (i + 1) entries) (drop (i + 1) entries) in
    subst (λ (l : List (List ℕ)). PutsPart w w2 l) (sym parts) (PutsPart-longer w w2 _ _ front)

-- want of memory breaks them off behind one
pub entries-wanting : (w w' : Written) (entries : List Entry) (i : ℕ) (r : Result (Unit {0}) OutputFault) → IsErrAnd r (λ fault. fault ≡ Memory) → Puts w w' (history_lines (take i entries)) → IfErr r (λ fault. BreaksOff fault entries w w')
entries-wanting w w' entries i (Ok done) is put = tt
entries-wanting w w' entries i (Err fault) is put = subst (λ (f : OutputFault). BreaksOff f entries w w') (sym is) (i, put)

-- PIECES
taken-at : {X : Type 0} (n : ℕ) (xs : List X) (k : ℕ) → k < n → slice_get (take n xs) k ≡ slice_get xs k
taken-at zero xs k less = absurd (omega (arith, less))
taken-at (suc n) [] k less = refl
taken-at (suc n) (x ∷ xs) zero less = refl
taken-at (suc n) (x ∷ xs) (suc k) less = taken-at n xs k (omega (arith, less))

dropped-at : {X : Type 0} (n : ℕ) (xs : List X) (k : ℕ) → slice_get (drop n xs) k ≡ slice_get xs (n + k)
dropped-at zero xs k = let none : k ≡ 0 + k = omega arith in ap (λ (n : ℕ). slice_get xs n) none
dropped-at (suc n) [] k = refl
dropped-at (suc n) (x ∷ xs) k = let one : suc (n + k) ≡ suc n + k = omega arith in dropped-at n xs k ∙ ap (λ (m : ℕ). slice_get (x ∷ xs) m) one

-- an entry of a history, within a piece of it
pub piece-at : (entries : List Entry) (from i to : ℕ) (e : Entry) → from ≤ i → i < to → slice_get entries i ≡ Some e → slice_get (take (to - from) (drop from entries)) (i - from) ≡ Some e
piece-at entries from i to e behind before at =
    let k : i - from < to - from = omega (arith, behind, before) in
    taken-at (to - from) (drop from entries) (i - from) k ∙ dropped-at from entries (i - from) ∙ ap (λ (n : ℕ). slice_get entries n) (same from i behind) ∙ at
  where
    same : (a b : ℕ) → a ≤ b → a + (b - a) ≡ b
    same a b less = omega (arith, less)

pub piece-whole : (entries : List Entry) (n : ℕ) → n ≡ length entries → take (n - 0) (drop 0 entries) ≡ entries
piece-whole entries n is = take_all (n - 0) entries (omega (arith, is))

-- behind the last entry of a history nothing stands in a piece
pub piece-past : (entries : List Entry) (from i to : ℕ) → from ≤ i → length entries ≤ i → take (i - from) (take (to - from) (drop from entries)) ≡ take (i + 1 - from) (take (to - from) (drop from entries))
piece-past entries from i to behind past =
    let few = length-take (to - from) (drop from entries) in
    let left = length-drop from entries in
    take_all (i - from) (take (to - from) (drop from entries)) (omega (arith, few, left, behind, past)) ∙ sym (take_all (i + 1 - from) (take (to - from) (drop from entries)) (omega (arith, few, left, behind, past)))

-- LINES OF A TEXT
-- these are put of a text, whose rest stands from this place on
pub record PutsUpTo (w w' : Written) (text : List ℕ) (at : ℕ) : Type 0 where
  pub done : List (List ℕ)
  pub are : cut_lines text ≡ done ++ cut_lines (drop at text)
  pub put : Puts w w' done

-- the next line, of so many bytes
next_line : (text : List ℕ) (at n : ℕ) → cut_lines (drop at text) ≡ take n (drop at text) ∷ cut_lines (drop n (drop at text)) → cut_lines (drop at text) ≡ slice_range text at (at + n) ∷ cut_lines (drop (at + n) text)
next_line text at n is =
    let so_many : at + n - at ≡ n = omega arith in
    is ∙ ap (λ (l : List ℕ). take n (drop at text) ∷ cut_lines l) (drop-drop n at text) ∙ ap (λ (k : ℕ). take k (drop at text) ∷ cut_lines (drop (at + n) text)) (sym so_many)

-- one more
pub line-more : (w w1 w2 : Written) (text : List ℕ) (at n : ℕ) → cut_lines (drop at text) ≡ take n (drop at text) ∷ cut_lines (drop n (drop at text)) → PutsUpTo w w1 text at → Puts w1 w2 (slice_range text at (at + n) ∷ []) → PutsUpTo w w2 text (at + n)
line-more w w1 w2 text at n first before put =
    let line = slice_range text at (at + n) in
    record {
      done = before.done ++ line ∷ [];
      are = before.are ∙ ap (λ (l : List (List ℕ)). before.done ++ l) (next_line text at n first) ∙ sym (append_assoc before.done (line ∷ []) (cut_lines (drop (at + n) text)));
      put = Puts-trans w w1 w2 before.done (line ∷ []) before.put put;
    }

-- a part of one more is one of the whole text
pub line-part : (w w1 w2 : Written) (text : List ℕ) (at n : ℕ) → cut_lines (drop at text) ≡ take n (drop at text) ∷ cut_lines (drop n (drop at text)) → PutsUpTo w w1 text at → PutsPart w1 w2 (slice_range text at (at + n) ∷ []) → PutsPart w w2 (cut_lines text)
line-part w w1 w2 text at n first before part =
    let line = slice_range text at (at + n) in
    subst (λ (l : List (List ℕ)). PutsPart w w2 l) (sym (before.are ∙ ap (λ (l : List (List ℕ)). before.done ++ l) (next_line text at n first)))
    (PutsPart-behind w w1 w2 before.done (line ∷ cut_lines (drop (at + n) text)) before.put (PutsPart-longer w1 w2 (line ∷ []) (cut_lines (drop (at + n) text)) part))
