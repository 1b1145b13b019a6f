-- what was seen of a file, behind each of its calls
use Rattle.std.proofs.Common.{◌≡◌, ◌≤◌, ℕ, ◌+◌, ◌-◌, Bool, true, false, List, [], ◌++◌, length, take, drop, Option, Some, None, IfSome, refl, ap, sym, ◌∙◌, inl, inr, arith, append_assoc, append-nil, length-append, length-drop, true≢false}
use Rattle.std.specs.Prelude.{Result, Ok, Err, is_ok, OnOk}
use Rattle.std.proofs.Math.Seq.{drop-append-add, drop-append_seam}
use Rattle.std.proofs.lemmas.Bool.{cases_lt}
use Rattle.std.proofs.lemmas.List.{take-append-le, drop-append-le, take-append-drop, take_all, drop_all}
use Rattle.fls_model.specs.Bytes.{piece, spliced}
use Rattle.fls_model.specs.Told.{IfBothTold}
use Rattle.fls_files.specs.ByteFile.{FileBytes, Settles, Writes, Syncs, Clears}
use Rattle.fls_files.specs.SeenFile.{IsFront, HasSeen}

-- LISTS
-- behind the first ones there are some left
drop_front : (k : ℕ) (xs ys : List ℕ) → (zs : List ℕ) × (drop k (xs ++ ys) ≡ drop k xs ++ zs)
drop_front k xs ys = elim (cases_lt (length xs) k) [
  | inl past ↦
      let at : length xs + (k - length xs) ≡ k = omega arith in
      let none : drop k xs ≡ [] = drop_all k xs (omega arith) in
      (drop (k - length xs) ys, ap (λ (n : ℕ). drop n (xs ++ ys)) (sym at) ∙ drop-append-add xs ys (k - length xs) ∙ ap (λ (l : List ℕ). l ++ drop (k - length xs) ys) (sym none))
  | inr within ↦ (ys, drop-append-le k xs ys within)
]

piece_front : (a n : ℕ) (xs ys : List ℕ) → a + n ≤ length xs → piece a n (xs ++ ys) ≡ piece a n xs
piece_front a n xs ys le =
    ap (take n) (drop-append-le a xs ys (omega (arith, le))) ∙ take-append-le n (drop a xs) ys (omega (arith, le, length-drop a xs))

-- CALLS
-- what holds where a call was done
pub ok_then : {T E : Type 0} (r : Result T E) (P : Type 0) → is_ok r ≡ true → OnOk r P → P
ok_then (Ok x) P done holds = holds
ok_then (Err e) P done holds = absurd (true≢false (sym done))

none_seen : (f : FileBytes) → f.lost ≡ false → IsFront [] f
none_seen f known = record { known = known; rest = f.now; whole = refl }

front_read : (a n : ℕ) (seen into : List ℕ) (f : FileBytes) → IsFront seen f → a + n ≤ length seen → into ≡ piece a n seen → into ≡ piece a n f.now
front_read a n seen into f front le is = is ∙ sym (piece_front a n seen front.rest le) ∙ ap (piece a n) (sym front.whole)

spliced_behind : (old new : List ℕ) → spliced old (length old) new ≡ old ++ new
spliced_behind old new =
    let front : take (length old) old ≡ old = take_all (length old) old (omega arith) in
    let back : drop (length old + length new) old ≡ [] = drop_all (length old + length new) old (omega arith) in
    rw (front, back) (append-nil (old ++ new))

front_joined : (n : ℕ) (seen into new : List ℕ) (f : FileBytes) → IsFront seen f → into ≡ piece (length seen) n f.now → new ≡ spliced seen (length seen) into → IsFront new f
front_joined n seen into new f front is joined =
    let behind : into ≡ take n front.rest = is ∙ ap (piece (length seen) n) front.whole ∙ ap (take n) (drop-append_seam seen front.rest) in
    let now : new ≡ seen ++ take n front.rest = joined ∙ spliced_behind seen into ∙ ap (λ (l : List ℕ). seen ++ l) behind in
    let all : f.now ≡ seen ++ (take n front.rest ++ drop n front.rest) = front.whole ∙ ap (λ (l : List ℕ). seen ++ l) (sym (take-append-drop n front.rest)) in
    record {
      known = front.known;
      rest = drop n front.rest;
      whole = all ∙ sym (append_assoc seen (take n front.rest) (drop n front.rest)) ∙ ap (λ (l : List ℕ). l ++ drop n front.rest) (sym now);
    }

front_written : (a : ℕ) (bytes seen new : List ℕ) (f g : FileBytes) → IsFront seen f → Writes a bytes true f g → a ≤ length seen → new ≡ spliced seen a bytes → IsFront new g
front_written a bytes seen new f g front writes le is =
    let long : length f.now ≡ length seen + length front.rest = ap length front.whole ∙ length-append seen front.rest in
    let now : g.now ≡ spliced f.now a bytes = writes.done refl front.known (omega (arith, le, long)) in
    let front_of : take a (seen ++ front.rest) ≡ take a seen = take-append-le a seen front.rest le in
    let back = drop_front (a + length bytes) seen front.rest in
    let parts : spliced (seen ++ front.rest) a bytes ≡ take a seen ++ bytes ++ (drop (a + length bytes) seen ++ back.0) = rw (front_of, back.1) refl in
    record {
      known = writes.lost ∙ front.known;
      rest = back.0;
      whole = now ∙ ap (λ (l : List ℕ). spliced l a bytes) front.whole ∙ parts ∙ sym (append_assoc (take a seen ++ bytes) (drop (a + length bytes) seen) back.0) ∙ ap (λ (l : List ℕ). l ++ back.0) (sym is);
    }

-- WHERE THE FILE TELLS ITS BYTES
pub seen_not : (seen : List ℕ) (x : Option FileBytes) → IfSome x (HasSeen false seen)
seen_not seen None = tt
seen_not seen (Some f) = λ e. absurd (true≢false (sym e))

pub seen_settled : (ok : Bool) (x y : Option FileBytes) → IfBothTold x y (Settles ok) → IfSome y (HasSeen ok [])
seen_settled ok None None settles = tt
seen_settled ok None (Some g) settles = absurd settles
seen_settled ok (Some f) None settles = tt
seen_settled ok (Some f) (Some g) settles = λ e. none_seen g (settles.done e).1

pub seen_given : (settled : Bool) (a n : ℕ) (seen into : List ℕ) (x : Option FileBytes) → settled ≡ true → IfSome x (HasSeen settled seen) → a + n ≤ length seen → into ≡ piece a n seen
    → IfSome x (λ f. f.lost ≡ false → into ≡ piece a n f.now)
seen_given settled a n seen into None on has le is = tt
seen_given settled a n seen into (Some f) on has le is = λ _. front_read a n seen into f (has on) le is

pub seen_joined : (settled : Bool) (a n : ℕ) (seen into new : List ℕ) (x : Option FileBytes) → a ≡ length seen → IfSome x (HasSeen settled seen) → IfSome x (λ f. f.lost ≡ false → into ≡ piece a n f.now) → new ≡ spliced seen a into
    → IfSome x (HasSeen settled new)
seen_joined settled a n seen into new None at has read is = tt
seen_joined settled a n seen into new (Some f) at has read is = λ on.
    let front = has on in
    front_joined n seen into new f front (read front.known ∙ ap (λ (k : ℕ). piece k n f.now) at) (is ∙ ap (λ (k : ℕ). spliced seen k into) at)

pub seen_written : (settled : Bool) (a : ℕ) (bytes seen new : List ℕ) (x y : Option FileBytes) → IfSome x (HasSeen settled seen) → IfBothTold x y (Writes a bytes true) → a ≤ length seen → new ≡ spliced seen a bytes → IfSome y (HasSeen settled new)
seen_written settled a bytes seen new None None has writes le is = tt
seen_written settled a bytes seen new None (Some g) has writes le is = absurd writes
seen_written settled a bytes seen new (Some f) None has writes le is = tt
seen_written settled a bytes seen new (Some f) (Some g) has writes le is = λ on. front_written a bytes seen new f g (has on) writes le is

pub seen_forgotten : (settled ok : Bool) (a : ℕ) (bytes seen : List ℕ) (x y : Option FileBytes) → IfSome x (HasSeen settled seen) → IfBothTold x y (Writes a bytes ok) → IfSome y (HasSeen settled [])
seen_forgotten settled ok a bytes seen None None has writes = tt
seen_forgotten settled ok a bytes seen None (Some g) has writes = absurd writes
seen_forgotten settled ok a bytes seen (Some f) None has writes = tt
seen_forgotten settled ok a bytes seen (Some f) (Some g) has writes = λ on. none_seen g (writes.lost ∙ (has on).known)

pub seen_cleared : (settled ok : Bool) (seen : List ℕ) (x y : Option FileBytes) → IfSome x (HasSeen settled seen) → IfBothTold x y (Clears ok) → IfSome y (HasSeen settled [])
seen_cleared settled ok seen None None has clears = tt
seen_cleared settled ok seen None (Some g) has clears = absurd clears
seen_cleared settled ok seen (Some f) None has clears = tt
seen_cleared settled ok seen (Some f) (Some g) has clears = λ on. none_seen g (clears.lost ∙ (has on).known)

pub seen_synced : (settled : Bool) (seen : List ℕ) (x y : Option FileBytes) → IfSome x (HasSeen settled seen) → IfBothTold x y (Syncs true) → IfSome y (HasSeen settled seen)
seen_synced settled seen None None has syncs = tt
seen_synced settled seen None (Some g) has syncs = absurd syncs
seen_synced settled seen (Some f) None has syncs = tt
seen_synced settled seen (Some f) (Some g) has syncs = λ on.
    let front = has on in
    let done = syncs.done refl front.known in
    record { known = done.2; rest = front.rest; whole = done.0 ∙ front.whole }
