-- operations of a flash in a file
use Rattle.std.proofs.Common.{◌≡◌, ◌≢◌, ◌≤◌, ℕ, zero, suc, ◌+◌, Bool, true, false, List, [], ◌∷◌, ◌++◌, length, take, drop, replicate, Option, Some, None, IfSome, refl, ap, sym, ◌∙◌, subst, inl, inr, arith, length-append, length-drop, true≢false}
use Rattle.std.specs.Prelude.{not}
use Rattle.std.specs.Int.Bits.{and_self}
use Rattle.std.proofs.lemmas.List.{length-take-le, length-replicate}
use Rattle.std.proofs.lemmas.Bool.{cases_Bool}
use Rattle.fls_model.proofs.Within.{within_program, within_erase}
use Rattle.fls_model.specs.Bytes.{piece, spliced, and_bytes, AreBytes, Grown}
use Rattle.fls_model.specs.Op.{Op, Program, Erase, MayLeave, after_op}
use Rattle.fls_model.specs.Told.{IfBothTold}
use Rattle.fls_files.specs.ByteFile.{FileBytes, Mixed, Settles, Writes, Syncs}
use Rattle.fls_files.specs.FileFlashInside.{Finds, IsReady, IsWritten, Stores, Operates}
use Rattle.fls_files.proofs.Mixtures.{mixed_within, mixed_new, mixed_old, mixed_again, mixed_both, mixed_length, mixed_same}

-- one step behind another, where both are told
pub both_then : (P Q R : FileBytes → FileBytes → Type 0) → ((a b c : FileBytes) → P a b → Q b c → R a c) → (x y z : Option FileBytes) → IfBothTold x y P → IfBothTold y z Q → IfBothTold x z R
both_then P Q R then None None None p q = tt
both_then P Q R then None None (Some c) p q = absurd q
both_then P Q R then None (Some b) z p q = absurd p
both_then P Q R then (Some a) None z p q = absurd p
both_then P Q R then (Some a) (Some b) None p q = absurd q
both_then P Q R then (Some a) (Some b) (Some c) p q = then a b c p q

pub both_so : (P R : FileBytes → FileBytes → Type 0) → ((a b : FileBytes) → P a b → R a b) → (x y : Option FileBytes) → IfBothTold x y P → IfBothTold x y R
both_so P R so None None p = tt
both_so P R so None (Some b) p = absurd p
both_so P R so (Some a) None p = absurd p
both_so P R so (Some a) (Some b) p = so a b p

pub both_same : (R : FileBytes → FileBytes → Type 0) → ((a : FileBytes) → R a a) → (x : Option FileBytes) → IfBothTold x x R
both_same R so None = tt
both_same R so (Some a) = so a

grown_refl : (xs : List ℕ) → Grown xs xs
grown_refl [] = tt
grown_refl (x ∷ xs) = (and_self x, λ h. h, grown_refl xs)

-- an operation may leave all as it was
may_stay : (op : Op) (bytes : List ℕ) → MayLeave op bytes bytes
may_stay (Program address page) bytes = (record { size = refl; front = refl; back = refl }, λ are. are)
may_stay (Erase address n) bytes = (record { size = refl; front = refl; back = refl }, grown_refl (piece address n bytes))

length-spliced : (a : ℕ) (old mid : List ℕ) → a + length mid ≤ length old → length (spliced old a mid) ≡ length old
length-spliced a old mid le =
    let at : length (take a old) ≡ a = length-take-le a old (omega arith) in
    simp (length-append, length-drop) (omega (arith, at))

-- A FILE THAT MAY BE LOST
-- one that is settled, or wasn't to be
finds : (lost lost' : Bool) (f g : FileBytes) → Settles (not lost') f g → Finds lost lost' f g
finds lost lost' f g settles = record {
  known = λ before now. (settles.done (ap not now)).1;
  same = λ is.
      let some = settles.some (ap length is) in
      (some.1, mixed_same f.now g.now (subst (λ (l : List ℕ). Mixed l f.now g.now) is some.0));
}

pub settled : (lost lost' : Bool) (x y : Option FileBytes) → IfBothTold x y (Settles (not lost')) → IfBothTold x y (Finds lost lost')
settled lost lost' x y settles = both_so (Settles (not lost')) (Finds lost lost') (λ f g s. finds lost lost' f g s) x y settles

found_so : (lost : Bool) (f : FileBytes) → Finds lost lost f f
found_so lost f = record { known = λ before now. before now; same = λ is. (is, refl) }

pub found_alike : (lost : Bool) (x : Option FileBytes) → IfBothTold x x (Finds lost lost)
found_alike lost x = both_same (Finds lost lost) (λ f. found_so lost f) x

ready_then : (lost lost' : Bool) (f g : FileBytes) → IsReady lost f → Finds lost lost' f g → IsReady lost' g
ready_then lost lost' f g ready found = ((found.same ready.0).0, λ now. found.known ready.1 now)

-- what is read of it
pub reads_done : (lost : Bool) (a : ℕ) (n : ℕ) (into : List ℕ) (x y : Option FileBytes) → IfBothTold x y (Finds lost false) → IfSome y (λ g. g.lost ≡ false → into ≡ piece a n g.now)
    → IfBothTold x y (λ f g. IsReady lost f → into ≡ piece a n g.now)
reads_done lost a n into None None found read = tt
reads_done lost a n into None (Some g) found read = absurd found
reads_done lost a n into (Some f) None found read = absurd found
reads_done lost a n into (Some f) (Some g) found read = λ ready. read (found.known ready.1 refl)

-- BYTES THAT ARE WRITTEN
-- a write that was done, and a sync
written_to : (a : ℕ) (bytes : List ℕ) (ok : Bool) (f g h : FileBytes) → Writes a bytes true f g → Syncs ok g h → IsWritten a bytes ok f h
written_to a bytes ok f g h writes syncs = record {
  done = λ e on inside. both e on inside;
  some = λ on still inside. elim (cases_Bool ok) [
    | inl e1 ↦
        let all = both e1 on inside in
        let new : Mixed f.now (spliced f.now a bytes) h.now = subst (λ (l : List ℕ). Mixed f.now (spliced f.now a bytes) l) (sym all.0) (mixed_new f.now (spliced f.now a bytes) (length-spliced a f.now bytes inside)) in
        (new, subst (λ (l : List ℕ). Mixed f.now (spliced f.now a bytes) l) (sym all.1) new)
    | inr e0 ↦
        let now : g.now ≡ spliced f.now a bytes = writes.done refl on (omega (arith, inside)) in
        let some : Mixed f.now (spliced f.now a bytes) g.disk = writes.disk on still inside in
        let as_long : length g.disk ≡ length g.now = mixed_length f.now (spliced f.now a bytes) g.disk some ∙ sym (ap length now ∙ length-spliced a f.now bytes inside) in
        let left = syncs.failed e0 (writes.lost ∙ on) as_long in
        let again : (l : List ℕ) → Mixed g.disk g.now l → Mixed f.now (spliced f.now a bytes) l = λ l mixed. mixed_again f.now (spliced f.now a bytes) g.disk l some (subst (λ (n : List ℕ). Mixed g.disk n l) now mixed) in
        (again h.now left.1, again h.disk left.0)
  ];
}
  where
    both : ok ≡ true → f.lost ≡ false → a + length bytes ≤ length f.now → (h.now ≡ spliced f.now a bytes) × (h.disk ≡ h.now) × (h.lost ≡ false)
    both e on inside =
        let now : g.now ≡ spliced f.now a bytes = writes.done refl on (omega (arith, inside)) in
        let all = syncs.done e (writes.lost ∙ on) in
        (all.0 ∙ now, all.1 ∙ sym all.0, all.2)

pub written : (a : ℕ) (bytes : List ℕ) (ok : Bool) (x y z : Option FileBytes) → IfBothTold x y (Writes a bytes true) → IfBothTold y z (Syncs ok) → IfBothTold x z (IsWritten a bytes ok)
written a bytes ok x y z = both_then (Writes a bytes true) (Syncs ok) (IsWritten a bytes ok) (λ f g h. written_to a bytes ok f g h) x y z

-- a write that failed
pub written_not : (a : ℕ) (bytes : List ℕ) (x y : Option FileBytes) → IfBothTold x y (Writes a bytes false) → IfBothTold x y (IsWritten a bytes false)
written_not a bytes x y writes = both_so (Writes a bytes false) (IsWritten a bytes false) (λ f g w. record {
  done = λ e on inside. absurd (true≢false (sym e));
  some = λ on still inside. (w.failed refl on inside, w.disk on still inside);
}) x y writes

-- BYTES THAT ARE STORED
-- in a file that stays lost
pub stored_not : (a : ℕ) (bytes : List ℕ) (lost lost' : Bool) (x y : Option FileBytes) → IfBothTold x y (Finds lost lost') → IfBothTold x y (Stores a bytes false lost lost')
stored_not a bytes lost lost' x y found = both_so (Finds lost lost') (Stores a bytes false lost lost') (λ f g is ready inside. record {
  now = subst (λ (l : List ℕ). Mixed f.now (spliced f.now a bytes) l) (sym (is.same ready.0).1) (mixed_old f.now (spliced f.now a bytes) (length-spliced a f.now bytes inside));
  done = λ e. absurd (true≢false (sym e));
  ready = ready_then lost lost' f g ready is;
}) x y found

-- in one that is found, where they are written
stored_now : (a : ℕ) (bytes : List ℕ) (lost : Bool) (f g h : FileBytes) → Finds lost false f g → IsWritten a bytes true g h → Stores a bytes true lost false f h
stored_now a bytes lost f g h found is ready inside =
    let now : g.now ≡ f.now = (found.same ready.0).1 in
    let all = is.done refl (found.known ready.1 refl) (subst (λ (l : List ℕ). a + length bytes ≤ length l) (sym now) inside) in
    let new : h.now ≡ spliced f.now a bytes = all.0 ∙ ap (λ (l : List ℕ). spliced l a bytes) now in
    record {
      now = subst (λ (l : List ℕ). Mixed f.now (spliced f.now a bytes) l) (sym new) (mixed_new f.now (spliced f.now a bytes) (length-spliced a f.now bytes inside));
      done = λ e. new;
      ready = (all.1, λ e. all.2);
    }

pub stored : (a : ℕ) (bytes : List ℕ) (lost : Bool) (x y z : Option FileBytes) → IfBothTold x y (Finds lost false) → IfBothTold y z (IsWritten a bytes true) → IfBothTold x z (Stores a bytes true lost false)
stored a bytes lost x y z = both_then (Finds lost false) (IsWritten a bytes true) (Stores a bytes true lost false) (λ f g h. stored_now a bytes lost f g h) x y z

-- or not wholly, and it is settled
stored_part : (a : ℕ) (bytes : List ℕ) (lost lost' : Bool) (f h i : FileBytes) → (IsReady lost f → a + length bytes ≤ length f.now → Mixed f.now (spliced f.now a bytes) h.now × Mixed f.now (spliced f.now a bytes) h.disk) → Settles (not lost') h i → Stores a bytes false lost lost' f i
stored_part a bytes lost lost' f h i parts settles ready inside =
    let part = parts ready inside in
    let as_long : length h.disk ≡ length h.now = mixed_length f.now (spliced f.now a bytes) h.disk part.1 ∙ sym (mixed_length f.now (spliced f.now a bytes) h.now part.0) in
    let some = settles.some as_long in
    record {
      now = mixed_both f.now (spliced f.now a bytes) h.disk h.now i.now part.1 part.0 some.0;
      done = λ e. absurd (true≢false (sym e));
      ready = (some.1, λ now. (settles.done (ap not now)).1);
    }

some_part : (a : ℕ) (bytes : List ℕ) (lost : Bool) (f g h : FileBytes) → Finds lost false f g → IsWritten a bytes false g h
    → IsReady lost f → a + length bytes ≤ length f.now → Mixed f.now (spliced f.now a bytes) h.now × Mixed f.now (spliced f.now a bytes) h.disk
some_part a bytes lost f g h found is ready inside =
    let now : g.now ≡ f.now = (found.same ready.0).1 in
    subst (λ (l : List ℕ). Mixed l (spliced l a bytes) h.now × Mixed l (spliced l a bytes) h.disk) now
    (is.some (found.known ready.1 refl) (found.same ready.0).0 (subst (λ (l : List ℕ). a + length bytes ≤ length l) (sym now) inside))

pub stored_again : (a : ℕ) (bytes : List ℕ) (lost lost' : Bool) (x y z w : Option FileBytes) → IfBothTold x y (Finds lost false) → IfBothTold y z (IsWritten a bytes false) → IfBothTold z w (Settles (not lost'))
    → IfBothTold x w (Stores a bytes false lost lost')
stored_again a bytes lost lost' x y z w found is settles =
    both_then (λ f h. IsReady lost f → a + length bytes ≤ length f.now → Mixed f.now (spliced f.now a bytes) h.now × Mixed f.now (spliced f.now a bytes) h.disk) (Settles (not lost')) (Stores a bytes false lost lost')
    (λ f h i parts s. stored_part a bytes lost lost' f h i parts s) x z w
    (both_then (Finds lost false) (IsWritten a bytes false) (λ f h. IsReady lost f → a + length bytes ≤ length f.now → Mixed f.now (spliced f.now a bytes) h.now × Mixed f.now (spliced f.now a bytes) h.disk)
    (λ f g h. some_part a bytes lost f g h) x y z found is) settles

-- OPERATIONS
operates : (op : Op) (a : ℕ) (bytes : List ℕ) (ok lost lost' : Bool) (f g : FileBytes) → a + length bytes ≤ length f.now → spliced f.now a bytes ≡ after_op op f.now → MayLeave op f.now (after_op op f.now) → Stores a bytes ok lost lost' f g → Operates op ok lost lost' f g
operates op a bytes ok lost lost' f g inside is may stores ready =
    let has = stores ready inside in
    record {
      within = mixed_within op f.now (spliced f.now a bytes) g.now (subst (λ (l : List ℕ). MayLeave op f.now l) (sym is) may) has.now;
      done = λ e. has.done e ∙ is;
      ready = has.ready;
    }

-- nothing was done
pub operates_not : (op : Op) (lost lost' : Bool) (f g : FileBytes) → Finds lost lost' f g → Operates op false lost lost' f g
operates_not op lost lost' f g found ready = record {
  within = subst (λ (l : List ℕ). MayLeave op f.now l) (sym (found.same ready.0).1) (may_stay op f.now);
  done = λ e. absurd (true≢false (sym e));
  ready = ready_then lost lost' f g ready found;
}

-- A PROGRAM
length-and_bytes : (old page : List ℕ) → length page ≡ length old → length (and_bytes old page) ≡ length page
length-and_bytes [] [] is = refl
length-and_bytes (x ∷ xs) [] is = absurd (omega arith)
length-and_bytes [] (y ∷ ys) is = absurd (omega arith)
length-and_bytes (x ∷ xs) (y ∷ ys) is = ap suc (length-and_bytes xs ys (omega arith))

append_bytes : (xs ys : List ℕ) → AreBytes xs → AreBytes ys → AreBytes (xs ++ ys)
append_bytes [] ys p q k = q k
append_bytes (x ∷ xs) ys p q zero = p 0
append_bytes (x ∷ xs) ys p q (suc k) = append_bytes xs ys (λ i. p (suc i)) q k

take_bytes : (n : ℕ) (xs : List ℕ) → AreBytes xs → AreBytes (take n xs)
take_bytes zero xs p k = omega arith
take_bytes (suc n) [] p k = omega arith
take_bytes (suc n) (x ∷ xs) p zero = p 0
take_bytes (suc n) (x ∷ xs) p (suc k) = take_bytes n xs (λ i. p (suc i)) k

drop_bytes : (n : ℕ) (xs : List ℕ) → AreBytes xs → AreBytes (drop n xs)
drop_bytes zero xs p = p
drop_bytes (suc n) [] p = p
drop_bytes (suc n) (x ∷ xs) p = drop_bytes n xs (λ i. p (suc i))

spliced_bytes : (a : ℕ) (old mid : List ℕ) → AreBytes old → AreBytes mid → AreBytes (spliced old a mid)
spliced_bytes a old mid p q = append_bytes (take a old ++ mid) (drop (a + length mid) old) (append_bytes (take a old) mid (take_bytes a old p) q) (drop_bytes (a + length mid) old p)

programs_now : (a : ℕ) (page bytes : List ℕ) (ok lost lost' : Bool) (f g : FileBytes)
    → bytes ≡ and_bytes (piece a (length page) f.now) page → AreBytes bytes → Stores a bytes ok lost lost' f g → AreBytes f.now → a + length page ≤ length f.now → Operates (Program a page) ok lost lost' f g
programs_now a page bytes ok lost lost' f g is small stored old inside =
    let n : length (piece a (length page) f.now) ≡ length page = length-take-le (length page) (drop a f.now) (omega (arith, length-drop a f.now)) in
    let as_long : length bytes ≡ length page = ap length is ∙ length-and_bytes (piece a (length page) f.now) page (sym n) in
    let after : spliced f.now a bytes ≡ after_op (Program a page) f.now = ap (λ (l : List ℕ). spliced f.now a l) is in
    operates (Program a page) a bytes ok lost lost' f g (omega (arith, as_long)) after
    (within_program a page f.now (after_op (Program a page) f.now) refl inside (λ _. subst (λ (l : List ℕ). AreBytes l) after (spliced_bytes a f.now bytes old small))) stored

-- of a page that was read
programs_found : (a : ℕ) (page into bytes : List ℕ) (ok lost lost1 lost' : Bool) (f g h : FileBytes) → Finds lost lost1 f g → (IsReady lost f → into ≡ piece a (length page) g.now) → bytes ≡ and_bytes into page → AreBytes bytes → Stores a bytes ok lost1 lost' g h
    → AreBytes f.now → a + length page ≤ length f.now → Operates (Program a page) ok lost lost' f h
programs_found a page into bytes ok lost lost1 lost' f g h found read is small stored old inside ready =
    let now : g.now ≡ f.now = (found.same ready.0).1 in
    let on = programs_now a page bytes ok lost1 lost' g h (is ∙ ap (λ (l : List ℕ). and_bytes l page) (read ready)) small stored
    (subst (λ (l : List ℕ). AreBytes l) (sym now) old) (subst (λ (l : List ℕ). a + length page ≤ length l) (sym now) inside) (ready_then lost lost1 f g ready found) in
    record {
      within = subst (λ (l : List ℕ). MayLeave (Program a page) l h.now) now on.within;
      done = λ e. on.done e ∙ ap (after_op (Program a page)) now;
      ready = on.ready;
    }

pub programs_page : (x y z : Option FileBytes) (a : ℕ) (page into bytes : List ℕ) (ok lost lost1 lost' : Bool)
    → IfBothTold x y (Finds lost lost1) → IfBothTold x y (λ f g. IsReady lost f → into ≡ piece a (length page) g.now) → bytes ≡ and_bytes into page → AreBytes bytes → IfBothTold y z (Stores a bytes ok lost1 lost')
    → IfBothTold x z (λ f g. AreBytes f.now → a + length page ≤ length f.now → Operates (Program a page) ok lost lost' f g)
programs_page None None None a page into bytes ok lost lost1 lost' found read is small stored = tt
programs_page None None (Some h) a page into bytes ok lost lost1 lost' found read is small stored = absurd stored
programs_page None (Some g) z a page into bytes ok lost lost1 lost' found read is small stored = absurd found
programs_page (Some f) None z a page into bytes ok lost lost1 lost' found read is small stored = absurd found
programs_page (Some f) (Some g) None a page into bytes ok lost lost1 lost' found read is small stored = absurd stored
programs_page (Some f) (Some g) (Some h) a page into bytes ok lost lost1 lost' found read is small stored = λ old inside. programs_found a page into bytes ok lost lost1 lost' f g h found read is small stored old inside

-- AN ERASE
erases_now : (a n : ℕ) (bytes : List ℕ) (ok lost lost' : Bool) (f g : FileBytes) → bytes ≡ replicate n 255 → Stores a bytes ok lost lost' f g → AreBytes f.now → a + n ≤ length f.now → Operates (Erase a n) ok lost lost' f g
erases_now a n bytes ok lost lost' f g is stored old inside =
    operates (Erase a n) a bytes ok lost lost' f g (omega (arith, ap length is ∙ length-replicate n 255)) (ap (λ (l : List ℕ). spliced f.now a l) is)
    (within_erase a n f.now (after_op (Erase a n) f.now) refl inside old) stored

pub erases_sector : (h h' : Option FileBytes) (a n : ℕ) (bytes : List ℕ) (ok lost lost' : Bool) → bytes ≡ replicate n 255 → IfBothTold h h' (Stores a bytes ok lost lost')
    → IfBothTold h h' (λ f g. AreBytes f.now → a + n ≤ length f.now → Operates (Erase a n) ok lost lost' f g)
erases_sector h h' a n bytes ok lost lost' is stored = both_so (Stores a bytes ok lost lost') (λ f g. AreBytes f.now → a + n ≤ length f.now → Operates (Erase a n) ok lost lost' f g) (λ f g s old inside. erases_now a n bytes ok lost lost' f g is s old inside) h h' stored

-- an operation of which nothing was done
pub operated_not : (op : Op) (lost lost' : Bool) (x y : Option FileBytes) → IfBothTold x y (Finds lost lost') → IfBothTold x y (λ f g. Operates op false lost lost' f g)
operated_not op lost lost' x y found = both_so (Finds lost lost') (λ f g. Operates op false lost lost' f g) (λ f g is. operates_not op lost lost' f g is) x y found

pub operates_none : (op : Op) (n : ℕ) (lost lost' : Bool) (x y : Option FileBytes) → IfBothTold x y (Finds lost lost') → IfBothTold x y (λ f g. AreBytes f.now → n ≤ length f.now → Operates op false lost lost' f g)
operates_none op n lost lost' x y found = both_so (Finds lost lost') (λ f g. AreBytes f.now → n ≤ length f.now → Operates op false lost lost' f g) (λ f g is old inside. operates_not op lost lost' f g is) x y found

-- A FILE IN MEMORY
pub writes : (a : ℕ) (bytes : List ℕ) (f g : FileBytes) → g.now ≡ spliced f.now a bytes → g.disk ≡ f.disk → g.lost ≡ f.lost → Writes a bytes true f g
writes a bytes f g is same lost = record {
  done = λ e on inside. is;
  failed = λ e on inside. absurd (true≢false e);
  disk = λ on e inside. subst (λ (l : List ℕ). Mixed f.now (spliced f.now a bytes) l) (sym (same ∙ e)) (mixed_old f.now (spliced f.now a bytes) (length-spliced a f.now bytes inside));
  lost = lost;
}

pub writes_not : (a : ℕ) (bytes : List ℕ) (f g : FileBytes) → g.now ≡ f.now → g.disk ≡ f.disk → g.lost ≡ f.lost → Writes a bytes false f g
writes_not a bytes f g is same lost = record {
  done = λ e on inside. absurd (true≢false (sym e));
  failed = λ e on inside. subst (λ (l : List ℕ). Mixed f.now (spliced f.now a bytes) l) (sym is) (mixed_old f.now (spliced f.now a bytes) (length-spliced a f.now bytes inside));
  disk = λ on e inside. subst (λ (l : List ℕ). Mixed f.now (spliced f.now a bytes) l) (sym (same ∙ e)) (mixed_old f.now (spliced f.now a bytes) (length-spliced a f.now bytes inside));
  lost = lost;
}

pub syncs_not : (f : FileBytes) → Syncs false f f
syncs_not f = record {
  done = λ e on. absurd (true≢false (sym e));
  failed = λ e on as_long. (mixed_old f.disk f.now (sym as_long), mixed_new f.disk f.now (sym as_long));
}

-- where it couldn't be settled it has another size than its disk
pub settles_not : (f : FileBytes) → length f.disk ≢ length f.now → Settles false f f
settles_not f other = record {
  some = λ as_long. absurd (other as_long);
  done = λ e. absurd (true≢false (sym e));
  brought = λ e on. absurd (true≢false (sym e));
}

pub settles : (f g : FileBytes) → g.now ≡ f.now → g.disk ≡ f.now → g.lost ≡ false → Settles true f g
settles f g now disk lost = record {
  some = λ as_long. (subst (λ (l : List ℕ). Mixed f.disk f.now l) (sym now) (mixed_new f.disk f.now (sym as_long)), disk ∙ sym now);
  done = λ e. (disk ∙ sym now, lost);
  brought = λ e on. now;
}
