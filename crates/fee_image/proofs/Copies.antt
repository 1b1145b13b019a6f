-- Copied flags, and the room of the copies.
use Rattle.std.specs.Prelude.{◌==◌, ◌&&◌, ◌||◌, not, if◌then◌else◌}
use Rattle.std.proofs.Common.{◌≡◌, inl, inr, ◌<◌, ◌≤◌, ℕ, zero, suc, ◌+◌, Bool, true, false, IsTrue, List, [], ◌∷◌, length, map, Option, Some, None, refl, sym, ap, ◌∙◌, subst, arith, eq-eqb}
use Rattle.std.proofs.lemmas.Bool.{cases_eq, cases_Bool, false≢true, ne_eqb}
use Rattle.std.proofs.lemmas.Bool.Decides.{nat_tests}
use Rattle.nv_base.specs.Pages.{record_pages_of}
use Rattle.fee_format.specs.declared.rec_head.RecHead.{RecHead}
use Rattle.fee_image.specs.Found.{fits}
use Rattle.nv_base.specs.Held.{Held, never_written}
use Rattle.fee_image.specs.May.{IsAmong, IsWider, held_written}
use Rattle.fee_image.specs.Copies.{Flag, is_done, shown_by, by_flag, copied_of, cleared, marked, Each, DoneIsWhole, ClearMayBeErased, ClearingWidens, SettlingWidens, Copies, MarkingHolds, need, AreFlags, IsClearOf, AppendsKeepRoom, CopiesHaveRoom}

-- the target shows of a number
abbrev shown : Bool → Held → Option (List Held)
shown d m = if d then Some (m ∷ []) else None

-- FACTS OF FLAGS
pick : (c : Bool) (x y u v : Option (List Held)) (n : Held) → (IsAmong x n → IsAmong u n) → (IsAmong y n → IsAmong v n) → IsAmong (if c then x else y) n → IsAmong (if c then u else v) n
pick true x y u v n this rest among = this among
pick false x y u v n this rest among = rest among

-- a change of each flag that keeps its number and length
module _ (P Q : Flag → Option (List Held)) (u : Flag → Flag) (keeps : (f : Flag) → ((u f).number ≡ f.number) × ((u f).length ≡ f.length)) where
  more : (fs : List Flag) → Each (λ f. (m : Held) → IsAmong (P f) m → IsAmong (Q (u f)) m) fs → IsWider (by_flag P fs) (by_flag Q (map u fs))
  more [] all number length m among = tt
  more (f ∷ fs) all number length m among =
      let same : (((u f).number == number) && ((u f).length == length)) ≡ ((f.number == number) && (f.length == length)) = λ i. ((keeps f).0 i == number) && ((keeps f).1 i == length) in
      subst (λ (c : Bool). IsAmong (if c then Q (u f) else by_flag Q (map u fs) number length) m) (sym same)
      (pick ((f.number == number) && (f.length == length)) (P f) (by_flag P fs number length) (Q (u f)) (by_flag Q (map u fs) number length) m (all.0 m) (more fs all.1 number length m) among)

each_of : (P : Flag → Type 0) → ((f : Flag) → P f) → (fs : List Flag) → Each P fs
each_of P all [] = tt
each_of P all (f ∷ fs) = (all f, each_of P all fs)

each_map : (P Q : Flag → Type 0) → ((f : Flag) → P f → Q f) → (fs : List Flag) → Each P fs → Each Q fs
each_map P Q all [] has = tt
each_map P Q all (f ∷ fs) has = (all f has.0, each_map P Q all fs has.1)

map_id : (fs : List Flag) → map (λ f. f) fs ≡ fs
map_id [] = refl
map_id (f ∷ fs) = ap (λ (l : List Flag). f ∷ l) (map_id fs)

-- a mark shown alone is the settled one
shown_settled : (d : Bool) (m : Held) (doubts : List Held) (n : Held) → IsTrue d → IsAmong (shown d m) n → IsAmong (Some (m ∷ doubts)) n
shown_settled false m doubts n is among = absurd (false≢true is)
shown_settled true m doubts n is (zero, lt, e) = (0, (let l : 0 < suc (length doubts) = omega arith in l), e)
shown_settled true m doubts n is (suc j, lt, e) = absurd (omega arith)

pub done_is_whole : DoneIsWhole
done_is_whole fs doubts all =
    let P : Flag → Option (List Held) = λ f. shown (is_done f) (shown_by f) in
    let Q : Flag → Option (List Held) = λ f. Some (shown_by f ∷ doubts f.number) in
    subst (λ (l : List Flag). IsWider (by_flag P fs) (by_flag Q l)) (map_id fs)
    (more P Q (λ f. f) (λ f. (refl, refl)) fs (each_map (λ f. IsTrue (is_done f)) (λ f. (m : Held) → IsAmong (P f) m → IsAmong (Q f) m) (λ f is n among. shown_settled (is_done f) (shown_by f) (doubts f.number) n is among) fs all))

clear_one : (c d w : Bool) (m : Held) (rest : Option (List Held)) → d ≡ false → IsAmong rest never_written → IsAmong (if c then shown (d || not w) (if w then m else never_written) else rest) never_written
clear_one false d w m rest clear is = is
clear_one true true w m rest clear is = absurd (false≢true (sym clear))
clear_one true false true m rest clear is = tt
clear_one true false false m rest clear is = (0, (let l : 0 < 1 = omega arith in l), refl)

pub clear_may_be_erased : ClearMayBeErased
clear_may_be_erased [] all number length = tt
clear_may_be_erased (f ∷ fs) all number length = clear_one ((f.number == number) && (f.length == length)) f.copied f.written f.settled (copied_of fs number length) all.0 (clear_may_be_erased fs all.1 number length)

-- CHANGES
keeps_cleared : (number : ℕ) (f : Flag) (b : Bool) → ((if b then record f { copied = false } else f).number ≡ f.number) × ((if b then record f { copied = false } else f).length ≡ f.length)
keeps_cleared number f true = (refl, refl)
keeps_cleared number f false = (refl, refl)

fewer : (c w : Bool) (m n : Held) → IsAmong (shown (c || not w) m) n → IsAmong (shown (not w) m) n
fewer c true m n among = tt
fewer true false m n among = among
fewer false false m n among = among

clears : (f : Flag) (b : Bool) (n : Held) → IsAmong (shown (is_done f) (shown_by f)) n
    → IsAmong (shown (is_done (if b then record f { copied = false } else f)) (shown_by (if b then record f { copied = false } else f))) n
clears f true n among = fewer f.copied f.written (shown_by f) n among
clears f false n among = among

pub clearing_widens : ClearingWidens
clearing_widens fs number =
    let P : Flag → Option (List Held) = λ f. shown (is_done f) (shown_by f) in
    more P P (λ f. if f.number == number then record f { copied = false } else f) (λ f. keeps_cleared number f (f.number == number)) fs
    (each_of _ (λ f n among. clears f (f.number == number) n among) fs)

keeps_settled : (m : Held) (f : Flag) (b : Bool) → ((if b then record f { written = true; settled = m } else f).number ≡ f.number) × ((if b then record f { written = true; settled = m } else f).length ≡ f.length)
keeps_settled m f true = (refl, refl)
keeps_settled m f false = (refl, refl)

unshown : (c : Bool) (m n : Held) → c ≡ false → IsAmong (shown (c || false) m) n
unshown true m n clear = absurd (false≢true (sym clear))
unshown false m n clear = tt

settles : (f : Flag) (m : Held) (b : Bool) (n : Held) → (IsTrue b → f.copied ≡ false) → IsAmong (shown (is_done f) (shown_by f)) n
    → IsAmong (shown (is_done (if b then record f { written = true; settled = m } else f)) (shown_by (if b then record f { written = true; settled = m } else f))) n
settles f m true n clear among = unshown f.copied m n (clear refl)
settles f m false n clear among = among

clear_of : (number : ℕ) (f : Flag) (b : Bool) → (f.number == number) ≡ b → IsTrue ((if b then record f { copied = false } else f).number == number) → (if b then record f { copied = false } else f).copied ≡ false
clear_of number f true is same = refl
clear_of number f false is same = absurd (false≢true (sym is ∙ same))

cleared_each : (number : ℕ) (fs : List Flag) → Each (λ f. IsTrue (f.number == number) → f.copied ≡ false) (cleared number fs)
cleared_each number [] = tt
cleared_each number (f ∷ fs) = (clear_of number f (f.number == number) refl, cleared_each number fs)

pub settling_widens : SettlingWidens
settling_widens fs number m =
    let P : Flag → Option (List Held) = λ f. shown (is_done f) (shown_by f) in
    more P P (λ f. if f.number == number then record f { written = true; settled = m } else f) (λ f. keeps_settled m f (f.number == number)) (cleared number fs)
    (each_map _ _ (λ f clear n among. settles f m (f.number == number) n clear among) (cleared number fs) (cleared_each number fs))

-- A COPY IS COMMITTED
same_entry : (f : Flag) (a l : ℕ) → ((f.number == a) && (f.length == l)) ≡ true → (f.number ≡ a) × (f.length ≡ l)
same_entry f a l is = (grind (arith, nat_tests), grind (arith, nat_tests))

other_number : (f : Flag) (h : RecHead) → (f.number == h.number.0) ≡ false → fits f.number f.length h ≡ false
other_number f h differs = grind (arith, nat_tests)

keeps_marked : (f : Flag) (b : Bool) → ((if b then record f { copied = true } else f).number ≡ f.number) × ((if b then record f { copied = true } else f).length ≡ f.length)
keeps_marked f true = (refl, refl)
keeps_marked f false = (refl, refl)

-- of the number's own flag
marks : (f : Flag) (h : RecHead) (body : List ℕ) (b : Bool) (n : Held) → (f.number == h.number.0) ≡ b → Copies h body f
    → IsAmong (if fits f.number f.length h then Some (held_written h body ∷ []) else shown (is_done f) (shown_by f)) n
    → IsAmong (shown (is_done (if b then record f { copied = true } else f)) (shown_by (if b then record f { copied = true } else f))) n
marks f h body true n is copies among =
    let both = copies is in
    let here : IsAmong (Some (held_written h body ∷ [])) n = subst (λ (c : Bool). IsAmong (if c then Some (held_written h body ∷ []) else shown (is_done f) (shown_by f)) n) both.0 among in
    rw both.1 (subst (λ (m : Held). IsAmong (Some (m ∷ [])) n) (sym both.2) here)
marks f h body false n is copies among = subst (λ (c : Bool). IsAmong (if c then Some (held_written h body ∷ []) else shown (is_done f) (shown_by f)) n) (other_number f h is) among

pub marking_holds : MarkingHolds
marking_holds [] h body all number length n among = tt
marking_holds (f ∷ fs) h body all number length n among =
    let b = f.number == h.number.0 in
    let g : Flag = if b then record f { copied = true } else f in
    let c = (f.number == number) && (f.length == length) in
    let keeps = keeps_marked f b in
    let same : ((g.number == number) && (g.length == length)) ≡ c = λ i. (keeps.0 i == number) && (keeps.1 i == length) in
    let Goal : Bool → Type 0 = λ (d : Bool). IsAmong (if d then shown (is_done g) (shown_by g) else copied_of (marked h.number.0 fs) number length) n in
    let Given : Bool → Type 0 = λ (d : Bool). IsAmong (if fits number length h then Some (held_written h body ∷ []) else (if d then shown (is_done f) (shown_by f) else copied_of fs number length)) n in
    subst Goal (sym same) (elim (cases_Bool c) [
      | inl t ↦
          let at = same_entry f number length t in
          subst Goal (sym t) (marks f h body b n refl all.0
          (subst (λ (a : ℕ). IsAmong (if fits a f.length h then Some (held_written h body ∷ []) else shown (is_done f) (shown_by f)) n) (sym at.0)
          (subst (λ (x : ℕ). IsAmong (if fits number x h then Some (held_written h body ∷ []) else shown (is_done f) (shown_by f)) n) (sym at.1) (subst Given t among))))
      | inr no_entry ↦ subst Goal (sym no_entry) (marking_holds fs h body all.1 number length n (subst Given no_entry among))
    ])

-- ROOM
if_none : (b : Bool) (n : ℕ) → b ≡ false → (if b then 0 else n) ≡ n
if_none b n is = subst (λ (x : Bool). (if x then 0 else n) ≡ n) (sym is) refl

-- numbers above another one keep their flags
above_clear : (p low number : ℕ) (fs : List Flag) → number ≤ low → AreFlags low fs → need p (cleared number fs) ≡ need p fs
above_clear p low number [] le all = refl
above_clear p low number (f ∷ fs) le all =
    let rest = above_clear p f.number number fs (omega (arith, all.0)) all.1 in
    rw (ne_eqb f.number number (λ e. omega (arith, all.0))) (ap (λ (n : ℕ). (if f.copied then 0 else record_pages_of f.length p) + n) rest)

clearing : (p low number length : ℕ) (fs : List Flag) → AreFlags low fs → Each (λ f. f.number ≡ number → f.length ≡ length) fs → need p (cleared number fs) ≤ need p fs + record_pages_of length p
clearing p low number length [] all has = omega arith
clearing p low number length (f ∷ fs) all has = elim (cases_eq f.number number) [
  | inl same ↦
      let rest = above_clear p f.number number fs (omega arith) all.1 in
      let size : record_pages_of f.length p ≡ record_pages_of length p = ap (λ (n : ℕ). record_pages_of n p) (has.0 same) in
      rw (eq-eqb f.number number same) (omega (arith, rest, size))
  | inr other ↦
      let rest = clearing p f.number number length fs all.1 has.1 in
      rw (ne_eqb f.number number other) (omega (arith, rest))
]

pub appends_keep_room : AppendsKeepRoom
appends_keep_room p pages end free low number length fs all has room fits = omega (arith, clearing p low number length fs all has)

mark_le : (p : ℕ) (f : Flag) (b : Bool) → (if (if b then record f { copied = true } else f).copied then 0 else record_pages_of (if b then record f { copied = true } else f).length p) ≤ (if f.copied then 0 else record_pages_of f.length p)
mark_le p f true = omega arith
mark_le p f false = omega arith

marking_le : (p number : ℕ) (fs : List Flag) → need p (marked number fs) ≤ need p fs
marking_le p number [] = omega arith
marking_le p number (f ∷ fs) = omega (arith, mark_le p f (f.number == number), marking_le p number fs)

marking : (p number length : ℕ) (fs : List Flag) → IsClearOf number length fs → need p (marked number fs) + record_pages_of length p ≤ need p fs
marking p number length [] none = absurd none
marking p number length (f ∷ fs) (inl (same, size, clear)) =
    let pages : record_pages_of f.length p ≡ record_pages_of length p = ap (λ (n : ℕ). record_pages_of n p) size in
    let was : (if f.copied then 0 else record_pages_of f.length p) ≡ record_pages_of f.length p = if_none f.copied (record_pages_of f.length p) clear in
    rw (eq-eqb f.number number same) (omega (arith, pages, was, marking_le p number fs))
marking p number length (f ∷ fs) (inr later) = omega (arith, mark_le p f (f.number == number), marking p number length fs later)

pub copies_have_room : CopiesHaveRoom
copies_have_room p pages end free number length fs clear room =
    let less = marking p number length fs clear in
    (omega (arith, less), omega (arith, less))
