-- Copies of blocks by their mirrors.
use Rattle.std.proofs.Common.{◌≡◌, ℕ, zero, suc, ◌+◌, ◌≤◌, List, [], ◌∷◌, ◌++◌, length, map, get_or, slice_set, Option, Some, None, option_map, IfSome, refl, sym, ap, ◌∙◌, subst, arith, length-append}
use Rattle.ram_blocks.specs.Told.{Synchronized, IsSynchronized, refusals_by, refusals_of, to_refuse_by, told_at, handed_by}
use Rattle.ram_blocks.specs.Copies.{NoneIsRefused, changed, handed_over, next_number}
use Rattle.ram_mirrors.specs.declared.view.Store.{Store}
use Rattle.ram_mirrors.specs.Stores.{Contents, store_number, store_of}
use lib.ListN.{get_elem?}
use Rattle.atomic_table.proofs.Lists.{at_last}
use Rattle.ram_mirrors_sync.specs.Ends.{Nothing, EndValue, IsTaken, HasShown, GoesOn, LooksAscend, CopiesEndOut, CopiesEndIn, last_of, told_of}
use Rattle.ram_mirrors_sync.specs.Blocks.{IsStore, WasShown, HasLooked, EndGoesOn, EndsGoOn, LooksGoOn, EndList, end_at, told_by}

-- the last of contents with one more
last_more : (xs : Contents Nothing) (x : Store Nothing) (last : List ℕ) → last_of (xs ++ x ∷ []) last ≡ x.content
last_more [] x last = refl
last_more (y ∷ ys) x last = last_more ys x y.content

next_store : (n : ℕ) → store_number (n + 1) ≡ next_number (store_number n)
next_store n = omega arith

-- where there is no end, no block is synchronized
no_end : (N : Type 0) (i n : ℕ) (X : Type 0) → IsSynchronized (map {A = Option (EndValue N)} told_by []) i n → X
no_end N i n X e = cc

module _ {N : Type 0} where
  -- an end whose end tells the same takes the place of one
  pub told_same : (xs : EndList N) (i : ℕ) (end new : EndValue N) → end_at xs i ≡ Some end → told_of new ≡ told_of end → map told_by (slice_set xs i (Some new)) ≡ map told_by xs
  told_same [] i end new is same = cc
  told_same (x ∷ xs) zero end new is same = ap (λ (t : Option Synchronized). t ∷ map told_by xs) (ap Some same ∙ ap told_by (sym is))
  told_same (x ∷ xs) (suc i) end new is same = ap (λ (ts : List (Option Synchronized)). told_by x ∷ ts) (told_same xs i end new is same)

  -- what was taken stays so where a content is handed over
  pub in_stores_stay : (old new : EndValue N) (n : ℕ) (content : List ℕ) → CopiesEndIn old n content new → (m : ℕ) (y : List ℕ) → IsTaken old m y → IsTaken new m y
  in_stores_stay old new n content is m y taken = subst (λ (e : EndValue N). IsTaken e m y) (sym is.stored) taken

  -- WHAT LOOKS SHOWED
  -- what holds of the new end holds at its place
  held_now : (P : EndValue N → Type 0) (xs : EndList N) (i : ℕ) (end new : EndValue N) → end_at xs i ≡ Some end → P new → IfSome (end_at (slice_set xs i (Some new)) i) P
  held_now P [] i end new is now = cc
  held_now P (y ∷ ys) zero end new is now = now
  held_now P (y ∷ ys) (suc i) end new is now = held_now P ys i end new is now

  -- what holds of a block's end holds of the one in its place
  held_on : (P : EndValue N → Type 0) (xs : EndList N) (i : ℕ) (end new : EndValue N) → end_at xs i ≡ Some end → (P end → P new)
      → (b : ℕ) → IfSome (end_at xs b) P → IfSome (end_at (slice_set xs i (Some new)) b) P
  held_on P [] i end new is on b h = cc
  held_on P (y ∷ ys) zero end new is on zero h = on (subst (λ (o : Option (EndValue N)). IfSome o P) is h)
  held_on P (y ∷ ys) zero end new is on (suc b) h = h
  held_on P (y ∷ ys) (suc i) end new is on zero h = h
  held_on P (y ∷ ys) (suc i) end new is on (suc b) h = held_on P ys i end new is on b h

  pub in_goes_on : (old new : EndValue N) (n : ℕ) (content : List ℕ) → CopiesEndIn old n content new → GoesOn old new
  in_goes_on old new n content is = record {
    shown = λ i k at. ap (λ (e : EndValue N). get_elem? e.up.all_shown i) is.stored ∙ at;
    longer = omega (arith, ap (λ (e : EndValue N). length e.up.all_shown) is.stored);
    later = omega (arith, ap (λ (e : EndValue N). e.up.shown) is.stored);
    took = λ i p at. ap (λ (e : EndValue N). get_elem? e.up.got i) is.stored ∙ at;
    first = ap (λ (e : EndValue N). e.first) is.stored;
  }

  -- a copy out gives what its look showed
  pub out_shows : (old new : EndValue N) (n : ℕ) (content : List ℕ) → CopiesEndOut old n content new → HasShown old new n
  out_shows old new n content is =
      let (more, shows) = is.shows in (
        length (old.up.all_shown ++ more),
        new.up.shown,
        omega (arith, length-append old.up.all_shown more),
        ap (λ (l : List ℕ). get_elem? l (length (old.up.all_shown ++ more))) shows
            ∙ at_last (old.up.all_shown ++ more) new.up.shown (length (old.up.all_shown ++ more)) refl,
        is.shown,
        is.later,
        omega arith,
      )

  -- where it stands, the end is the one
  at_now : (xs : EndList N) (i : ℕ) (end new : EndValue N) → end_at xs i ≡ Some end → end_at (slice_set xs i (Some new)) i ≡ Some new
  at_now [] i end new is = cc
  at_now (y ∷ ys) zero end new is = refl
  at_now (y ∷ ys) (suc i) end new is = at_now ys i end new is

  pub looked_now : (xs : EndList N) (i : ℕ) (end new : EndValue N) (n : ℕ) → end_at xs i ≡ Some end → HasShown end new n → HasLooked xs (slice_set xs i (Some new)) i n
  looked_now xs i end new n is shown =
      subst (λ (o : Option (EndValue N)). WasShown o (end_at (slice_set xs i (Some new)) i) n) (sym is)
      (subst (λ (o : Option (EndValue N)). WasShown (Some end) o n) (sym (at_now xs i end new is)) shown)

  -- what is taken now is a store
  pub store_now : (xs : EndList N) (i : ℕ) (end new : EndValue N) (n : ℕ) (x : List ℕ) → end_at xs i ≡ Some end → IsTaken new n x → IsStore (slice_set xs i (Some new)) i n x
  store_now xs i end new n x is taken = held_now (λ l. IsTaken l n x) xs i end new is taken

  -- LOOKS OF AN END
  shown_later : (since old new : EndValue N) (n : ℕ) → GoesOn old new → HasShown since old n → HasShown since new n
  shown_later since old new n on (i, k, from, at, is, low, high) = (i, k, from, on.shown i k at, is, low, omega (arith, high, on.later))

  shown_earlier : (old new until : EndValue N) (n : ℕ) → GoesOn old new → HasShown new until n → HasShown old until n
  shown_earlier old new until n on (i, k, from, at, is, low, high) = (i, k, omega (arith, from, on.longer), at, is, omega (arith, low, on.later), high)

  ascend : (a b c : EndValue N) (n m : ℕ) → HasShown a b n → HasShown b c m → n ≤ m
  ascend a b c n m (i, k, from, at, is, low, high) (j, l, after, there, shown, under, over) = omega (arith, is, shown, high, under)

  goes_on_itself : (e : EndValue N) → GoesOn e e
  goes_on_itself e = record { shown = λ i k at. at; longer = omega arith; later = omega arith; took = λ i p at. at; first = refl }

  goes_further : (a b c : EndValue N) → GoesOn a b → GoesOn b c → GoesOn a c
  goes_further a b c first second = record {
    shown = λ i k at. second.shown i k (first.shown i k at);
    longer = omega (arith, first.longer, second.longer);
    later = omega (arith, first.later, second.later);
    took = λ i p at. second.took i p (first.took i p at);
    first = second.first ∙ first.first;
  }

  -- OF A BLOCK
  by_itself : (o : Option (EndValue N)) → EndGoesOn o o
  by_itself None = tt
  by_itself (Some e) = goes_on_itself e

  by_further : (a b c : Option (EndValue N)) → EndGoesOn a b → EndGoesOn b c → EndGoesOn a c
  by_further None None None first second = tt
  by_further (Some a) (Some b) (Some c) first second = goes_further a b c first second
  by_further None (Some b) c first second = absurd first
  by_further (Some a) None c first second = absurd first
  by_further None None (Some c) first second = absurd second
  by_further (Some a) (Some b) None first second = absurd second

  by_later : (a b c : Option (EndValue N)) (n : ℕ) → WasShown a b n → EndGoesOn b c → WasShown a c n
  by_later (Some a) (Some b) (Some c) n shown on = shown_later a b c n on shown
  by_later (Some a) (Some b) None n shown on = absurd on
  by_later (Some a) None c n shown on = absurd shown
  by_later None b c n shown on = absurd shown

  by_earlier : (a b c : Option (EndValue N)) (n : ℕ) → EndGoesOn a b → WasShown b c n → WasShown a c n
  by_earlier (Some a) (Some b) (Some c) n on shown = shown_earlier a b c n on shown
  by_earlier None (Some b) c n on shown = absurd on
  by_earlier a (Some b) None n on shown = absurd shown
  by_earlier a None c n on shown = absurd shown

  by_ascend : (a b c : Option (EndValue N)) (n m : ℕ) → WasShown a b n → WasShown b c m → n ≤ m
  by_ascend (Some a) (Some b) (Some c) n m first second = ascend a b c n m first second
  by_ascend (Some a) (Some b) None n m first second = absurd second
  by_ascend (Some a) None c n m first second = absurd first
  by_ascend None b c n m first second = absurd first

  -- an end takes the place of one that it goes on from
  pub one_goes_on : (xs : EndList N) (i : ℕ) (end new : EndValue N) → end_at xs i ≡ Some end → GoesOn end new → EndsGoOn xs (slice_set xs i (Some new))
  one_goes_on [] i end new is on b = cc
  one_goes_on (y ∷ ys) zero end new is on zero = subst (λ (o : Option (EndValue N)). EndGoesOn o (Some new)) (sym is) on
  one_goes_on (y ∷ ys) zero end new is on (suc b) = by_itself (end_at ys b)
  one_goes_on (y ∷ ys) (suc i) end new is on zero = by_itself y
  one_goes_on (y ∷ ys) (suc i) end new is on (suc b) = one_goes_on ys i end new is on b

  -- what a copy leaves as it was: each store, what looks showed before it and behind it, and what the ends go on from
  pub record Keeps (old new : EndList N) : Type 0 where
    pub stores : (b n : ℕ) (x : List ℕ) → IsStore old b n x → IsStore new b n x
    pub later : (since : EndList N) (b n : ℕ) → HasLooked since old b n → HasLooked since new b n
    pub earlier : (until : EndList N) (b n : ℕ) → HasLooked new until b n → HasLooked old until b n
    pub over : (first : EndList N) → EndsGoOn first old → EndsGoOn first new

  pub keeps : (xs now : EndList N) (i : ℕ) (end new : EndValue N) → xs ≡ now → end_at xs i ≡ Some end → ((m : ℕ) (y : List ℕ) → IsTaken end m y → IsTaken new m y) → GoesOn end new → Keeps now (slice_set xs i (Some new))
  keeps xs now i end new same is stay on =
      let goes : EndsGoOn xs (slice_set xs i (Some new)) = one_goes_on xs i end new is on in
      subst (λ (l : EndList N). Keeps l (slice_set xs i (Some new))) same record {
        stores = λ b n x. held_on (λ l. IsTaken l n x) xs i end new is (stay n x) b;
        later = λ since b n h. by_later (end_at since b) (end_at xs b) (end_at (slice_set xs i (Some new)) b) n h (goes b);
        earlier = λ until b n h. by_earlier (end_at xs b) (end_at (slice_set xs i (Some new)) b) (end_at until b) n (goes b) h;
        over = λ first h b. by_further (end_at first b) (end_at xs b) (end_at (slice_set xs i (Some new)) b) (h b) (goes b);
      }

  handed_now : (e : EndValue N) (x : Store Nothing) → store_number (length (e.down.stores ++ x ∷ [])) ≡ next_number (store_number (length e.down.stores))
  handed_now e x = ap store_number (length-append e.down.stores (x ∷ [])) ∙ next_store (length e.down.stores)

  told_handed : (e new : EndValue N) (n : ℕ) (x : List ℕ) → CopiesEndIn e n x new → told_of new ≡ handed_over x (told_of e)
  told_handed e new n x is = ap told_of is.stored ∙ ap (λ (k : ℕ). record (told_of e) { handed = k; last = last_of (e.down.stores ++ store_of x None ∷ []) [] }) (handed_now e (store_of x None))
      ∙ ap (λ (l : List ℕ). record (told_of e) { handed = next_number (store_number (length e.down.stores)); last = l }) (last_more e.down.stores (store_of x None) [])

  pub told_one : (xs : EndList N) (i : ℕ) (end : EndValue N) → end_at xs i ≡ Some end → told_at (map told_by xs) i ≡ Some (told_of end)
  told_one [] i end is = cc
  told_one (x ∷ xs) zero end is = ap told_by is
  told_one (x ∷ xs) (suc i) end is = told_one xs i end is

  told_set : (xs : EndList N) (i : ℕ) (new : EndValue N) → map told_by (slice_set xs i (Some new)) ≡ slice_set (map told_by xs) i (Some (told_of new))
  told_set [] i new = refl
  told_set (x ∷ xs) zero new = refl
  told_set (x ∷ xs) (suc i) new = ap (λ (ts : List (Option Synchronized)). told_by x ∷ ts) (told_set xs i new)

  pub told_in : (xs : EndList N) (i : ℕ) (end new : EndValue N) (n : ℕ) (x : List ℕ) → end_at xs i ≡ Some end → CopiesEndIn end n x new
      → (n ≡ next_number (handed_by (told_at (map told_by xs) i))) × (map told_by (slice_set xs i (Some new)) ≡ changed i (handed_over x) (map told_by xs))
  told_in xs i end new n x is copied =
      let told = told_one xs i end is in (
        copied.number ∙ ap (λ (e : EndValue N). store_number (length e.down.stores)) copied.stored ∙ handed_now end (store_of x None) ∙ ap (λ (t : Option Synchronized). next_number (handed_by t)) (sym told),
        told_set xs i new ∙ ap (λ (s : Synchronized). slice_set (map told_by xs) i (Some s)) (told_handed end new n x copied)
            ∙ ap (λ (t : Option Synchronized). slice_set (map told_by xs) i (option_map (handed_over x) t)) (sym told),
      )

  -- no copy is refused
  none_by : (o : Option (EndValue N)) → 0 ≡ refusals_by (told_by o)
  none_by None = refl
  none_by (Some l) = refl

  pub none_refused : (xs : EndList N) (b : ℕ) → 0 ≡ refusals_of (map told_by xs) b
  none_refused [] b = refl
  none_refused (x ∷ xs) zero = none_by x
  none_refused (x ∷ xs) (suc b) = none_refused xs b

  none_left : (o : Option (EndValue N)) → IfSome (to_refuse_by (told_by o)) (λ n. n ≡ 0)
  none_left None = tt
  none_left (Some l) = refl

  pub none_to_refuse : (xs : EndList N) (b : ℕ) → NoneIsRefused (map told_by xs) b
  none_to_refuse [] b = tt
  none_to_refuse (x ∷ xs) zero = none_left x
  none_to_refuse (x ∷ xs) (suc b) = none_to_refuse xs b

  -- THE LINE OF A SYNCHRONIZED BLOCK
  read_end : (xs : EndList N) (i n : ℕ) (o : Option (EndValue N)) (end : EndValue N) → IsSynchronized (map told_by xs) i n → o ≡ get_or xs i o → o ≡ Some end → end_at xs i ≡ Some end
  read_end [] i n o end at read is = no_end N i n (end_at [] i ≡ Some end) at
  read_end (x ∷ xs) zero n o end at read is = sym read ∙ is
  read_end (x ∷ xs) (suc i) n o end at read is = read_end xs i n o end at read is

  pub end_there : (xs now : EndList N) (i j n : ℕ) (o : Option (EndValue N)) (end : EndValue N) → xs ≡ now → i ≡ j → IsSynchronized (map told_by now) j n → o ≡ get_or xs i o → o ≡ Some end
      → end_at xs i ≡ Some end
  end_there xs now i j n o end same index at read is =
      read_end xs i n o end
      (subst (λ (l : EndList N). IsSynchronized (map told_by l) i n) (sym same) (subst (λ (k : ℕ). IsSynchronized (map told_by now) k n) (sym index) at)) read is

pub looks_ascend : LooksAscend
looks_ascend N a b c n m first second = ascend a b c n m first second

pub looks_go_on : {N : Type 0} → LooksGoOn N
looks_go_on {N} = record {
  itself = λ s. record { mirrors = refl; ends = λ b. by_itself (end_at s.ends b) };
  further = λ r s t first second. record {
    mirrors = second.mirrors ∙ first.mirrors;
    ends = λ b. by_further (end_at r.ends b) (end_at s.ends b) (end_at t.ends b) (first.ends b) (second.ends b);
  };
  later = λ r s t b n shown over. by_later (end_at r.ends b) (end_at s.ends b) (end_at t.ends b) n shown (over.ends b);
  earlier = λ r s t b n over shown. by_earlier (end_at r.ends b) (end_at s.ends b) (end_at t.ends b) n (over.ends b) shown;
  ascend = λ r s t b n m first second. by_ascend (end_at r.ends b) (end_at s.ends b) (end_at t.ends b) n m first second;
}
