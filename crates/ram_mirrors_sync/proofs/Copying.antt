-- A copy out of the driver's end.
use Rattle.std.proofs.Common.{◌≡◌, inl, inr, ℕ, ◌+◌, ◌≤◌, List, [], ◌∷◌, ◌++◌, length, Option, Some, None, IfSome, IfNone, refl, sym, ap, ◌∙◌, subst, arith, length-append}
use Rattle.std.proofs.lemmas.List.{append-nil}
use lib.ListN.{get_elem?}
use Rattle.atomic_table.proofs.Lists.{at_last, at_longer}
use Rattle.ram_mirrors.specs.declared.view.Store.{Store}
use Rattle.ram_mirrors.specs.Stores.{store_number, store_of}
use Rattle.ram_mirrors.specs.Ends.{MirrorValue, TakerValue, IsTakerOf, NothingNewer, TakesNewest, ShowsNewest}
use Rattle.ram_mirrors_sync.specs.Ends.{EndValue, IsShown, IsTaken, GoesOn, LooksEnd, CopiesEndOut, told_of}

shown_zero : (n : ℕ) → store_number n ≡ 0 → n ≡ 0
shown_zero n is = omega (arith, is)

module _ {N : Type 0} where
  -- what a look did to the taker
  pub record Looks (m : MirrorValue) (old new : TakerValue N) : Type 0 where
    pub own_old : IsTakerOf m old
    pub own : IsTakerOf m new
    pub looks : new.looks ≡ old.looks + 1
    pub got : (more : List (ℕ × Store N)) × (new.got ≡ old.got ++ more)
    pub shows : ShowsNewest old new
    pub later : old.shown ≤ new.shown

  pub looks_by : (m : MirrorValue) (old new : TakerValue N) (r : Option ℕ) → IsTakerOf m old → IsTakerOf m new → IfNone r (NothingNewer old new) → IfSome r (λ n. TakesNewest old n new) → ShowsNewest old new → Looks m old new
  looks_by m old new None before own nothing one shows = record { own_old = before; own = own; looks = nothing.2; got = ([], nothing.0 ∙ sym (append-nil old.got)); shows = shows; later = omega (arith, nothing.1) }
  looks_by m old new (Some n) before own nothing one shows = record { own_old = before; own = own; looks = one.4; got = ((n, store_of new.content new.note) ∷ [], one.2); shows = shows; later = omega (arith, one.0) }

  -- an end after it
  abbrev after : EndValue N → TakerValue N → EndValue N
  after e t = record e { up = t }

  taken_on : (e : EndValue N) (t : TakerValue N) (more : List (ℕ × Store N)) → t.got ≡ e.up.got ++ more → (n : ℕ) (x : List ℕ) → IsTaken e n x → IsTaken (after e t) n x
  taken_on e t more is n x (inl first) = inl first
  taken_on e t more is n x (inr (i, note, at)) = inr (i, note, ap (λ (l : List (ℕ × Store N)). get_elem? l i) is ∙ at_longer e.up.got more i (n, store_of x note) at)

  -- the last pair is the one that is shown
  last_taken : (e : EndValue N) (t : TakerValue N) → IsShown t → (store_number t.shown ≡ 0 → ⊥) → IsTaken (after e t) (store_number t.shown) t.content
  last_taken e t (inl none) not = absurd (not (ap store_number none.1))
  last_taken e t (inr (front, is)) not = inr (length front, t.note, ap (λ (l : List (ℕ × Store N)). get_elem? l (length front)) is ∙ at_last front (store_number t.shown, store_of t.content t.note) (length front) refl)

  goes_on : (m : MirrorValue) (e : EndValue N) (t : TakerValue N) → Looks m e.up t → GoesOn e (after e t)
  goes_on m e t looks =
      let (more, shows) = looks.shows in record {
        shown = λ i k at. ap (λ (l : List ℕ). get_elem? l i) shows ∙ at_longer (e.up.all_shown ++ more) (t.shown ∷ []) i k (at_longer e.up.all_shown more i k at);
        longer = omega (arith, ap (λ (l : List ℕ). length l) shows, length-append (e.up.all_shown ++ more) (t.shown ∷ []), length-append e.up.all_shown more);
        later = looks.later;
        took = λ i p at. ap (λ (l : List (ℕ × Store N)). get_elem? l i) looks.got.1 ∙ at_longer e.up.got looks.got.0 i p at;
        first = refl;
      }

  -- a look alone
  pub looks_end : (m : MirrorValue) (e : EndValue N) (t : TakerValue N) (n : ℕ) → Looks m e.up t → n ≡ store_number t.shown → LooksEnd e n (after e t)
  looks_end m e t n looks shown =
      let (more, shows) = looks.shows in record {
        shown = (
          length (e.up.all_shown ++ more),
          t.shown,
          omega (arith, length-append e.up.all_shown more),
          ap (λ (l : List ℕ). get_elem? l (length (e.up.all_shown ++ more))) shows ∙ at_last (e.up.all_shown ++ more) t.shown (length (e.up.all_shown ++ more)) refl,
          shown,
          looks.later,
          omega arith,
        );
        stays = taken_on e t looks.got.0 looks.got.1;
        goes_on = goes_on m e t looks;
        rest = ap (λ (size : ℕ). record (told_of e) { bytes = size }) (looks.own.1 ∙ sym looks.own_old.1);
      }

  pub copies_first : (m : MirrorValue) (e : EndValue N) (t : TakerValue N) (n : ℕ) (content : List ℕ) → Looks m e.up t → n ≡ store_number t.shown → n ≡ 0 → content ≡ e.first → CopiesEndOut e n content (after e t)
  copies_first m e t n content looks shown zero same = record {
    looks = looks.looks;
    shown = shown;
    shows = looks.shows;
    later = looks.later;
    taken = inl (zero, same);
    stays = taken_on e t looks.got.0 looks.got.1;
    goes_on = goes_on m e t looks;
    rest = ap (λ (size : ℕ). record (told_of e) { bytes = size }) (looks.own.1 ∙ sym looks.own_old.1);
  }

  pub copies_last : (m : MirrorValue) (e : EndValue N) (t : TakerValue N) (n : ℕ) (content : List ℕ) → Looks m e.up t → IsShown t → n ≡ store_number t.shown → (n ≡ 0 → ⊥) → content ≡ t.content → CopiesEndOut e n content (after e t)
  copies_last m e t n content looks is shown not same = record {
    looks = looks.looks;
    shown = shown;
    shows = looks.shows;
    later = looks.later;
    taken = subst (λ (k : ℕ). IsTaken (after e t) k content) (sym shown) (subst (λ (x : List ℕ). IsTaken (after e t) (store_number t.shown) x) (sym same) (last_taken e t is (λ zero. not (shown ∙ zero))));
    stays = taken_on e t looks.got.0 looks.got.1;
    goes_on = goes_on m e t looks;
    rest = ap (λ (size : ℕ). record (told_of e) { bytes = size }) (looks.own.1 ∙ sym looks.own_old.1);
  }

  -- the last pair stays the one that is shown
  pub shown_on : (old new : TakerValue N) (r : Option ℕ) → IsShown old → IfNone r (NothingNewer old new) → IfSome r (λ n. TakesNewest old n new) → IsShown new
  shown_on old new None (inl none_yet) nothing one = inl (nothing.0 ∙ none_yet.0, nothing.1 ∙ none_yet.1)
  shown_on old new None (inr (front, is)) nothing one = inr (
    front,
    nothing.0 ∙ is ∙ ap (λ (k : ℕ). front ++ (k, store_of old.content old.note) ∷ []) (ap store_number (sym nothing.1))
        ∙ ap (λ (x : List ℕ). front ++ (store_number new.shown, store_of x old.note) ∷ []) (sym nothing.3) ∙ ap (λ (y : Option N). front ++ (store_number new.shown, store_of new.content y) ∷ []) (sym nothing.4),
  )
  shown_on old new (Some n) shown nothing one = inr (old.got, one.2 ∙ ap (λ (k : ℕ). old.got ++ (k, store_of new.content new.note) ∷ []) one.1)

  -- what was taken last has the length of the mirror
  pub content_on : (old new : TakerValue N) (r : Option ℕ) → length old.content ≡ old.size → old.size ≡ new.size → IfNone r (NothingNewer old new) → IfSome r (λ n. TakesNewest old n new) → length new.content ≡ new.size
  content_on old new None was same nothing one = ap (λ (x : List ℕ). length x) nothing.3 ∙ (was ∙ same)
  content_on old new (Some n) was same nothing one = one.3
