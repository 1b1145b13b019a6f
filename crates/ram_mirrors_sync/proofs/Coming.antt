-- What came along with the stores that looks showed.
use Rattle.std.proofs.Common.{◌≡◌, inl, inr, ℕ, List, length, map, option_map, Option, Some, None, IfSome, refl, sym, ap, ◌∙◌, subst, arith}
use lib.ListN.{get_elem?}
use Rattle.std.proofs.Math.ListN.{get_or-map}
use Rattle.atomic_table.proofs.Lists.{at_last}
use Rattle.ram_mirrors.specs.declared.view.Store.{Store}
use Rattle.ram_mirrors.specs.Stores.{store_number, store_of}
use Rattle.ram_blocks.specs.Told.{Synchronized, told_at}
use Rattle.ram_mirrors_sync.specs.Ends.{PairValue, EndValue, IsShown, HasShown}
use Rattle.ram_mirrors_sync.specs.Blocks.{Pairs, EndList, pair_at, end_at, HasEnd, AreEndsOf, WasShown, HasLooked, note_by, note_at, told_by, CameWith, HasCameWith, HasCome}

module _ {N : Type 0} where
  -- the last pair is of the newest store that was shown, and its note is there
  came_of : (a e : EndValue N) (n : ℕ) → IsShown e.up → HasShown a e n → CameWith (λ note. note ≡ e.up.note) e n
  came_of a e n (inl none) (i, k, from, at, is, low, high) = inl (omega (arith, is, high, none.1))
  came_of a e n (inr (front, got)) (i, k, from, at, is, low, high) = inr (
    length front,
    store_number e.up.shown,
    store_of e.up.content e.up.note,
    ap (λ (l : List (ℕ × Store N)). get_elem? l (length front)) got ∙ at_last front (store_number e.up.shown, store_of e.up.content e.up.note) (length front) refl,
    omega (arith, is, high),
    refl,
  )

  came_by : (o : Option PairValue) (a q : Option (EndValue N)) (n : ℕ) → HasEnd o q → WasShown a q n → IfSome q (λ e. CameWith (λ note. note ≡ note_by q) e n)
  came_by (Some p) (Some a) (Some e) n is shown = came_of a e n is.shown shown
  came_by None (Some a) (Some e) n is shown = absurd is
  came_by o None (Some e) n is shown = absurd shown
  came_by o a None n is shown = tt

  pub came : (ps : Pairs) (es before : EndList N) (b n : ℕ) → AreEndsOf ps es → HasLooked before es b n → HasCome es b n
  came ps es before b n are looked = came_by (pair_at ps b) (end_at before b) (end_at es b) n (are b) looked

  -- what holds of the note that is there holds of that which came along
  came_so : (holds : Option N → Type 0) (q : Option (EndValue N)) (n : ℕ) → holds (note_by q) → IfSome q (λ e. CameWith (λ note. note ≡ note_by q) e n) → IfSome q (λ e. CameWith holds e n)
  came_so holds None n now come = tt
  came_so holds (Some e) n now (inl none) = inl none
  came_so holds (Some e) n now (inr (i, m, x, at, few, is)) = inr (i, m, x, at, few, subst (λ (note : Option N). holds note) (sym is) now)

  pub came_with : (holds : Option N → Type 0) (es : EndList N) (b n : ℕ) → holds (note_at es b) → HasCome es b n → HasCameWith holds es b n
  came_with holds es b n now come = came_so holds (end_at es b) n now come

  -- THE BYTES OF A BLOCK
  bytes_by : (o : Option PairValue) (q : Option (EndValue N)) → HasEnd o q → option_map (λ (e : EndValue N). length e.first) q ≡ option_map (λ (s : Synchronized). s.bytes) (told_by q)
  bytes_by (Some p) (Some e) is = ap Some is.first
  bytes_by None None is = refl
  bytes_by (Some p) None is = absurd is
  bytes_by None (Some e) is = absurd is

  pub bytes_at : (ps : Pairs) (es : EndList N) (b : ℕ) → AreEndsOf ps es → option_map (λ (e : EndValue N). length e.first) (end_at es b) ≡ option_map (λ (s : Synchronized). s.bytes) (told_at (map told_by es) b)
  bytes_at ps es b are = bytes_by (pair_at ps b) (end_at es b) (are b) ∙ sym (ap (option_map (λ (s : Synchronized). s.bytes)) (get_or-map told_by es b None))
