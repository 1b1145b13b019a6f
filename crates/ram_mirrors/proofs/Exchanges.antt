-- Each step of the exchange keeps its rule.
use Rattle.std.proofs.Common.{◌≡◌, ◌≢◌, ◌⊎◌, ℕ, zero, suc, ◌+◌, ◌*◌, ◌/◌, ◌%◌, ◌<◌, ◌≤◌, List, [], ◌∷◌, ◌++◌, length, set, get_or, Bool, true, false, true≢false, refl, sym, ap, ◌∙◌, subst, inl, inr, ⊎_elim, arith, length-append, length-set}
use mathlib.Core.Option.{Option, some, none, some-ne-none, some-injective}
use lib.ListN.{get_elem?}
use lib.Seq.{set-get_or}
use Rattle.atomic_table.specs.Table.{State, Me, step, keeps, takes, gives, chain, Allows, Splits, Joins, Final, Seen, opening}
use Rattle.atomic_table.specs.Table as table
use Rattle.atomic_table.proofs.Lists.{at_set, at_snoc, set_here, set_else, at_longer, at_last}
use Rattle.ram_mirrors.specs.declared.view.View.{View}
use Rattle.ram_mirrors.specs.declared.view.Store.{Store}
use Rattle.ram_mirrors.specs.Stores.{Contents, store_number, IsStore, AllStored}
use Rattle.ram_mirrors.specs.Ends.{MirrorValue, OwnerValue, TakerValue, IsOwnerOf, IsTakerOf, counted}
use Rattle.ram_mirrors.specs.Exchange.{Lies, Slots, FitsOwner, FitsTaker, Fits, Newest, Mirrored, stored, looked, took, Looks, Stores, Takes, IsMade, maker, owner_half, taker_half, whole_of, nobody, owner_begins, taker_begins, taker_ends, Begins, BeginsOwner, BeginsTaker, EndsTaker}

more_stored : {N : Type 0} (log more : Contents N) (got : List (ℕ × Store N)) → AllStored log got → AllStored (log ++ more) got
more_stored log more got h i p e = let a = h i p e in (a.0, a.1, at_longer log more a.0 p.1 a.2)

one_more_stored : {N : Type 0} (log : Contents N) (got : List (ℕ × Store N)) (p : ℕ × Store N) → AllStored log got → IsStore log p → AllStored log (got ++ p ∷ [])
one_more_stored log got p h here i q e = ⊎_elim (h i q) (λ (t : p ≡ q). subst (IsStore log) t here) (at_snoc got p q i e)

pub length_snoc : {A : Type 0} (l : List A) (x : A) → length (l ++ x ∷ []) ≡ length l + 1
length_snoc l x = omega (arith, length-append l (x ∷ []))

module _ {S N : Type 0} (bytes : S → Store N) where
  lies_at : (h h' : List (Option S)) (k : ℕ) (b : Bool) → get_elem? h' k ≡ get_elem? h k → Lies bytes h k b → Lies bytes h' k b
  lies_at h h' k true e l = e ∙ l
  lies_at h h' k false e l = (l.0, e ∙ l.1)

  -- the one word tells the home slot
  told : (words : List ℕ) (p : Slots N) (y : S) → Newest bytes words p y → (get_or words 0 0 % 4 ≡ p.home) × ((n : ℕ) → set words 0 n ≡ n ∷ [])
  told words p y (inl h) = let below = p.home_in in rw h.0 (omega arith, λ n. refl)
  told words p y (inr h) = let below = p.home_in in let c : ℕ = store_number (length p.log) in rw h.0 (omega arith, λ n. refl)

  not_ahead : (words : List ℕ) (p : Slots N) (y : S) → Newest bytes words p y → p.taken ≤ length p.log
  not_ahead words p y (inl h) = let e = h.1 in omega arith
  not_ahead words p y (inr h) = let e = h.1 in omega arith

  shows : (words : List ℕ) (p : Slots N) (y : S) → Newest bytes words p y → (get_or words 0 0 < 4 → length p.log ≡ p.taken) × (4 ≤ get_or words 0 0 → p.taken < length p.log)
  shows words p y (inl h) = let below = p.home_in in let e = h.1 in rw h.0 ((λ _. omega arith), (λ z. absurd (omega arith)))
  shows words p y (inr h) = let c : ℕ = store_number (length p.log) in let e = h.1 in rw h.0 ((λ z. absurd (omega arith)), (λ _. omega arith))

  -- where a store was not taken yet, the home slot has it
  newest_is : (words : List ℕ) (p : Slots N) (y : S) → Newest bytes words p y → p.taken < length p.log
      → (get_or words 0 0 / 8 ≡ store_number (length p.log)) × IsStore p.log (store_number (length p.log), bytes y)
  newest_is words p y (inl h) fresh = absurd (let e = h.1 in omega arith)
  newest_is words p y (inr h) fresh = let below = p.home_in in let c : ℕ = store_number (length p.log) in let front = h.2.0 in
      (rw h.0 (omega arith), (length front, ap store_number (ap length h.2.1 ∙ length_snoc front (bytes y)), ap (λ (l : Contents N). get_elem? l (length front)) h.2.1 ∙ at_last front (bytes y) (length front) refl))

  fits_set : (F : ℕ → View N → Type 0) (views : List (View N)) (by : ℕ) (w : View N) → ((j : ℕ) (u : View N) → j ≢ by → get_elem? views j ≡ some u → F j u) → F by w → (j : ℕ) (u : View N) → get_elem? (set views by w) j ≡ some u → F j u
  fits_set F views by w others mine j u e =
      ⊎_elim
      (λ (x : (j ≡ by) × (w ≡ u)). subst (λ (y : ℕ × View N). F y.0 y.1) (λ i. (sym x.0 i, x.1 i)) mine)
      (λ (x : (j ≢ by) × (get_elem? views j ≡ some u)). others j u x.0 x.1)
      (at_set views by j w u e)

  -- what an end knows, where its slot, its seat and its stores or takes are as they were
  owner_stays : (len : ℕ) (p : Slots N) (h h' : List (Option S)) (j : ℕ) (v : View N) → get_elem? h' p.owner.slot ≡ get_elem? h p.owner.slot → FitsOwner bytes len p h j v → FitsOwner bytes len p h' j v
  owner_stays len p h h' j v same x = (x.0, x.1, lies_at h h' p.owner.slot v.owner_out same x.2, x.3, x.4)

  taker_stays : (len : ℕ) (p : Slots N) (h h' : List (Option S)) (j : ℕ) (v : View N) → get_elem? h' p.taker.slot ≡ get_elem? h p.taker.slot → FitsTaker bytes len p h j v → FitsTaker bytes len p h' j v
  taker_stays len p h h' j v same x = (x.0, x.1, lies_at h h' p.taker.slot v.taker_out same x.2, x.3, x.4)

  -- the slot k is put back with b in it, and the slot h taken: the third slot t is as it was
  traded : (homes : List (Option S)) (k h t : ℕ) (b : S) → length homes ≡ 3 → k < 3 → h < 3 → h ≢ k → h ≢ t → t ≢ k
      → let new = set (set homes k (some b)) h none in (length new ≡ 3) × (get_elem? new k ≡ some (some b)) × (get_elem? new h ≡ some none) × (get_elem? new t ≡ get_elem? homes t) × (get_elem? (set homes k (some b)) h ≡ get_elem? homes h)
  traded homes k h t b three k_in h_in apart h_t t_k =
      let one = set homes k (some b) in
      let long : length one ≡ 3 = length-set homes k (some b) ∙ three in (
        length-set one h none ∙ long,
        set_else one h k none (λ e. apart (sym e)) ∙ set_here homes k (some b) (omega arith),
        set_here one h none (omega arith),
        set_else one h t none (λ e. h_t (sym e)) ∙ set_else homes k t (some b) t_k,
        set_else homes k h (some b) apart,
      )

  -- the slots after a store, and after a take
  abbrev after_store : Slots N → Store N → Slots N
  after_store p x = record p { log = p.log ++ x ∷ []; home = p.owner.slot; owner = record p.owner { slot = p.home }; home_in = p.owner_in; owner_in = p.home_in; home_owner = λ e. p.home_owner (sym e); home_taker = p.owner_taker; owner_taker = p.home_taker }

  abbrev after_take : Slots N → Slots N
  after_take p = record p { taken = length p.log; home = p.taker.slot; taker = record p.taker { slot = p.home }; home_in = p.taker_in; taker_in = p.home_in; home_owner = λ e. p.owner_taker (sym e); home_taker = λ e. p.home_taker (sym e); owner_taker = λ e. p.home_owner (sym e) }

  stores : (len slots id : ℕ) (v : View N) (k : ℕ) (b : S) (word : ℕ) → v.owns ≡ true → v.owner_out ≡ true → k ≡ v.owner_slot → length (bytes b).content ≡ v.size → word ≡ k + 4 + 8 * store_number (length v.stores + 1)
      → Allows (Mirrored bytes len) slots id (v, (k, b) ∷ []) 0 (λ _. word) (Stores bytes (step slots 0 word 0 none) (v, (k, b) ∷ []))
  stores len slots id v k b word owns out at_slot long is s r wide at _ =
      let f = r.each id v at in
      let mine = f.owns owns in
      let k_is : k ≡ r.owner.slot = at_slot ∙ mine.3 in
      let y = r.lies.0 in
      let h : ℕ = r.home in
      let p = after_store r.slots (bytes b) in
      let homes = set (set s.homes k (some b)) h none in
      let moved = traded s.homes k h r.taker.slot b r.three (rw k_is r.owner_in) r.home_in (λ e. r.home_owner (e ∙ k_is)) r.home_taker (λ e. r.owner_taker (sym k_is ∙ sym e)) in
      let told' = told s.words r.slots y r.lies.3 in
      let behind = not_ahead s.words r.slots y r.lies.3 in
      let grew = length_snoc r.log (bytes b) in (
        stored v (bytes b) h,
        chain gives (takes h y),
        (tt, moved.4 ∙ r.lies.1),
        record {
          slots = p;
          three = moved.0;
          lies = (
            b,
            subst (λ (i : ℕ). get_elem? homes i ≡ some (some b)) k_is moved.1,
            long ∙ mine.4,
            inr (told'.1 word ∙ ap (λ (x : ℕ). x ∷ []) (is ∙ ap (λ (x : ℕ × ℕ). x.0 + 4 + 8 * store_number x.1) (λ i. (k_is i, (ap (λ (l : Contents N). length l + 1) mine.1 ∙ sym grew) i))), omega arith, (r.log, refl)),
          );
          each = fits_set (Fits bytes len p homes) s.views id (stored v (bytes b) h)
              (λ j u other e. let g = r.each j u e in record {
                owns = λ o. absurd (other ((g.owns o).0 ∙ sym mine.0));
                takes = λ o. taker_stays len r.slots s.homes homes j u moved.3 (g.takes o);
                shown = let x = g.shown in omega arith;
                agrees = more_stored r.log (bytes b ∷ []) u.got g.agrees;
              })
              record {
                owns = λ _. (mine.0, ap (λ l. l ++ bytes b ∷ []) mine.1, subst (Lies bytes homes h) (sym out) moved.2, refl, mine.4);
                takes = λ o. taker_stays len r.slots s.homes homes id v moved.3 (f.takes o);
                shown = let x = f.shown in omega arith;
                agrees = more_stored r.log (bytes b ∷ []) v.got f.agrees;
              };
        },
        (y, ap (λ (i : ℕ). (i, y) ∷ []) (sym told'.0), r.lies.2 ∙ sym mine.4, ap (stored v (bytes b)) (sym told'.0)),
      )

  pub stores_at : (len slots id : ℕ) (m : Me S (View N)) (v : View N) (k : ℕ) (b : S) (word : ℕ) → m ≡ (v, (k, b) ∷ []) → v.owns ≡ true → v.owner_out ≡ true → k ≡ v.owner_slot → length (bytes b).content ≡ v.size → word ≡ k + 4 + 8 * store_number (length v.stores + 1)
      → Allows (Mirrored bytes len) slots id m 0 (λ _. word) (Stores bytes (step slots 0 word 0 none) m)
  stores_at len slots id m v k b word held owns out at_slot long is =
      subst (λ (z : Me S (View N)). Allows (Mirrored bytes len) slots id z 0 (λ _. word) (Stores bytes (step slots 0 word 0 none) z)) (sym held) (stores len slots id v k b word owns out at_slot long is)

  takes_newest : (len slots id : ℕ) (v : View N) (k : ℕ) (b : S) → v.takes ≡ true → v.taker_out ≡ true → k ≡ v.taker_slot → length (bytes b).content ≡ v.size → v.taken < v.shown
      → Allows (Mirrored bytes len) slots id (v, (k, b) ∷ []) 0 (λ _. k) (Takes bytes (step slots 0 k 0 none) (v, (k, b) ∷ []))
  takes_newest len slots id v k b tk out at_slot long fresh s r wide at _ =
      let f = r.each id v at in
      let mine = f.takes tk in
      let k_is : k ≡ r.taker.slot = at_slot ∙ mine.3 in
      let y = r.lies.0 in
      let h : ℕ = r.home in
      let n : ℕ = length r.log in
      let p = after_take r.slots in
      let homes = set (set s.homes k (some b)) h none in
      let moved = traded s.homes k h r.owner.slot b r.three (rw k_is r.taker_in) r.home_in (λ e. r.home_taker (e ∙ k_is)) r.home_owner (λ e. r.owner_taker (e ∙ k_is)) in
      let told' = told s.words r.slots y r.lies.3 in
      let was = newest_is s.words r.slots y r.lies.3 (let a = f.shown in let z = mine.1 in omega arith) in (
        took v n (bytes y) h,
        chain gives (takes h y),
        (tt, moved.4 ∙ r.lies.1),
        record {
          slots = p;
          three = moved.0;
          lies = (b, subst (λ (i : ℕ). get_elem? homes i ≡ some (some b)) k_is moved.1, long ∙ mine.4, inl (told'.1 k ∙ ap (λ (x : ℕ). x ∷ []) k_is, refl));
          each = fits_set (Fits bytes len p homes) s.views id (took v n (bytes y) h)
              (λ j u other e. let g = r.each j u e in record {
                owns = λ o. owner_stays len r.slots s.homes homes j u moved.3 (g.owns o);
                takes = λ o. absurd (other ((g.takes o).0 ∙ sym mine.0));
                shown = g.shown;
                agrees = g.agrees;
              })
              record {
                owns = λ o. owner_stays len r.slots s.homes homes id v moved.3 (f.owns o);
                takes = λ _. (mine.0, refl, subst (Lies bytes homes h) (sym out) moved.2, refl, mine.4);
                shown = omega arith;
                agrees = one_more_stored r.log v.got (store_number n, bytes y) f.agrees was.1;
              };
        },
        (n, y, ap (λ (i : ℕ). (i, y) ∷ []) (sym told'.0), r.lies.2 ∙ sym mine.4, f.shown, was.0, ap (took v n (bytes y)) (sym told'.0)),
      )

  pub takes_at : (len slots id : ℕ) (m : Me S (View N)) (v : View N) (k : ℕ) (b : S) → m ≡ (v, (k, b) ∷ []) → v.takes ≡ true → v.taker_out ≡ true → k ≡ v.taker_slot → length (bytes b).content ≡ v.size → v.taken < v.shown
      → Allows (Mirrored bytes len) slots id m 0 (λ _. k) (Takes bytes (step slots 0 k 0 none) m)
  takes_at len slots id m v k b held tk out at_slot long fresh =
      subst (λ (z : Me S (View N)). Allows (Mirrored bytes len) slots id z 0 (λ _. k) (Takes bytes (step slots 0 k 0 none) z)) (sym held) (takes_newest len slots id v k b tk out at_slot long fresh)

  -- the state after a step that changes no word and none of the three slots, where the homes become others
  same_word : (len id : ℕ) (s : State S (View N)) (homes : List (Option S)) (w : View N) (r : Mirrored bytes len s) → length homes ≡ 3 → get_elem? homes r.home ≡ get_elem? s.homes r.home
      → ((j : ℕ) (u : View N) → j ≢ id → get_elem? s.views j ≡ some u → Fits bytes len r.slots homes j u)
      → Fits bytes len r.slots homes id w
      → Mirrored bytes len record { words = set s.words 0 (get_or s.words 0 0); homes = homes; views = set s.views id w }
  same_word len id s homes w r three home others mine = subst (λ (ws : List ℕ). Mirrored bytes len record { words = ws; homes = homes; views = set s.views id w }) (sym (set-get_or s.words 0 0)) record {
    slots = r.slots;
    three = three;
    lies = (r.lies.0, home ∙ r.lies.1, r.lies.2, r.lies.3);
    each = fits_set (Fits bytes len r.slots homes) s.views id w others mine;
  }

  pub looks : (len slots id : ℕ) (v : View N) (cs : List (ℕ × S)) → v.takes ≡ true → Allows (Mirrored bytes len) slots id (v, cs) 0 (λ n. n) (Looks (step slots 0 0 0 none) (v, cs))
  looks len slots id v cs tk s r wide at _ =
      let f = r.each id v at in
      let n : ℕ = length r.log in
      let mine = f.takes tk in
      let behind = not_ahead s.words r.slots r.lies.0 r.lies.3 in
      let said = shows s.words r.slots r.lies.0 r.lies.3 in (
        looked v n,
        keeps,
        tt,
        same_word len id s s.homes (looked v n) r r.three refl (λ j u _ e. r.each j u e) record { owns = f.owns; takes = f.takes; shown = omega arith; agrees = f.agrees },
        (n, refl, refl, f.shown, (let z = mine.1 in omega arith), (λ z. said.0 z ∙ sym mine.1), (λ z. let a = said.1 z in let b = mine.1 in omega arith)),
      )

  -- what the other seats know after a step that changes the owner's slot alone, or the taker's
  beside_owner : (len id : ℕ) (s : State S (View N)) (x : Option S) (r : Mirrored bytes len s) → id ≡ r.owner.seat → (j : ℕ) (u : View N) → j ≢ id → get_elem? s.views j ≡ some u → Fits bytes len r.slots (set s.homes r.owner.slot x) j u
  beside_owner len id s x r is j u other e = let g = r.each j u e in
      record { owns = λ p. absurd (other ((g.owns p).0 ∙ sym is)); takes = λ p. taker_stays len r.slots s.homes (set s.homes r.owner.slot x) j u (set_else s.homes r.owner.slot r.taker.slot x (λ e. r.owner_taker (sym e))) (g.takes p); shown = g.shown; agrees = g.agrees }

  beside_taker : (len id : ℕ) (s : State S (View N)) (x : Option S) (r : Mirrored bytes len s) → id ≡ r.taker.seat → (j : ℕ) (u : View N) → j ≢ id → get_elem? s.views j ≡ some u → Fits bytes len r.slots (set s.homes r.taker.slot x) j u
  beside_taker len id s x r is j u other e = let g = r.each j u e in
      record { owns = λ p. owner_stays len r.slots s.homes (set s.homes r.taker.slot x) j u (set_else s.homes r.taker.slot r.owner.slot x r.owner_taker) (g.owns p); takes = λ p. absurd (other ((g.takes p).0 ∙ sym is)); shown = g.shown; agrees = g.agrees }

  -- an end whose slot is k, at home, takes it
  begins : (len slots id : ℕ) (slot : View N → ℕ) (begun : View N → View N) (v : View N)
      → ((s : State S (View N)) (r : Mirrored bytes len s) → get_elem? s.views id ≡ some v → (k : ℕ) × (slot v ≡ k) × (k < 3) × (r.home ≢ k) × Lies bytes s.homes k false
      × ((j : ℕ) (u : View N) → j ≢ id → get_elem? s.views j ≡ some u → Fits bytes len r.slots (set s.homes k none) j u) × (get_elem? (set s.homes k none) k ≡ some none → Fits bytes len r.slots (set s.homes k none) id (begun v)))
      → Allows (Mirrored bytes len) slots id (v, []) 0 (λ n. n) (Begins slot begun (step slots 0 0 0 none) (v, []))
  begins len slots id slot begun v know s r wide at _ =
      let (k, k_is, below, apart, lie, others, mine) = know s r at in
      let three = r.three in (
        begun v,
        takes k lie.0,
        lie.1,
        same_word len id s (set s.homes k none) (begun v) r (length-set s.homes k none ∙ r.three) (set_else s.homes k r.home none apart) others (mine (set_here s.homes k none (omega arith))),
        (lie.0, ap (λ (i : ℕ). (i, lie.0) ∷ []) (sym k_is), refl),
      )

  pub owner_begins_at : (len slots id : ℕ) (m : Me S (View N)) (v : View N) → m ≡ (v, []) → v.owns ≡ true → v.takes ≡ false → v.owner_out ≡ false → Allows (Mirrored bytes len) slots id m 0 (λ n. n) (BeginsOwner (step slots 0 0 0 none) m)
  owner_begins_at len slots id m v held own no_take is_in = subst (λ (z : Me S (View N)). Allows (Mirrored bytes len) slots id z 0 (λ n. n) (BeginsOwner (step slots 0 0 0 none) z)) (sym held)
      (begins len slots id (λ v. v.owner_slot) owner_begins v (λ s r at. let f = r.each id v at in let mine = f.owns own in
      (r.owner.slot, mine.3, r.owner_in, r.home_owner, subst (Lies bytes s.homes r.owner.slot) is_in mine.2, beside_owner len id s none r mine.0, λ here. record { owns = λ _. (mine.0, mine.1, here, mine.3, mine.4); takes = λ p. absurd (true≢false (sym p ∙ no_take)); shown = f.shown; agrees = f.agrees })))

  pub taker_begins_at : (len slots id : ℕ) (m : Me S (View N)) (v : View N) → m ≡ (v, []) → v.owns ≡ false → v.takes ≡ true → v.taker_out ≡ false → Allows (Mirrored bytes len) slots id m 0 (λ n. n) (BeginsTaker (step slots 0 0 0 none) m)
  taker_begins_at len slots id m v held no_own take is_in = subst (λ (z : Me S (View N)). Allows (Mirrored bytes len) slots id z 0 (λ n. n) (BeginsTaker (step slots 0 0 0 none) z)) (sym held)
      (begins len slots id (λ v. v.taker_slot) taker_begins v (λ s r at. let f = r.each id v at in let mine = f.takes take in
      (r.taker.slot, mine.3, r.taker_in, r.home_taker, subst (Lies bytes s.homes r.taker.slot) is_in mine.2, beside_taker len id s none r mine.0, λ here. record { owns = λ p. absurd (true≢false (sym p ∙ no_own)); takes = λ _. (mine.0, mine.1, here, mine.3, mine.4); shown = f.shown; agrees = f.agrees })))

  ends_taker : (len slots id : ℕ) (v : View N) (k : ℕ) (b : S) → v.owns ≡ false → v.takes ≡ true → k ≡ v.taker_slot → Allows (Mirrored bytes len) slots id (v, (k, b) ∷ []) 0 (λ n. n) (EndsTaker (step slots 0 0 0 none) (v, (k, b) ∷ []))
  ends_taker len slots id v k b no_own tk at_slot s r wide at _ =
      let f = r.each id v at in
      let mine = f.takes tk in
      let k_is : k ≡ r.taker.slot = at_slot ∙ mine.3 in
      let homes = set s.homes r.taker.slot (some b) in (
        taker_ends v,
        table.gives,
        tt,
        subst (λ (i : ℕ). Mirrored bytes len record { words = set s.words 0 (get_or s.words 0 0); homes = set s.homes i (some b); views = set s.views id (taker_ends v) }) (sym k_is)
            (same_word len id s homes (taker_ends v) r (length-set s.homes r.taker.slot (some b) ∙ r.three) (set_else s.homes r.taker.slot r.home (some b) r.home_taker) (beside_taker len id s (some b) r mine.0)
            record { owns = λ p. absurd (true≢false (sym p ∙ no_own)); takes = λ p. absurd (true≢false (sym p)); shown = f.shown; agrees = f.agrees }),
        (refl, refl),
      )

  at_end : {A : Type 0} (l : List A) (a b : A) (j : ℕ) → get_elem? (l ++ a ∷ []) j ≡ some b → (get_elem? l j ≡ some b) ⊎ ((j ≡ length l) × (a ≡ b))
  at_end [] a b zero e = inr (refl, some-injective a b e)
  at_end [] a b (suc j) e = absurd (some-ne-none b (sym e))
  at_end (x ∷ xs) a b zero e = inl e
  at_end (x ∷ xs) a b (suc j) e = ⊎_elim inl (λ (t : (j ≡ length xs) × (a ≡ b)). inr (ap suc t.0, t.1)) (at_end xs a b j e)

  -- the view of a new table's one seat
  only : (v u : View N) (j : ℕ) → get_elem? (v ∷ []) j ≡ some u → (j ≡ 0) × (v ≡ u)
  only v u zero e = (refl, some-injective v u e)
  only v u (suc j) e = absurd (some-ne-none u (sym e))

  pub opens : (len : ℕ) (xs : List S) → IsMade bytes len xs → Mirrored bytes len (opening (2 ∷ []) xs (maker len))
  opens len xs (a, b, y, is, long) = subst (λ (l : List S). Mirrored bytes len (opening (2 ∷ []) l (maker len))) (sym is) record {
    slots = first;
    three = refl;
    lies = (y, refl, long, inl (refl, refl));
    each = λ j v e. let h = only (maker len) v j e in
        subst (λ (z : ℕ × View N). Fits bytes len first (some a ∷ some b ∷ some y ∷ []) z.0 z.1) (λ i. (sym h.0 i, h.1 i))
        record { owns = λ _. (refl, refl, (a, refl), refl, refl); takes = λ _. (refl, refl, (b, refl), refl, refl); shown = omega arith; agrees = λ i p e. absurd (some-ne-none p (sym e)) };
  }
    where
      first : Slots N
      first = record { log = []; taken = 0; home = 2; owner = record { seat = 0; slot = 0 }; taker = record { seat = 0; slot = 1 }; home_in = omega arith; owner_in = omega arith; taker_in = omega arith; home_owner = λ e. omega arith; home_taker = λ e. omega arith; owner_taker = λ e. omega arith }

  pub halves : (len id : ℕ) (v : View N) → v.owns ≡ true → v.takes ≡ true → Splits (Mirrored bytes len) id v (owner_half v) (taker_half v)
  halves len id v ow tk s r at =
      let f = r.each id v at in
      let own = f.owns ow in
      let take = f.takes tk in
      let left = owner_half v in
      let right = taker_half v in
      let first = set s.views id left in
      let new : ℕ = length first in
      let p = record r.slots { taker = record r.taker { seat = new } } in record {
        slots = p;
        three = r.three;
        lies = r.lies;
        each = λ j u e. ⊎_elim
            (λ (t : get_elem? first j ≡ some u). fits_set (Fits bytes len p s.homes) s.views id left
            (λ j u other e. let g = r.each j u e in record { owns = g.owns; takes = λ o. absurd (other ((g.takes o).0 ∙ sym take.0)); shown = g.shown; agrees = g.agrees })
            record { owns = λ _. own; takes = λ o. absurd (true≢false (sym o)); shown = omega arith; agrees = λ i p e. absurd (some-ne-none p (sym e)) }
            j u t)
            (λ (t : (j ≡ new) × (right ≡ u)). subst (λ (y : ℕ × View N). Fits bytes len p s.homes y.0 y.1) (λ i. (sym t.0 i, t.1 i))
            record { owns = λ o. absurd (true≢false (sym o)); takes = λ _. (refl, take.1, take.2, take.3, take.4); shown = f.shown; agrees = f.agrees })
            (at_end first right u j e);
      }

  closes : (len id : ℕ) (v : View N) (words : List ℕ) (xs : List S) → v.owns ≡ true → Final (Seen (Mirrored bytes len) id v) words xs → AllStored v.stores v.got × (v.shown ≤ length v.stores)
  closes len id v words xs own fin = let r = fin.1.0 in let f = r.each id v fin.1.1 in subst (λ (l : Contents N). AllStored l v.got × (v.shown ≤ length l)) (sym (f.owns own).1) (f.agrees, f.shown)

  -- where the taker put its slot back, and its seat was joined to the owner's
  pub closes_ends : (len id : ℕ) (v u w x : View N) (words : List ℕ) (xs : List S) (stores : Contents N) (got : List (ℕ × Store N)) (shown : ℕ) → w ≡ taker_ends u → x ≡ whole_of v w → v.owns ≡ true
      → v.stores ≡ stores → u.got ≡ got → u.shown ≡ shown → Final (Seen (Mirrored bytes len) id x) words xs → AllStored stores got × (shown ≤ length stores)
  closes_ends len id v u w x words xs stores got shown ended joined own is_stores is_got is_shown fin =
      let all = ap (λ (z : View N). z.stores) joined ∙ is_stores in
      let pairs = ap (λ (z : View N). z.got) joined ∙ (ap (λ (z : View N). z.got) ended ∙ is_got) in
      let number = ap (λ (z : View N). z.shown) joined ∙ (ap (λ (z : View N). z.shown) ended ∙ is_shown) in
      subst (λ (z : Contents N × List (ℕ × Store N) × ℕ). AllStored z.0 z.1 × (z.2 ≤ length z.0)) (λ i. (all i, pairs i, number i)) (closes len id x words xs (ap (λ (z : View N). z.owns) joined ∙ own) fin)

  pub joins : (len id : ℕ) (v : View N) (other : ℕ) (w : View N) → Joins (Mirrored bytes len) id v other w (whole_of v w) (nobody)
  joins len id v other w s r at apart there =
      let f = r.each id v at in
      let g = r.each other w (⊎_elim (λ (t : (other ≡ id) × (whole_of v w ≡ w)). absurd (apart t.0)) (λ (t : (other ≢ id) × (get_elem? s.views other ≡ some w)). t.1) (at_set s.views id other (whole_of v w) w there)) in
      let F = Fits bytes len r.slots s.homes in record {
        slots = r.slots;
        three = r.three;
        lies = r.lies;
        each = fits_set F (set s.views id (whole_of v w)) other (nobody)
            (λ j u _ e. fits_set F s.views id (whole_of v w) (λ i y _ e'. r.each i y e') record { owns = f.owns; takes = f.takes; shown = g.shown; agrees = g.agrees } j u e)
            record { owns = λ p. absurd (true≢false (sym p)); takes = λ p. absurd (true≢false (sym p)); shown = omega arith; agrees = λ i p e. absurd (some-ne-none p (sym e)) };
      }

  pub ends_at : (len slots id : ℕ) (m : Me S (View N)) (k : ℕ) (b : S) → m.1 ≡ (k, b) ∷ [] → m.0.owns ≡ false → m.0.takes ≡ true → k ≡ m.0.taker_slot → Allows (Mirrored bytes len) slots id m 0 (λ n. n) (EndsTaker (step slots 0 0 0 none) m)
  ends_at len slots id m k b held no_own tk at_slot = subst (λ (cs : List (ℕ × S)). Allows (Mirrored bytes len) slots id (m.0, cs) 0 (λ n. n) (EndsTaker (step slots 0 0 0 none) (m.0, cs))) (sym held) (ends_taker len slots id m.0 k b no_own tk at_slot)

pub store_number_more : (n : ℕ) → store_number (store_number n + 1) ≡ store_number (n + 1)
store_number_more n = omega arith

abbrev value_of : {S : Type 0} → S → List (ℕ × S) → S
value_of d [] = d
value_of d (x ∷ xs) = x.1

pub same_value : {S : Type 0} (k j : ℕ) (a b : S) (l m : List (ℕ × S)) → (k, a) ∷ l ≡ (j, b) ∷ m → a ≡ b
same_value k j a b l m e = ap (value_of a) e

pub counted_more : (n : ℕ) → counted (counted n + 1) ≡ counted (n + 1)
counted_more n = omega arith

pub has_word : {n : ℕ} → n ≡ 1 → 0 < n
has_word one = omega arith

-- an end is at its mirror's table
pub owner_table : {N : Type 0} {o p : OwnerValue N} {m n : MirrorValue} → o ≡ p → m ≡ n → IsOwnerOf n p → o.table ≡ m.table
owner_table {N} end mirror own = ap (λ (z : OwnerValue N). z.table) end ∙ (own.0 ∙ sym (ap (λ (z : MirrorValue). z.table) mirror))

pub taker_table : {N : Type 0} {t u : TakerValue N} {m n : MirrorValue} → t ≡ u → m ≡ n → IsTakerOf n u → t.table ≡ m.table
taker_table {N} end mirror own = ap (λ (z : TakerValue N). z.table) end ∙ (own.0 ∙ sym (ap (λ (z : MirrorValue). z.table) mirror))
