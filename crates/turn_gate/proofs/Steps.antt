-- Each step that leaves the list as it was keeps the rule: a look, a poll, a draw, an entry.
use Rattle.std.proofs.Common.{◌≡◌, ◌≢◌, ℕ, ◌+◌, ◌-◌, ◌/◌, ◌%◌, ◌^◌, ◌<◌, ◌≤◌, eqb, List, [], length, set, get_or, Bool, true, false, true≢false, refl, sym, ap, ◌∙◌, subst, ⊎_elim, arith, length-set, get_or-set_other, get_or-set_same, append-nil, length-append, ◌∷◌, lt_of_not-le}
use Rattle.std.specs.Prelude.{Option, Some}
use mathlib.Core.Logic.{dite}
use mathlib.Core.Option as maybe
use mathlib.Core.Option.{some-ne-none}
use native.Mathlib.Decide.{ℕ_discrete, dec_le}
use prog.Atomic.{either}
use lib.ListN.{get_elem?}
use lib.Seq.{set-get_or}
use Rattle.atomic_table.specs.Table.{State, Me, step, Act, keeps, takes, stepped, Allows}
use Rattle.atomic_table.specs.Table as table
use Rattle.atomic_table.proofs.Lists.{at_set, at_snoc, set_here, set_else, exchanged}
use Rattle.turn_gate.specs.declared.pass.View.{View}
use Rattle.turn_gate.specs.declared.pass.Place.{Place}
use Rattle.turn_gate.specs.declared.pass.Place.TheVariants.{Here}
use Rattle.turn_gate.specs.Entries.{Note, note, StartsWith, Gave, AllAgree, AllHeard, Tells, OpenFrom}
use Rattle.turn_gate.specs.Pass.{all_parts, Has, IsKin, noted}
use Rattle.turn_gate.specs.Turns.{Posted, Knows, Rests, Gated, HasEntered, Enters, Arrives, looked, Looks, queued, entered, Draws, Polls, Compares}
use Rattle.turn_gate.proofs.Histories.{not_true, inside_length, same_at, total_set, total_two, given_later, starts_longer}

module _ {V E R : Type 0} (entries : V → List E) (gives : E → ℕ → Option ℕ) (is_open : E → Bool) (root : V → R) (n : ℕ) (base : R) where
  abbrev St : Type 0
  St = State (Place V) (View E R)

  abbrev Rule : St → Type 0
  Rule = Gated entries gives is_open root n base

  abbrev K : List E → ℕ → ℕ → ℕ → View E R → Type 0
  K log serving next = Knows gives is_open log base serving next

  abbrev Views : Type 0
  Views = List (View E R)

  -- a step of the pass id, after which the words, the homes, the list and the view of that pass are others
  pub put : (s : St) (r : Rule s) (ws : List ℕ) (homes : List (maybe.Option (Place V))) (log : List E) (id : ℕ) (v w : View E R) → get_elem? s.views id ≡ maybe.some v
      → length log < 2 ^ 32 → length homes ≡ 1 → Posted gives n log ws
      → ((j : ℕ) (u : View E R) → j ≢ id → get_elem? s.views j ≡ maybe.some u → K log (get_or ws 0 0) (get_or ws 1 0) j u)
      → K log (get_or ws 0 0) (get_or ws 1 0) id w
      → ((j : ℕ) (u : View E R) → j ≢ id → get_elem? s.views j ≡ maybe.some u → u.waits ≡ true → w.waits ≡ true → u.ticket ≡ w.ticket → ⊥)
      → (w.mark ≡ true → v.mark ≡ true)
      → w.parts ≡ v.parts → ((k : ℕ) → Has v.own k → Has w.own k) → ((k : ℕ) → length r.log ≤ k → k < length log → Has w.own k)
      → (((j : ℕ) (u : View E R) → j ≢ id → get_elem? s.views j ≡ maybe.some u → u.inside ≡ false) → w.inside ≡ false → Rests entries root log base homes)
      → Rule record { words = ws; homes = homes; views = set s.views id w }
  put s r ws homes log id v w at short one posted others mine alone mark parts own new rests = record {
    log = log;
    short = short;
    parts = let h = total_set (λ (u : View E R). u.parts) s.views id v w at in let g = r.parts in omega arith;
    covered = λ k pos l. dite (dec_le (length r.log) k)
        (λ new_one. (id, w, set_here s.views id w (inside_length s.views id v at), new k new_one l))
        (λ old. let h = r.covered k pos (lt_of_not-le old) in dite (ℕ_discrete h.0 id)
        (λ same. (id, w, set_here s.views id w (inside_length s.views id v at), own k (subst (λ (z : View E R). Has z.own k) (same_at s.views h.0 id h.1 v h.2 at same) h.3)))
        (λ other. (h.0, h.1, set_else s.views id h.0 w other ∙ h.2, h.3)));
    one = one;
    posted = posted;
    each = λ j u e. ⊎_elim
        (λ (t : (j ≡ id) × (w ≡ u)). subst (λ (y : ℕ × View E R). K log (get_or ws 0 0) (get_or ws 1 0) y.0 y.1) (λ i. (sym t.0 i, t.1 i)) mine)
        (λ (t : (j ≢ id) × (get_elem? s.views j ≡ maybe.some u)). others j u t.0 t.1)
        (at_set s.views id j w u e);
    apart = λ i j u y a b p q same. ⊎_elim
        (λ (t : (i ≡ id) × (w ≡ u)). ⊎_elim
        (λ (z : (j ≡ id) × (w ≡ y)). t.0 ∙ sym z.0)
        (λ (z : (j ≢ id) × (get_elem? s.views j ≡ maybe.some y)). absurd (alone j y z.0 z.1 q (ap (λ (x : View E R). x.waits) t.1 ∙ p) (sym same ∙ ap (λ (x : View E R). x.ticket) (sym t.1))))
        (at_set s.views id j w y b))
        (λ (t : (i ≢ id) × (get_elem? s.views i ≡ maybe.some u)). ⊎_elim
        (λ (z : (j ≡ id) × (w ≡ y)). absurd (alone i u t.0 t.1 p (ap (λ (x : View E R). x.waits) z.1 ∙ q) (same ∙ ap (λ (x : View E R). x.ticket) (sym z.1))))
        (λ (z : (j ≢ id) × (get_elem? s.views j ≡ maybe.some y)). r.apart i j u y t.1 z.1 p q same)
        (at_set s.views id j w y b))
        (at_set s.views id i w u a);
    one_mark = λ i j u y a b p q. ⊎_elim
        (λ (t : (i ≡ id) × (w ≡ u)). ⊎_elim
        (λ (z : (j ≡ id) × (w ≡ y)). t.0 ∙ sym z.0)
        (λ (z : (j ≢ id) × (get_elem? s.views j ≡ maybe.some y)). t.0 ∙ r.one_mark id j v y at z.1 (mark (ap (λ (x : View E R). x.mark) t.1 ∙ p)) q)
        (at_set s.views id j w y b))
        (λ (t : (i ≢ id) × (get_elem? s.views i ≡ maybe.some u)). ⊎_elim
        (λ (z : (j ≡ id) × (w ≡ y)). r.one_mark i id u v t.1 at p (mark (ap (λ (x : View E R). x.mark) z.1 ∙ q)) ∙ sym z.0)
        (λ (z : (j ≢ id) × (get_elem? s.views j ≡ maybe.some y)). r.one_mark i j u y t.1 z.1 p q)
        (at_set s.views id j w y b))
        (at_set s.views id i w u a);
    rests = λ out. rests (λ j u other e. out j u (set_else s.views id j w other ∙ e)) (out id w (set_here s.views id w (inside_length s.views id v at)));
  }

  -- no pass is inside, where this one isn't and no other is
  all_out : (s : St) (id : ℕ) (v : View E R) → get_elem? s.views id ≡ maybe.some v → v.inside ≡ false → ((j : ℕ) (u : View E R) → j ≢ id → get_elem? s.views j ≡ maybe.some u → u.inside ≡ false)
      → (j : ℕ) (u : View E R) → get_elem? s.views j ≡ maybe.some u → u.inside ≡ false
  all_out s id v at out others j u e = dite (ℕ_discrete j id) (λ same. ap (λ (x : View E R). x.inside) (same_at s.views j id u v e at same) ∙ out) (λ other. others j u other e)

  -- a step that changes nothing but the pass's view, and there no ticket and no mark
  noticed : (s : St) (r : Rule s) (i id : ℕ) (cs : List (ℕ × Place V)) (v w : View E R) → get_elem? s.views id ≡ maybe.some v → K r.log (get_or s.words 0 0) (get_or s.words 1 0) id w
      → w.waits ≡ v.waits → w.ticket ≡ v.ticket → w.mark ≡ v.mark → w.inside ≡ v.inside → w.parts ≡ v.parts → w.own ≡ v.own → Rule (stepped s i (get_or s.words i 0) id cs w keeps)
  noticed s r i id cs v w at mine waits ticket mark inside parts own = subst (λ (ws : List ℕ). Rule record { words = ws; homes = s.homes; views = set s.views id w }) (sym (set-get_or s.words i 0))
      (put s r s.words s.homes r.log id v w at r.short r.one r.posted (λ j u other e. r.each j u e) mine
      (λ j u other e p q same. other (r.apart j id u v e at p (sym waits ∙ q) (same ∙ ticket)))
      (λ m. sym mark ∙ m)
      parts (λ k h. subst (λ (l : List ℕ). Has l k) (sym own) h) (λ k a b. absurd (omega arith))
      (λ others out. r.rests (all_out s id v at (sym inside ∙ out) others)))

  -- a step that changes nothing
  still : (i id : ℕ) (v : View E R) (cs : List (ℕ × Place V)) (s : St) → Rule s → get_elem? s.views id ≡ maybe.some v → (told : Me (Place V) (View E R) → Type 0) → told (v, cs)
      → (w : View E R) × (a : Act (Place V)) × table.Valid s.homes cs a × Rule (stepped s i (get_or s.words i 0) id cs w a) × told (w, table.carried_after cs a)
  still i id v cs s r at told is = (v, keeps, tt, noticed s r i id cs v v at (r.each id v at) refl refl refl refl refl refl, is)

  pub compares : (slots id w : ℕ) (v : View E R) (cs : List (ℕ × Place V)) → Allows Rule slots id (v, cs) w (λ x. x) (Compares gives (step slots w 0 0 maybe.none) (v, cs))
  compares slots id w v cs s r wide at _ =
      let f = r.each id v at in
      still w id v cs s r at (λ m. Compares gives (step slots w 0 0 maybe.none) (v, cs) (get_or s.words w 0) m)
      (refl, λ inside. let now = sym (f.inside inside).2 in (subst (λ (l : List E). AllHeard l v.heard) now f.heard, subst (λ (l : List E). AllAgree gives l v.notes) now f.agree))

  pub polls : (slots id w : ℕ) (v : View E R) (cs : List (ℕ × Place V)) → 2 ≤ w → w < n + 2 → Allows Rule slots id (v, cs) w (λ x. x) (Polls gives (step slots w 0 0 maybe.none) (v, cs))
  polls slots id w v cs low high s r wide at _ =
      let f = r.each id v at in
      let x : ℕ = get_or s.words w 0 in
      let i : ℕ = w - 2 in
      let back : i + 2 ≡ w = omega arith in
      let tells = subst (λ (z : ℕ). Tells gives r.log i (get_or s.words z 0)) back (r.each_word i (omega arith)) in
      let u = noted v i (x / 256) (x % 256) in (
        u,
        keeps,
        tt,
        noticed s r w id cs v u at record { same = f.same; some_seen = f.some_seen; idle = f.idle; own_seen = f.own_seen; starts = f.starts; heard = f.heard; waits = f.waits; inside = f.inside; mark = f.mark; served = f.served; agree = λ j m e. ⊎_elim (f.agree j m) (λ (t : note i (x / 256) (x % 256) ≡ m). subst (λ (z : Note). Gave gives r.log z.0 z.1 z.2) t tells.0) (at_snoc v.notes (note i (x / 256) (x % 256)) m j e) } refl refl refl refl refl refl,
        (refl, refl, ((λ j y g. tells.1 j y (given_later gives r.log v.seen i j y f.starts g)), (λ j k y e. tells.1 k y (f.agree j (note i k y) e))), (let z = inside_length r.log (x / 256) tells.0.0 tells.0.1 in let y = r.short in omega arith)),
      )

  -- the pass that has the ticket that is served finds nobody inside
  nobody : (s : St) (r : Rule s) (id : ℕ) (v : View E R) → get_elem? s.views id ≡ maybe.some v → v.waits ≡ true → v.inside ≡ false → v.ticket ≡ get_or s.words 0 0
      → (j : ℕ) (u : View E R) → get_elem? s.views j ≡ maybe.some u → u.inside ≡ false
  nobody s r id v at waits out served = all_out s id v at out (λ j u other e. not_true u.inside (λ is. let h = (r.each j u e).inside is in other (r.apart j id u v e at h.0 waits (h.1 ∙ sym served))))

  pub live_of : (id : ℕ) (v : View E R) (s : St) (r : Rule s) → get_elem? s.views id ≡ maybe.some v → v.waits ≡ true → 0 < v.parts
  live_of id v s r at waits = dite (ℕ_discrete v.parts 0) (λ none. absurd (true≢false (sym waits ∙ ((r.each id v at).idle none).1))) (λ some. omega arith)

  -- the entries after the first are all the own ones of a pass with all parts, which has seen all
  pub owns_all : (s : St) (r : Rule s) (id : ℕ) (v : View E R) → get_elem? s.views id ≡ maybe.some v → v.parts ≡ all_parts → (k : ℕ) → 0 < k → k < length r.log → Has v.own k
  owns_all s r id v at all k pos l = let h = r.covered k pos l in dite (ℕ_discrete h.0 id)
      (λ same. subst (λ (z : View E R). Has z.own k) (same_at s.views h.0 id h.1 v h.2 at same) h.3)
      (λ other. absurd (none_in h.1.own k ((r.each h.0 h.1 h.2).idle (let a = total_two (λ (z : View E R). z.parts) s.views h.0 id h.1 v other h.2 at in let b = r.parts in omega arith)).0 h.3))
    where
      none_in : (own : List ℕ) (k : ℕ) → own ≡ [] → Has own k → ⊥
      none_in own k e h = some-ne-none k (sym h.1 ∙ ap (λ (l : List ℕ). get_elem? l h.0) e)

  pub sees_all : (s : St) (r : Rule s) (id : ℕ) (v : View E R) → get_elem? s.views id ≡ maybe.some v → v.parts ≡ all_parts → r.log ≡ v.seen
  sees_all s r id v at all =
      let f = r.each id v at in
      let some : 0 < length v.seen = f.some_seen (omega arith) in
      whole v.seen r.log f.starts (λ k l. dite (ℕ_discrete k 0) (λ z. subst (λ (i : ℕ). i < length v.seen) (sym z) some) (λ z. f.own_seen k (owns_all s r id v at all k (omega arith) l)))
    where
      whole : (seen log : List E) → StartsWith log seen → ((k : ℕ) → k < length log → k < length seen) → log ≡ seen
      whole seen log (([], e)) h = e ∙ append-nil seen
      whole seen log ((x ∷ xs, e)) h = absurd (let a = h (length seen) (omega (arith, ap length e, length-append seen (x ∷ xs))) in omega arith)

  -- what is told of a pass that took the value
  has_entered : (s : St) (r : Rule s) (id : ℕ) (v w : View E R) → get_elem? s.views id ≡ maybe.some v → 0 < v.parts → IsKin v w → w.inside ≡ true → w.seen ≡ r.log → (home : Rests entries root r.log base s.homes)
      → HasEntered entries gives is_open root v (w, (0, Here home.0) ∷ [])
  has_entered s r id v w at live kin inside seen home =
      let f = r.each id v at in (
        home.0,
        refl,
        inside,
        seen ∙ sym home.2,
        kin,
        subst (λ (l : List E). StartsWith l v.seen) (sym home.2) f.starts,
        subst (λ (l : List E). AllAgree gives l v.notes) (sym home.2) f.agree,
        f.same live ∙ ap Some (sym home.3),
        (λ m. subst (λ (l : List E). OpenFrom is_open l (length v.seen)) (sym home.2) (f.mark m)),
        live,
        (λ all. home.2 ∙ sees_all s r id v at all),
        subst (λ (l : List E). AllHeard l v.heard) (sym home.2) f.heard,
      )

  -- the words after the next ticket, which was `old`, was drawn
  drawn : (s : St) (r : Rule s) (old : ℕ) → get_or s.words 1 0 ≡ old → old + 1 < 2 ^ 64
      → let ws = set s.words 1 (old + 1) in (get_or ws 0 0 ≡ get_or s.words 0 0) × (get_or ws 1 0 ≡ old + 1) × Posted gives n r.log ws
  drawn s r old is small =
      let ws = set s.words 1 (old + 1) in
      let long = r.wide in
      let below = r.below in
      let zero_is : get_or ws 0 0 ≡ get_or s.words 0 0 = get_or-set_other s.words 1 0 (old + 1) 0 (λ e. omega arith) in
      let one_is : get_or ws 1 0 ≡ old + 1 = get_or-set_same s.words 1 (old + 1) 0 (omega arith) in (
        zero_is,
        one_is,
        record { wide = length-set s.words 1 (old + 1) ∙ r.wide; below = omega arith; small = omega arith; each_word = λ i l. subst (Tells gives r.log i) (sym (get_or-set_other s.words 1 (i + 2) (old + 1) 0 (λ e. omega arith))) (r.each_word i l) },
      )

  pub enters : (slots id : ℕ) (v : View E R) → v.waits ≡ true → v.inside ≡ false → Allows Rule slots id (v, []) 0 (λ x. x) (Enters entries gives is_open root (step slots 0 0 0 maybe.none) (v, []))
  enters slots id v waits out s r wide at _ =
      let f = r.each id v at in
      let x : ℕ = get_or s.words 0 0 in
      dite (ℕ_discrete x v.ticket)
      (λ served.
      let home = r.rests (nobody s r id v at waits out (sym served)) in
      let w = entered v r.log in
      let homes = set s.homes 0 maybe.none in (
        w,
        takes 0 (Here home.0),
        ap (λ h. get_elem? h 0) home.1,
        subst (λ (ws : List ℕ). Rule record { words = ws; homes = homes; views = set s.views id w }) (sym (set-get_or s.words 0 0))
            (put s r s.words homes r.log id v w at r.short (length-set s.homes 0 maybe.none ∙ r.one) r.posted (λ j u other e. r.each j u e)
            record { same = f.same; waits = f.waits; agree = f.agree; served = f.served; some_seen = λ p. let a = f.some_seen p in let h = starts_longer r.log v.seen f.starts in omega arith; idle = λ p. absurd (true≢false (sym waits ∙ (f.idle p).1)); own_seen = λ k h. let a = f.own_seen k h in let b = starts_longer r.log v.seen f.starts in omega arith; starts = ([], sym (append-nil r.log)); heard = f.heard; inside = λ _. (waits, sym served, refl); mark = λ m j e l g. f.mark m j e (let h = starts_longer r.log v.seen f.starts in omega arith) g }
            (λ j u other e p q same. other (r.apart j id u v e at p q same))
            (λ m. m)
            refl (λ k h. h) (λ k a b. absurd (omega arith))
            (λ _ o. absurd (true≢false o))),
        ((λ not. absurd (not served)), (λ _. has_entered s r id v w at (live_of id v s r at waits) (refl, refl, refl, refl, refl, refl) refl refl home)),
      ))
      (λ other. still 0 id v [] s r at (Enters entries gives is_open root (step slots 0 0 0 maybe.none) (v, []) x) ((λ _. refl), (λ is. absurd (other is))))

  pub looks : (slots id : ℕ) (v : View E R) (cs : List (ℕ × Place V)) → Allows Rule slots id (v, cs) 0 (λ x. x) (Looks (step slots 0 0 0 maybe.none) (v, cs))
  looks slots id v cs s r wide at _ =
      let f = r.each id v at in
      let x : ℕ = get_or s.words 0 0 in
      let w = looked v x in (
        w,
        keeps,
        tt,
        noticed s r 0 id cs v w at record { same = f.same; some_seen = f.some_seen; idle = f.idle; own_seen = f.own_seen; starts = f.starts; heard = f.heard; waits = f.waits; inside = f.inside; agree = f.agree; mark = f.mark; served = omega arith } refl refl refl refl refl refl,
        (refl, refl),
      )

  -- a pass whose next ticket is one that it saw served finds that nobody waits
  pub arrives : (slots id old : ℕ) (v : View E R) → 0 < v.parts → v.waits ≡ false → v.inside ≡ false → v.served ≡ old → old + 1 < 2 ^ 64
      → Allows Rule slots id (v, []) 1 (λ x. either (eqb x old) (old + 1) x) (Arrives entries gives is_open root (step slots 1 old (old + 1) maybe.none) (v, []))
  arrives slots id old v live calm out saw small s r wide at _ =
      let f = r.each id v at in
      let x : ℕ = get_or s.words 1 0 in
      let first : ℕ = get_or s.words 0 0 in
      let told = Arrives entries gives is_open root (step slots 1 old (old + 1) maybe.none) (v, []) in
      let Goes : ℕ → Type 0 = λ y. (w : View E R) × (a : Act (Place V)) × table.Valid s.homes [] a × Rule (stepped s 1 y id [] w a) × told x (w, table.carried_after [] a) in
      exchanged x old (old + 1) Goes
      (λ hit.
      let below = r.below in
      let seen_served = f.served in
      let now : first ≡ old = omega arith in
      let none_waits : (j : ℕ) (u : View E R) → get_elem? s.views j ≡ maybe.some u → u.waits ≡ true → ⊥ = λ j u e p. let q = (r.each j u e).waits p in omega arith in
      let home = r.rests (λ j u e. not_true u.inside (λ is. none_waits j u e ((r.each j u e).inside is).0)) in
      let w = entered (queued v old) r.log in
      let ws = set s.words 1 (old + 1) in
      let homes = set s.homes 0 maybe.none in
      let (zero_is, one_is, posted) = drawn s r old hit small in (
        w,
        takes 0 (Here home.0),
        ap (λ h. get_elem? h 0) home.1,
        put s r ws homes r.log id v w at r.short (length-set s.homes 0 maybe.none ∙ r.one) posted
            (λ j u other e. let g = r.each j u e in record { same = g.same; some_seen = g.some_seen; idle = g.idle; own_seen = g.own_seen; starts = g.starts; heard = g.heard; agree = g.agree; mark = g.mark; waits = λ p. absurd (none_waits j u e p); inside = λ p. absurd (none_waits j u e (g.inside p).0); served = let a = g.served in omega arith })
            record { same = f.same; agree = f.agree; some_seen = λ p. let a = f.some_seen p in let h = starts_longer r.log v.seen f.starts in omega arith; idle = λ p. absurd (omega arith); own_seen = λ k h. let a = f.own_seen k h in let b = starts_longer r.log v.seen f.starts in omega arith; starts = ([], sym (append-nil r.log)); heard = f.heard; waits = λ _. (omega arith, omega arith); inside = λ _. (refl, sym now ∙ sym zero_is, refl); mark = λ m j e l g. f.mark m j e (let h = starts_longer r.log v.seen f.starts in omega arith) g; served = let a = f.served in omega arith }
            (λ j u other e p _ _. none_waits j u e p)
            (λ m. m)
            refl (λ k h. h) (λ k a b. absurd (omega arith))
            (λ _ o. absurd (true≢false o)),
        ((λ not. absurd (not hit)), (λ _. has_entered s r id v w at live (refl, refl, refl, refl, refl, refl) refl refl home)),
      ))
      (λ miss. still 1 id v [] s r at (told x) ((λ _. refl), (λ hit. absurd (miss hit))))

  pub draws : (slots id old : ℕ) (v : View E R) (cs : List (ℕ × Place V)) → 0 < v.parts → v.waits ≡ false → v.inside ≡ false → old + 1 < 2 ^ 64
      → Allows Rule slots id (v, cs) 1 (λ x. either (eqb x old) (old + 1) x) (Draws (step slots 1 old (old + 1) maybe.none) (v, cs))
  draws slots id old v cs live waits out small s r wide at _ =
      let f = r.each id v at in
      let x : ℕ = get_or s.words 1 0 in
      let first : ℕ = get_or s.words 0 0 in
      let told = Draws (step slots 1 old (old + 1) maybe.none) (v, cs) in
      let Goes : ℕ → Type 0 = λ y. (w : View E R) × (a : Act (Place V)) × table.Valid s.homes cs a × Rule (stepped s 1 y id cs w a) × told x (w, table.carried_after cs a) in
      exchanged x old (old + 1) Goes
      (λ hit.
      let w = record v { waits = true; ticket = x } in
      let ws = set s.words 1 (old + 1) in
      let below = r.below in
      let (zero_is, one_is, posted) = drawn s r old hit small in (
        w,
        keeps,
        tt,
        put s r ws s.homes r.log id v w at r.short r.one posted
            (λ j u other e. let g = r.each j u e in record { same = g.same; some_seen = g.some_seen; idle = g.idle; own_seen = g.own_seen; starts = g.starts; heard = g.heard; agree = g.agree; mark = g.mark; waits = λ p. let q = g.waits p in (omega arith, omega arith); inside = λ p. let q = g.inside p in (q.0, q.1 ∙ sym zero_is, q.2); served = let a = g.served in omega arith })
            record { same = f.same; some_seen = f.some_seen; own_seen = f.own_seen; starts = f.starts; heard = f.heard; agree = f.agree; mark = f.mark; idle = λ p. absurd (omega arith); waits = λ _. (omega arith, omega arith); inside = λ p. absurd (true≢false (sym p ∙ out)); served = let a = f.served in omega arith }
            (λ j u other e p q same. let g = (r.each j u e).waits p in omega arith)
            (λ m. m)
            refl (λ k h. h) (λ k a b. absurd (omega arith))
            (λ others o. r.rests (all_out s id v at out others)),
        (refl, (λ _. refl), (λ not. absurd (not hit))),
      ))
      (λ miss. still 1 id v cs s r at (told x) (refl, (λ hit. absurd (miss hit)), (λ _. refl)))
