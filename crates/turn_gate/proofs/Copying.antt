-- What a pass knows is copied, and another pass is told it.
use Rattle.std.proofs.Common.{◌≡◌, ◌≢◌, ◌⊎◌, ℕ, suc, List, [], ◌∷◌, ◌++◌, length, set, get_or, Bool, true, true≢false, refl, sym, ap, ◌∙◌, subst, inl, inr, ⊎_elim, arith}
use Rattle.std.specs.Prelude.{Option}
use mathlib.Core.Logic.{dite}
use mathlib.Core.Option as maybe
use mathlib.Core.Option.{some-ne-none, some-injective}
use native.Mathlib.Decide.{ℕ_discrete}
use lib.ListN.{get_elem?}
use Rattle.atomic_table.specs.Table.{State, Splits, Joins}
use Rattle.atomic_table.proofs.Lists.{at_set, at_snoc, set_here, set_else, at_longer, at_last}
use Rattle.turn_gate.specs.declared.pass.View.{View}
use Rattle.turn_gate.specs.declared.pass.Place.{Place}
use Rattle.turn_gate.specs.Entries.{StartsWith, AllAgree, AllHeard}
use Rattle.turn_gate.specs.Pass.{Has, copied, IsCopy, IsWithin, informed, spent}
use Rattle.turn_gate.specs.Turns.{Knows, Gated}
use Rattle.turn_gate.proofs.Histories.{inside_length, same_at, total_set, total_snoc}
use Rattle.turn_gate.proofs.Passes.{at_append, reviewed}

-- the last of what was heard
pub last_heard : {E : Type 0} (log seen : List E) (heard : List (List E)) → AllHeard log (heard ++ seen ∷ []) → StartsWith log seen
last_heard log seen heard h = h (length heard) seen (at_last heard seen (length heard) refl)

module _ {V E R : Type 0} (entries : V → List E) (gives : E → ℕ → Option ℕ) (is_open : E → Bool) (root : V → R) (n : ℕ) (base : R) where
  abbrev St : Type 0
  St = State (Place V) (View E R)

  abbrev Rule : St → Type 0
  Rule = Gated entries gives is_open root n base

  abbrev Vw : Type 0
  Vw = View E R

  -- the last notes are those that were told
  pub last_notes : (log : List E) (notes told : List (ℕ × ℕ × ℕ)) → AllAgree gives log (notes ++ told) → AllAgree gives log told
  last_notes log [] told h = h
  last_notes log (x ∷ xs) told h = last_notes log xs told (λ i m e. h (suc i) m e)

  first_of : Vw → List Vw → Vw
  first_of d [] = d
  first_of d (x ∷ xs) = x

  pub same_view : (xs : List Vw) (v w : Vw) → xs ≡ v ∷ [] → xs ≡ w ∷ [] → v ≡ w
  unfolding first_of
  same_view xs v w a b = ap (first_of v) (sym a ∙ b)

  pub is_copy : (v w : Vw) → w ≡ copied v → IsCopy w
  is_copy v w e = (ap (λ (z : Vw). z.parts) e, ap (λ (z : Vw). z.own) e, ap (λ (z : Vw). z.mark) e, ap (λ (z : Vw). z.waits) e, ap (λ (z : Vw). z.inside) e)

  -- what was told, of a view that was copied
  pub stands : (x v w s : Vw) → x ≡ informed v w → w ≡ copied s → v.inside ≡ true → (x.inside ≡ true → AllHeard x.seen x.heard × AllAgree gives x.seen x.notes) → IsWithin gives v.seen s
  stands x v w s is copy inside told =
      let h = told (ap (λ (z : Vw). z.inside) is ∙ inside) in
      let g : AllHeard v.seen (v.heard ++ w.seen ∷ []) × AllAgree gives v.seen (v.notes ++ w.notes) = subst (λ (z : Vw). AllHeard z.seen z.heard × AllAgree gives z.seen z.notes) is h in
      let both : IsWithin gives v.seen w = (last_heard v.seen w.seen v.heard g.0, last_notes v.seen v.notes w.notes g.1) in
      subst (IsWithin gives v.seen) copy both

  pub copies : (id : ℕ) (v : Vw) → Splits Rule id v v (copied v)
  copies id v s r at =
      let f = r.each id v at in
      let x = copied v in
      let first = set s.views id v in
      let K : ℕ → Vw → Type 0 = Knows gives is_open r.log base (get_or s.words 0 0) (get_or s.words 1 0) in
      let mine : (j : ℕ) → K j v = λ j. record { own_seen = f.own_seen; starts = f.starts; heard = f.heard; waits = f.waits; inside = f.inside; agree = f.agree; mark = f.mark; served = f.served; same = f.same; some_seen = f.some_seen; idle = f.idle } in
      let new : (j : ℕ) → K j x = λ j. record { starts = f.starts; heard = f.heard; served = f.served; same = λ p. absurd (omega arith); some_seen = λ p. absurd (omega arith); idle = λ _. (refl, refl, refl); own_seen = λ k h. absurd (some-ne-none k (sym h.1)); waits = λ p. absurd (true≢false (sym p)); inside = λ p. absurd (true≢false (sym p)); agree = f.agree; mark = λ p. absurd (true≢false (sym p)) } in
      let long = inside_length s.views id v at in
      reviewed entries gives is_open root n base s r (first ++ x ∷ [])
      (λ j u e. ⊎_elim
      (λ (t : get_elem? first j ≡ maybe.some u). ⊎_elim
      (λ (z : (j ≡ id) × (v ≡ u)). subst (K j) z.1 (mine j))
      (λ (z : (j ≢ id) × (get_elem? s.views j ≡ maybe.some u)). r.each j u z.1)
      (at_set s.views id j v u t))
      (λ (t : x ≡ u). subst (K j) t (new j))
      (at_snoc first x u j e))
      (λ j u e p. ⊎_elim
      (λ (t : get_elem? first j ≡ maybe.some u). ⊎_elim
      (λ (z : (j ≡ id) × (v ≡ u)). (v, subst (λ (i : ℕ). get_elem? s.views i ≡ maybe.some v) (sym z.0) at, ap (λ (y : Vw). y.waits) z.1 ∙ p, ap (λ (y : Vw). y.ticket) z.1))
      (λ (z : (j ≢ id) × (get_elem? s.views j ≡ maybe.some u)). (u, z.1, p, refl))
      (at_set s.views id j v u t))
      (λ (t : x ≡ u). absurd (true≢false (sym p ∙ sym (ap (λ (y : Vw). y.waits) t))))
      (at_snoc first x u j e))
      (λ i j u y a b p q. let back : (i : ℕ) (u : Vw) → get_elem? (first ++ x ∷ []) i ≡ maybe.some u → u.mark ≡ true → (z : Vw) × (get_elem? s.views i ≡ maybe.some z) × (z.mark ≡ true) = λ i u e p. ⊎_elim
      (λ (t : get_elem? first i ≡ maybe.some u). ⊎_elim
      (λ (z : (i ≡ id) × (v ≡ u)). (v, subst (λ (k : ℕ). get_elem? s.views k ≡ maybe.some v) (sym z.0) at, ap (λ (y : Vw). y.mark) z.1 ∙ p))
      (λ (z : (i ≢ id) × (get_elem? s.views i ≡ maybe.some u)). (u, z.1, p))
      (at_set s.views id i v u t))
      (λ (t : x ≡ u). absurd (true≢false (sym p ∙ sym (ap (λ (y : Vw). y.mark) t))))
      (at_snoc first x u i e) in
      let g = back i u a p in let h = back j y b q in r.one_mark i j g.0 h.0 g.1 h.1 g.2 h.2)
      (λ k j u e h. dite (ℕ_discrete j id)
      (λ same. (id, v, at_longer first (x ∷ []) id v (set_here s.views id v long), subst (λ (z : Vw). Has z.own k) (same_at s.views j id u v e at same) h))
      (λ other. (j, u, at_longer first (x ∷ []) j u (set_else s.views id j v other ∙ e), h)))
      (λ o j u e. dite (ℕ_discrete j id)
      (λ same. ap (λ (z : Vw). z.inside) (same_at s.views j id u v e at same) ∙ o id v (at_longer first (x ∷ []) id v (set_here s.views id v long)))
      (λ other. o j u (at_longer first (x ∷ []) j u (set_else s.views id j v other ∙ e))))
      (let a = total_snoc (λ (u : Vw). u.parts) first x in let b = total_set (λ (u : Vw). u.parts) s.views id v v at in let c = r.parts in omega arith)

  pub informs : (id : ℕ) (v : Vw) (other : ℕ) (w : Vw) → IsCopy w → Joins Rule id v other w (informed v w) spent
  informs id v other w copy s r at apart there =
      let f = r.each id v at in
      let b = informed v w in
      let gone : Vw = spent in
      let first = set s.views id b in
      let at' : get_elem? s.views other ≡ maybe.some w = ⊎_elim (λ (t : (other ≡ id) × (b ≡ w)). absurd (apart t.0)) (λ (t : (other ≢ id) × (get_elem? s.views other ≡ maybe.some w)). t.1) (at_set s.views id other b w there) in
      let g = r.each other w at' in
      let K : ℕ → Vw → Type 0 = Knows gives is_open r.log base (get_or s.words 0 0) (get_or s.words 1 0) in
      let mine : (j : ℕ) → K j b = λ j. record {
        own_seen = f.own_seen;
        starts = f.starts;
        waits = f.waits;
        inside = f.inside;
        mark = f.mark;
        served = f.served;
        same = f.same;
        some_seen = f.some_seen;
        idle = f.idle;
        heard = λ i z e. ⊎_elim (f.heard i z) (λ (t : w.seen ≡ z). subst (StartsWith r.log) t g.starts) (at_snoc v.heard w.seen z i e);
        agree = λ i z e. ⊎_elim (f.agree i z) (λ (t : (j : ℕ) × (get_elem? w.notes j ≡ maybe.some z)). g.agree t.0 z t.1) (at_append v.notes w.notes i z e);
      } in
      let spent_is : (j : ℕ) → K j gone = λ j. record { same = λ p. absurd (omega arith); some_seen = λ p. absurd (omega arith); idle = λ _. (refl, refl, refl); own_seen = λ k h. absurd (some-ne-none k (sym h.1)); starts = (r.log, refl); heard = λ i z e. absurd (some-ne-none z (sym e)); waits = λ p. absurd (true≢false (sym p)); inside = λ p. absurd (true≢false (sym p)); agree = λ i z e. absurd (some-ne-none z (sym e)); mark = λ p. absurd (true≢false (sym p)); served = omega arith } in
      let ours : (j : ℕ) (u : Vw) → get_elem? (set first other gone) j ≡ maybe.some u → ((j ≡ other) × (gone ≡ u)) ⊎ (((j ≡ id) × (b ≡ u)) ⊎ ((j ≢ id) × (get_elem? s.views j ≡ maybe.some u))) = λ j u e. ⊎_elim inl (λ (t : (j ≢ other) × (get_elem? first j ≡ maybe.some u)). inr (at_set s.views id j b u t.1)) (at_set first other j gone u e) in
      let at_id : get_elem? (set first other gone) id ≡ maybe.some b = set_else first other id gone (λ e. apart (sym e)) ∙ set_here s.views id b (inside_length s.views id v at) in
      let back : (i : ℕ) (u : Vw) → get_elem? (set first other gone) i ≡ maybe.some u → u.mark ≡ true → (z : Vw) × (get_elem? s.views i ≡ maybe.some z) × (z.mark ≡ true) = λ i u e p. ⊎_elim
      (λ (t : (i ≡ other) × (gone ≡ u)). absurd (true≢false (sym p ∙ sym (ap (λ (z : Vw). z.mark) t.1))))
      (λ (t : ((i ≡ id) × (b ≡ u)) ⊎ ((i ≢ id) × (get_elem? s.views i ≡ maybe.some u))). ⊎_elim
      (λ (y : (i ≡ id) × (b ≡ u)). (v, subst (λ (k : ℕ). get_elem? s.views k ≡ maybe.some v) (sym y.0) at, ap (λ (z : Vw). z.mark) y.1 ∙ p))
      (λ (y : (i ≢ id) × (get_elem? s.views i ≡ maybe.some u)). (u, y.1, p))
      t)
      (ours i u e) in
      reviewed entries gives is_open root n base s r (set first other gone)
      (λ j u e. ⊎_elim
      (λ (t : (j ≡ other) × (gone ≡ u)). subst (K j) t.1 (spent_is j))
      (λ (t : ((j ≡ id) × (b ≡ u)) ⊎ ((j ≢ id) × (get_elem? s.views j ≡ maybe.some u))). ⊎_elim
      (λ (y : (j ≡ id) × (b ≡ u)). subst (K j) y.1 (mine j))
      (λ (y : (j ≢ id) × (get_elem? s.views j ≡ maybe.some u)). r.each j u y.1)
      t)
      (ours j u e))
      (λ j u e p. ⊎_elim
      (λ (t : (j ≡ other) × (gone ≡ u)). absurd (true≢false (sym p ∙ sym (ap (λ (z : Vw). z.waits) t.1))))
      (λ (t : ((j ≡ id) × (b ≡ u)) ⊎ ((j ≢ id) × (get_elem? s.views j ≡ maybe.some u))). ⊎_elim
      (λ (y : (j ≡ id) × (b ≡ u)). (v, subst (λ (k : ℕ). get_elem? s.views k ≡ maybe.some v) (sym y.0) at, ap (λ (z : Vw). z.waits) y.1 ∙ p, ap (λ (z : Vw). z.ticket) y.1))
      (λ (y : (j ≢ id) × (get_elem? s.views j ≡ maybe.some u)). (u, y.1, p, refl))
      t)
      (ours j u e))
      (λ i j u y a c p q. let x = back i u a p in let z = back j y c q in r.one_mark i j x.0 z.0 x.1 z.1 x.2 z.2)
      (λ k j u e h. dite (ℕ_discrete j id)
      (λ same. (id, b, at_id, subst (λ (z : Vw). Has z.own k) (same_at s.views j id u v e at same) h))
      (λ not. dite (ℕ_discrete j other)
      (λ same. absurd (some-ne-none k (sym h.1 ∙ ap (λ (l : List ℕ). get_elem? l h.0) (ap (λ (z : Vw). z.own) (same_at s.views j other u w e at' same) ∙ copy.1))))
      (λ not'. (j, u, set_else first other j gone not' ∙ (set_else s.views id j b not ∙ e), h))))
      (λ o j u e. dite (ℕ_discrete j id)
      (λ same. ap (λ (z : Vw). z.inside) (same_at s.views j id u v e at same) ∙ o id b at_id)
      (λ not. dite (ℕ_discrete j other)
      (λ same. ap (λ (z : Vw). z.inside) (same_at s.views j other u w e at' same) ∙ copy.4)
      (λ not'. o j u (set_else first other j gone not' ∙ (set_else s.views id j b not ∙ e)))))
      (let x = total_set (λ (u : Vw). u.parts) s.views id v b at in let y = total_set (λ (u : Vw). u.parts) first other w gone there in let c = r.parts in let z = copy.0 in omega arith)
