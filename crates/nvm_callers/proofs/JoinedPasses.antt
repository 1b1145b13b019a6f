-- What a pass that took in others knows of what they knew.
use Rattle.nvm_callers.proofs.Common.{◌≡◌, ◌⊎◌, inl, inr, ℕ, zero, suc, List, [], ◌∷◌, ◌++◌, refl, sym, subst, arith, append-nil, some, some-ne-none, get_elem?, at_longer, Entry, Note, StartsWith, AllAgree, Has, gives, IsDriven, Share, AllHeard, NoneIsJoined, TurnsCollect, JoinsCollect, NothingIsCollected, CollectedAreAll}
use Rattle.std.proofs.Common.{Contains}
use Rattle.nvm_callers.proofs.Waiting.{agree_before, starts_again}

module _ {A : Type 0} where
  either : (l m : List A) (i : ℕ) (a : A) → get_elem? (l ++ m) i ≡ some a → (get_elem? l i ≡ some a) ⊎ ((j : ℕ) × (get_elem? m j ≡ some a))
  either [] m i a e = inr (i, e)
  either (x ∷ xs) m zero a e = inl e
  either (x ∷ xs) m (suc i) a e = either xs m i a e

  back : (l m : List A) (i : ℕ) (a : A) → get_elem? m i ≡ some a → (j : ℕ) × (get_elem? (l ++ m) j ≡ some a)
  back [] m i a e = (i, e)
  back (x ∷ xs) m i a e = let h = back xs m i a e in (suc h.0, h.1)

  next_of : (l : List A) (a b : A) → (j : ℕ) × (get_elem? (l ++ a ∷ b ∷ []) j ≡ some a)
  next_of l a b = back l (a ∷ b ∷ []) 0 a refl

  last_of : (l : List A) (a b : A) → (j : ℕ) × (get_elem? (l ++ a ∷ b ∷ []) j ≡ some b)
  last_of l a b = back l (a ∷ b ∷ []) 1 b refl

more_told : (h : List Entry) (notes more : List Note) → AllAgree gives h (notes ++ more) → AllAgree gives h more
more_told h notes more agree i n at = let there = back notes more i n at in agree there.0 n there.1

first_heard : (h : List Entry) (heard more : List (List Entry)) → AllHeard h (heard ++ more) → AllHeard h heard
first_heard h heard more all i l at = all i l (at_longer heard more i l at)

-- what came to it later is left out
heard_then : (h : List Entry) (heard heard_new : List (List Entry)) → StartsWith heard_new heard → AllHeard h heard_new → AllHeard h heard
heard_then h heard heard_new starts all = first_heard h heard starts.0 (subst (λ (l : List (List Entry)). AllHeard h l) starts.1 all)

told_then : (h : List Entry) (notes notes_new : List Note) → StartsWith notes_new notes → AllAgree gives h notes_new → AllAgree gives h notes
told_then h notes notes_new starts agree = agree_before h notes starts.0 (subst (AllAgree gives h) starts.1 agree)

last_heard : (h : List Entry) (heard more : List (List Entry)) (a b : List Entry) → AllHeard h (heard ++ (more ++ a ∷ b ∷ [])) → StartsWith h b
last_heard h heard more a b all =
    let there = last_of more a b in
    let here = back heard (more ++ a ∷ b ∷ []) there.0 b there.1 in all here.0 b here.1

before_heard : (h : List Entry) (heard more : List (List Entry)) (a b : List Entry) → AllHeard h (heard ++ (more ++ a ∷ b ∷ [])) → StartsWith h a
before_heard h heard more a b all =
    let there = next_of more a b in
    let here = back heard (more ++ a ∷ b ∷ []) there.0 a there.1 in all here.0 a here.1

no_share : (s : Share) → Contains [] s → ⊥
no_share s (i, low, is) = absurd (omega (arith, low))

share_behind : (s t : Share) (shares : List Share) → Contains shares t → Contains (s ∷ shares) t
share_behind s t shares (i, low, is) = (suc i, omega (arith, low), is)

share_first : (s : Share) (shares : List Share) → Contains (s ∷ shares) s
share_first s shares = (0, omega arith, refl)

share_of : (s t : Share) (shares : List Share) → Contains (s ∷ shares) t → (s ≡ t) ⊎ Contains shares t
share_of s t shares (zero, low, is) = inl is
share_of s t shares (suc i, low, is) = inr (i, omega (arith, low), is)

same_start : (h : List Entry) → StartsWith h h
same_start h = ([], sym (append-nil h))

driven_on : (h seen : List Entry) (k : ℕ) → StartsWith h seen → IsDriven seen k → IsDriven h k
driven_on h seen k starts driven =
    (driven.0, subst (λ (l : List Entry). get_elem? l k ≡ some driven.0) (sym starts.1) (at_longer seen starts.0 k driven.0 driven.1), driven.2, driven.3)

pub none_is_joined : NoneIsJoined
none_is_joined v own = record {
  owns = λ k has. inl (λ h starts heard. driven_on h v.seen k starts (own k has));
  told = λ s none. absurd (no_share s none);
  began = λ s none. absurd (no_share s none);
}

pub turns_collect : TurnsCollect
turns_collect shares v w learns collects = record {
  owns = λ k has. elim (learns.own k has) [
    | inl old ↦ elim (collects.owns k old) [
      | inl driven ↦ inl (λ h starts heard. driven h (starts_again h w.seen v.seen starts learns.starts) (heard_then h v.heard w.heard learns.heard heard))
      | inr one ↦ inr one
    ]
    | inr driven ↦ inl (λ h starts heard. driven_on h w.seen k starts driven)
  ];
  told = λ s within h agree. collects.told s within h (told_then h v.notes w.notes learns.notes agree);
  began = λ s within h heard. collects.began s within h (heard_then h v.heard w.heard learns.heard heard);
}

pub joins_collect : JoinsCollect
joins_collect shares v w s own seen notes collects = record {
  owns = λ k has. elim (either v.own w.own has.0 k has.1) [
    | inl old ↦ elim (collects.owns k (has.0, old)) [
      | inl driven ↦ inl (λ h starts heard. driven h (before_heard h v.heard w.heard v.seen w.seen heard) (first_heard h v.heard (w.heard ++ v.seen ∷ w.seen ∷ []) heard))
      | inr one ↦ inr (one.0, share_behind s one.0 shares one.1, one.2)
    ]
    | inr new ↦ inr (s, share_first s shares, subst (λ (ks : List ℕ). Has ks k) (sym own) new)
  ];
  told = λ t within h agree. elim (share_of s t shares within) [
    | inl same ↦ subst (λ (x : Share). AllAgree gives h x.notes) same (subst (AllAgree gives h) (sym notes) (more_told h v.notes w.notes agree))
    | inr old ↦ collects.told t old h (agree_before h v.notes w.notes agree)
  ];
  began = λ t within h heard. elim (share_of s t shares within) [
    | inl same ↦ subst (λ (x : Share). StartsWith h x.seen) same (subst (StartsWith h) (sym seen) (last_heard h v.heard w.heard v.seen w.seen heard))
    | inr old ↦ collects.began t old h (first_heard h v.heard (w.heard ++ v.seen ∷ w.seen ∷ []) heard)
  ];
}

nothing_told : (h : List Entry) → AllAgree gives h []
nothing_told h i n at = absurd (some-ne-none n (sym at))

nothing_seen : (h : List Entry) → StartsWith h []
nothing_seen h = (h, refl)

pub nothing_is_collected : NothingIsCollected
nothing_is_collected shares v s own seen notes collects = record {
  owns = λ k has. elim (collects.owns k has) [
    | inl driven ↦ inl driven
    | inr one ↦ inr (one.0, share_behind s one.0 shares one.1, one.2)
  ];
  told = λ t within h agree. elim (share_of s t shares within) [
    | inl same ↦ subst (λ (x : Share). AllAgree gives h x.notes) same (subst (AllAgree gives h) (sym notes) (nothing_told h))
    | inr old ↦ collects.told t old h agree
  ];
  began = λ t within h heard. elim (share_of s t shares within) [
    | inl same ↦ subst (λ (x : Share). StartsWith h x.seen) same (subst (StartsWith h) (sym seen) (nothing_seen h))
    | inr old ↦ collects.began t old h heard
  ];
}

pub collected_are_all : CollectedAreAll
collected_are_all c cap h shares v collects first seen owns agree heard done apart = record {
  first = first;
  are = λ s within. record { done = done s within; starts = collects.began s within h heard; agree = collects.told s within h agree };
  all = λ k low high. elim (collects.owns k (owns k low high)) [
    | inl driven ↦ inl (driven h (subst (λ (l : List Entry). StartsWith h l) (sym seen) (same_start h)) heard)
    | inr one ↦ inr one
  ];
  apart = apart;
}
