-- Power cuts that were planned, and others, from events to events.
use Rattle.script_player.proofs.Common.{map, ◌≡◌, ◌≤◌, ◌+◌, ◌⊎◌, ℕ, List, [], ◌∷◌, ◌++◌, Option, Some, None, refl, sym, ap, ◌∙◌, subst, inl, inr, arith, append-nil, append_assoc, WereCounted, last_count, ops_behind, Entry, Ask, Pick, Wrote, Post, Off, Found, State, StepKind, DueCut, Event, Made, Added, plan_after, CutsAre, StackTold, state_of, TellsOff, IsNoEarlier, AreCut, plan_behind, ops_at}

-- COUNTS

pub counted_more : (m n a b d : ℕ) → WereCounted m a b → WereCounted n b d → WereCounted (m + n) a d
counted_more m n a b d (inl x) (inl y) = inl (omega (arith, x, y))
counted_more m n a b d (inl x) (inr y) = inr y
counted_more m n a b d (inr x) (inl y) = inr (omega (arith, x, y))
counted_more m n a b d (inr x) (inr y) = inr y

pub none_counted : (a : ℕ) → WereCounted 0 a a
none_counted a = inl (omega arith)

-- PLANS

later_by : (x y z : ℕ) → (x ≤ y) ⊎ (last_count ≤ y) → (y ≤ z) ⊎ (last_count ≤ z) → (x ≤ z) ⊎ (last_count ≤ z)
later_by x y z one (inr end) = inr end
later_by x y z (inl less) (inl later) = inl (omega (arith, less, later))
later_by x y z (inr end) (inl later) = inr (omega (arith, end, later))

pub no_earlier_more : (a b d : Option DueCut) → IsNoEarlier a b → IsNoEarlier b d → IsNoEarlier a d
no_earlier_more a b None one two = tt
no_earlier_more a None (Some z) one two = absurd two
no_earlier_more None (Some y) (Some z) one two = absurd one
no_earlier_more (Some x) (Some y) (Some z) one two = (later_by x.due y.due z.due one.0 two.0, two.1 ∙ one.1)

pub no_earlier_same : (a : Option DueCut) → IsNoEarlier a a
no_earlier_same None = tt
no_earlier_same (Some x) = (inl (omega arith), refl)

-- an earlier plan is earlier behind entries too
pub behind_earlier : (a b : Option DueCut) (m n : ℕ) (es : List Entry) → IsNoEarlier a b → IsNoEarlier (plan_behind a m (map Added es)) (plan_behind b n (map Added es))
behind_earlier a b m n [] is = is
behind_earlier a b m n (Off now ∷ es) is = behind_earlier None None now now es tt
behind_earlier a b m n (Ask caller r reply ∷ es) is = behind_earlier a b (ops_behind m (Ask caller r reply ∷ [])) (ops_behind n (Ask caller r reply ∷ [])) es is
behind_earlier a b m n (Pick block kind t ops ∷ es) is = behind_earlier a b (ops_behind m (Pick block kind t ops ∷ [])) (ops_behind n (Pick block kind t ops ∷ [])) es is
behind_earlier a b m n (Wrote i mark ops ∷ es) is = behind_earlier a b (ops_behind m (Wrote i mark ops ∷ [])) (ops_behind n (Wrote i mark ops ∷ [])) es is
behind_earlier a b m n (Post block r given refused ops ∷ es) is =
    behind_earlier a b (ops_behind m (Post block r given refused ops ∷ [])) (ops_behind n (Post block r given refused ops ∷ [])) es is
behind_earlier a b m n (Found marks ops ∷ es) is = behind_earlier a b (ops_behind m (Found marks ops ∷ [])) (ops_behind n (Found marks ops ∷ [])) es is

-- the cut of one plan is that of an earlier one
earlier_cut : (a b : Option DueCut) (p : DueCut) (now : ℕ) → IsNoEarlier a b → b ≡ Some p → (p.due ≤ now) ⊎ (last_count ≤ now)
    → (q : DueCut) × (a ≡ Some q) × ((q.due ≤ now) ⊎ (last_count ≤ now)) × (p.keep ≡ q.keep)
earlier_cut a None p now is same due = cc same
earlier_cut None (Some x) p now is same due = absurd is
earlier_cut (Some q) (Some x) p now is same due =
    let one : x ≡ p = cc same in
    (q, refl, by (subst (λ (y : DueCut). (q.due ≤ y.due) ⊎ (last_count ≤ y.due)) one is.0) due, ap (λ (y : DueCut). y.keep) (sym one) ∙ is.1)
  where
    by : (q.due ≤ p.due) ⊎ (last_count ≤ p.due) → (p.due ≤ now) ⊎ (last_count ≤ now) → (q.due ≤ now) ⊎ (last_count ≤ now)
    by one two = later_by q.due p.due now one two

pub cuts_earlier : (a b : Option DueCut) (m n : ℕ) (es : List Entry) (cuts : List ℕ) (others : ℕ) → IsNoEarlier a b → CutsAre b m (map Added es) cuts others → CutsAre a n (map Added es) cuts others
cuts_earlier a b m n [] cuts others is are = are
cuts_earlier a b m n (Off now ∷ es) cuts others is (inl (p, rest, plan, due, first, more)) =
    let (q, there, soon, keeps) = earlier_cut a b p now is plan due in
    inl (q, rest, there, soon, first ∙ ap (λ (k : ℕ). k ∷ rest) keeps, cuts_earlier None None now now es rest others tt more)
cuts_earlier a b m n (Off now ∷ es) cuts others is (inr (k, one, more)) = inr (k, one, cuts_earlier None None now now es cuts k tt more)
cuts_earlier a b m n (Ask caller r reply ∷ es) cuts others is are =
    cuts_earlier a b (ops_behind m (Ask caller r reply ∷ [])) (ops_behind n (Ask caller r reply ∷ [])) es cuts others is are
cuts_earlier a b m n (Pick block kind t ops ∷ es) cuts others is are =
    cuts_earlier a b (ops_behind m (Pick block kind t ops ∷ [])) (ops_behind n (Pick block kind t ops ∷ [])) es cuts others is are
cuts_earlier a b m n (Wrote i mark ops ∷ es) cuts others is are =
    cuts_earlier a b (ops_behind m (Wrote i mark ops ∷ [])) (ops_behind n (Wrote i mark ops ∷ [])) es cuts others is are
cuts_earlier a b m n (Post block r given refused ops ∷ es) cuts others is are =
    cuts_earlier a b (ops_behind m (Post block r given refused ops ∷ [])) (ops_behind n (Post block r given refused ops ∷ [])) es cuts others is are
cuts_earlier a b m n (Found marks ops ∷ es) cuts others is are =
    cuts_earlier a b (ops_behind m (Found marks ops ∷ [])) (ops_behind n (Found marks ops ∷ [])) es cuts others is are

-- MORE EVENTS

plan_more : (plan : Option DueCut) (ops : ℕ) (es more : List Event) → plan_behind plan ops (es ++ more) ≡ plan_behind (plan_behind plan ops es) (ops_at ops es) more
plan_more plan ops [] more = refl
plan_more plan ops (Made kind ∷ es) more = plan_more (plan_after kind plan ops) ops es more
plan_more plan ops (Added (Off now) ∷ es) more = plan_more None now es more
plan_more plan ops (Added (Ask caller r reply) ∷ es) more = plan_more plan (ops_behind ops (Ask caller r reply ∷ [])) es more
plan_more plan ops (Added (Pick block kind t now) ∷ es) more = plan_more plan (ops_behind ops (Pick block kind t now ∷ [])) es more
plan_more plan ops (Added (Wrote i mark now) ∷ es) more = plan_more plan (ops_behind ops (Wrote i mark now ∷ [])) es more
plan_more plan ops (Added (Post block r given refused now) ∷ es) more = plan_more plan (ops_behind ops (Post block r given refused now ∷ [])) es more
plan_more plan ops (Added (Found marks now) ∷ es) more = plan_more plan (ops_behind ops (Found marks now ∷ [])) es more

none_before : (plan : Option DueCut) (ops : ℕ) (more : List Event) (ks ls : List ℕ) (n m : ℕ) → ks ≡ [] → n ≡ 0 → CutsAre plan ops more ls m → CutsAre plan ops more (ks ++ ls) (n + m)
none_before plan ops more ks ls n m none zero are =
    subst (λ (xs : List ℕ). CutsAre plan ops more xs (n + m)) (sym (ap (λ (xs : List ℕ). xs ++ ls) none))
    (subst (λ (x : ℕ). CutsAre plan ops more ls x) (omega (arith, zero)) are)

pub cuts_more : (plan : Option DueCut) (ops : ℕ) (es more : List Event) (ks ls : List ℕ) (n m : ℕ) → CutsAre plan ops es ks n → CutsAre (plan_behind plan ops es) (ops_at ops es) more ls m
    → CutsAre plan ops (es ++ more) (ks ++ ls) (n + m)
cuts_more plan ops [] more ks ls n m one two = none_before plan ops more ks ls n m one.0 one.1 two
cuts_more plan ops (Made kind ∷ es) more ks ls n m one two = cuts_more (plan_after kind plan ops) ops es more ks ls n m one two
cuts_more plan ops (Added (Off now) ∷ es) more ks ls n m (inl (p, rest, there, due, first, one)) two =
    inl (p, rest ++ ls, there, due, ap (λ (xs : List ℕ). xs ++ ls) first, cuts_more None now es more rest ls n m one two)
cuts_more plan ops (Added (Off now) ∷ es) more ks ls n m (inr (k, is, one)) two = inr (k + m, omega (arith, is), cuts_more None now es more ks ls k m one two)
cuts_more plan ops (Added (Ask caller r reply) ∷ es) more ks ls n m one two = cuts_more plan (ops_behind ops (Ask caller r reply ∷ [])) es more ks ls n m one two
cuts_more plan ops (Added (Pick block kind t now) ∷ es) more ks ls n m one two = cuts_more plan (ops_behind ops (Pick block kind t now ∷ [])) es more ks ls n m one two
cuts_more plan ops (Added (Wrote i mark now) ∷ es) more ks ls n m one two = cuts_more plan (ops_behind ops (Wrote i mark now ∷ [])) es more ks ls n m one two
cuts_more plan ops (Added (Post block r given refused now) ∷ es) more ks ls n m one two =
    cuts_more plan (ops_behind ops (Post block r given refused now ∷ [])) es more ks ls n m one two
cuts_more plan ops (Added (Found marks now) ∷ es) more ks ls n m one two = cuts_more plan (ops_behind ops (Found marks now ∷ [])) es more ks ls n m one two

-- FROM ONE TO ANOTHER

-- no event
pub none_cut : (plan : Option DueCut) (ops : ℕ) (old new : StackTold) → new.causes.came ≡ old.causes.came → WereCounted 0 old.causes.unplanned new.causes.unplanned → IsNoEarlier plan new.causes.plan
    → (TellsOff old → TellsOff new) → AreCut plan ops [] old new
none_cut plan ops old new came counted stays power = record {
  cuts = [];
  others = 0;
  are = (refl, refl);
  came = came ∙ sym (append-nil old.causes.came);
  counted = counted;
  plan_stays = stays;
  power = power;
}

-- the power is off, or on, as before
pub same_off : (old new : StackTold) → new.causes.off ≡ old.causes.off → state_of new ≡ state_of old → TellsOff old → TellsOff new
same_off old new off state tells is = ap (λ (s : State). s.off) state ∙ tells (sym off ∙ is)

-- a call that leaves all this
pub none_cut_same : (plan : Option DueCut) (ops : ℕ) (old new : StackTold) → new.causes.came ≡ old.causes.came → new.causes.unplanned ≡ old.causes.unplanned → IsNoEarlier plan new.causes.plan
    → new.causes.off ≡ old.causes.off → state_of new ≡ state_of old → AreCut plan ops [] old new
none_cut_same plan ops old new came unplanned stays off state =
    none_cut plan ops old new came (subst (λ (n : ℕ). WereCounted 0 old.causes.unplanned n) (sym unplanned) (none_counted old.causes.unplanned)) stays
    (same_off old new off state)

-- a step before them
pub step_before : (kind : StepKind) (plan : Option DueCut) (ops : ℕ) (es : List Event) (old new : StackTold) → AreCut (plan_after kind plan ops) ops es old new → AreCut plan ops (Made kind ∷ es) old new
step_before kind plan ops es old new is = record { cuts = is.cuts; others = is.others; are = is.are; came = is.came; counted = is.counted; plan_stays = is.plan_stays; power = is.power }

-- by an earlier plan
pub are_earlier : (a b : Option DueCut) (m n : ℕ) (es : List Entry) (old new : StackTold) → IsNoEarlier a b → AreCut b m (map Added es) old new → AreCut a n (map Added es) old new
are_earlier a b m n es old new is cut = record {
  cuts = cut.cuts;
  others = cut.others;
  are = cuts_earlier a b m n es cut.cuts cut.others is cut.are;
  came = cut.came;
  counted = cut.counted;
  plan_stays = no_earlier_more (plan_behind a n (map Added es)) (plan_behind b m (map Added es)) new.causes.plan (behind_earlier a b n m es is) cut.plan_stays;
  power = cut.power;
}

pub are_more : (plan : Option DueCut) (ops : ℕ) (es more : List Event) (old mid new : StackTold) → AreCut plan ops es old mid → AreCut (plan_behind plan ops es) (ops_at ops es) more mid new → AreCut plan ops (es ++ more) old new
are_more plan ops es more old mid new one two = record {
  cuts = one.cuts ++ two.cuts;
  others = one.others + two.others;
  are = cuts_more plan ops es more one.cuts two.cuts one.others two.others one.are two.are;
  came = two.came ∙ ap (λ (ks : List ℕ). ks ++ two.cuts) one.came ∙ append_assoc old.causes.came one.cuts two.cuts;
  counted = counted_more one.others two.others old.causes.unplanned mid.causes.unplanned new.causes.unplanned one.counted two.counted;
  plan_stays = subst (λ (p : Option DueCut). IsNoEarlier p new.causes.plan) (sym (plan_more plan ops es more)) two.plan_stays;
  power = λ tells. two.power (one.power tells);
}
