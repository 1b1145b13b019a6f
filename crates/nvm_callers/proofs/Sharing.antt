-- What the callers of a run did, once their passes are joined.
use Rattle.nvm_callers.proofs.Common.{◌≡◌, inl, inr, ℕ, zero, suc, ◌∙◌, true, false, List, [], ◌∷◌, sym, ap, subst, arith, some-ne-none, some-injective, at_longer, Request, Reply, Entry, Ask, Configuration, Has, IsEntry, AreAt, AreAll, asks_by_number, requests_in, Share, IsOfShares, is_ask, SharesAsk, SharesHaveAll, SharesHold, NobodyElseAsks}
use Rattle.std.proofs.Common.{Contains}
use Rattle.nvm_callers.proofs.Waiting.{inside_length}
use Rattle.nvm_callers.proofs.Doing.{are_longer, deeds_hold}

abbrev who : Entry → ℕ
who (Ask caller r reply) = caller
who e = 0

never : false ≡ true → ⊥
never is = cc

at_of : (seen : List Entry) (caller : ℕ) (ks : List ℕ) (rs : List Request) (k : ℕ) → AreAt seen caller ks rs → Has ks k → (r : Request) × (reply : Reply) × IsEntry seen k (Ask caller r reply)
at_of seen caller [] rs k are (i, at) = absurd (some-ne-none k (sym at))
at_of seen caller (n ∷ ks) [] k are has = absurd are
at_of seen caller (n ∷ ks) (r ∷ rs) k are (zero, at) = (r, are.0.0, subst (λ (m : ℕ). IsEntry seen m (Ask caller r are.0.0)) (some-injective n k at) are.0.1)
at_of seen caller (n ∷ ks) (r ∷ rs) k are (suc i, at) = at_of seen caller ks rs k are.1 (i, at)

module _ (c : Configuration) (cap : ℕ) (h : List Entry) (shares : List Share) (is : IsOfShares c cap h shares) where
  -- a request is of one of the callers
  asker : (k caller : ℕ) (r : Request) (reply : Reply) → IsEntry h k (Ask caller r reply) → (s : Share) × Contains shares s × Has s.own k × (s.caller ≡ caller)
  asker zero caller r reply at = absurd (is.first caller r reply at)
  asker (suc k) caller r reply at = elim (is.all (suc k) (omega arith) (inside_length h (suc k) (Ask caller r reply) at)) [
    | inl driven ↦ absurd (
        let same : driven.0 ≡ Ask caller r reply = some-injective driven.0 (Ask caller r reply) (sym driven.1 ∙ at) in
        never (sym (subst (λ (x : Entry). is_ask x ≡ false) same driven.2)))
    | inr one ↦ (
        let share = is.are one.0 one.1 in
        let there = at_of one.0.seen one.0.caller one.0.own (requests_in one.0.deeds) (suc k) share.done.at one.2 in
        let here : IsEntry h (suc k) (Ask one.0.caller there.0 there.1) =
        subst (λ (l : List Entry). IsEntry l (suc k) (Ask one.0.caller there.0 there.1)) (sym share.starts.1) (at_longer one.0.seen share.starts.0 (suc k) (Ask one.0.caller there.0 there.1) there.2) in
        (one.0, one.1, one.2, ap who (some-injective (Ask one.0.caller there.0 there.1) (Ask caller r reply) (sym here ∙ at))))
  ]

  are_all : (s : Share) → Contains shares s → AreAll h s.caller s.own
  are_all s within k r reply at =
      let (t, one, has, same) = asker k s.caller r reply at in
      subst (λ (x : Share). Has x.own k) (is.apart t s one within same) has

pub shares_have_all : SharesHaveAll
shares_have_all c cap h shares is s within = are_all c cap h shares is s within

pub shares_ask : SharesAsk
shares_ask c cap h shares is s within =
    let share = is.are s within in
    asks_by_number h s.caller s.own (requests_in s.deeds) (record { ascend = share.done.ascend; at = are_longer s.caller h s.seen s.own (requests_in s.deeds) share.starts share.done.at; all = are_all c cap h shares is s within })

pub shares_hold : SharesHold
shares_hold c cap h shares is s within =
    let share = is.are s within in
    deeds_hold c cap s.own s.seen s.notes s.caller s.deeds h share.done share.starts share.agree (are_all c cap h shares is s within)

pub nobody_else_asks : NobodyElseAsks
nobody_else_asks c cap h shares is caller none =
    asks_by_number h caller [] [] (record {
      ascend = tt;
      at = tt;
      all = λ k r reply at. let (t, one, has, same) = asker c cap h shares is k caller r reply at in absurd (none t one same);
    })
