use Rattle.script_player.proofs.Common.{◌≤◌, ℕ, sym, ◌∙◌, subst, Rose, told_by}
use Rattle.script_player.proofs.Turned.{last_ends, last_closes, others_lower, others_find}
use Rattle.script_player.proofs.turns.ends_drain.Goals as goal

pub returns-clause-turn : goal.returns-clause-turn
returns-clause-turn g c = c.turn-turned.ensures.turns.made

pub returns-clause-ends : goal.returns-clause-ends
returns-clause-ends g c last =
    last_ends c.turn-turned.result c.in_hand-in_hand.result c.has_risen.result (told_by g.D.MemDevice.told c.args.stack.now) (told_by g.D.MemDevice.told c.turn-turned.new.stack) c.turn-turned.ensures.turns
    (c.in_hand-in_hand.ensures.job c.requires) (sym c.is_last.ensures ∙ last)

pub returns-clause-goes_on : goal.returns-clause-goes_on
returns-clause-goes_on g c last =
    others_lower c.turn-turned.result c.in_hand-in_hand.result c.has_risen.result (told_by g.D.MemDevice.told c.args.stack.now) (told_by g.D.MemDevice.told c.turn-turned.new.stack) c.turn-turned.ensures.turns (c.in_hand-in_hand.ensures.job c.requires)
    (λ none rose. c.has_risen.ensures.not none (subst (λ (n : ℕ). Rose n c.faults.result) (sym c.faults-faults.ensures) (subst (λ (n : ℕ). Rose (told_by g.D.MemDevice.told c.args.stack.now).faults n) (sym c.faults.ensures) rose)))
    (sym c.is_last.ensures ∙ last)

pub returns-clause-at_rest : goal.returns-clause-at_rest
returns-clause-at_rest g c last =
    last_closes c.turn-turned.result c.in_hand-in_hand.result c.has_risen.result (told_by g.D.MemDevice.told c.args.stack.now) (told_by g.D.MemDevice.told c.turn-turned.new.stack) c.turn-turned.ensures.turns
    (λ risen. subst (λ (n : ℕ). Rose n (told_by g.D.MemDevice.told c.turn-turned.new.stack).faults) c.faults-faults.ensures (subst (λ (n : ℕ). Rose c.faults-faults.result n) c.faults.ensures
    (c.has_risen.ensures.rose risen (subst (λ (n : ℕ). n ≤ c.faults.result) (sym c.faults-faults.ensures) (subst (λ (n : ℕ). (told_by g.D.MemDevice.told c.args.stack.now).faults ≤ n) (sym c.faults.ensures) c.turn-turned.ensures.turns.made.counted)))))
    (sym c.is_last.ensures ∙ last)

pub returns-clause-finds : goal.returns-clause-finds
returns-clause-finds g c last =
    others_find c.turn-turned.result c.in_hand-in_hand.result c.has_risen.result (told_by g.D.MemDevice.told c.args.stack.now) (told_by g.D.MemDevice.told c.turn-turned.new.stack) c.turn-turned.ensures.turns (c.in_hand-in_hand.ensures.job c.requires)
    (sym c.is_last.ensures ∙ last)
