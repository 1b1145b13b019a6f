-- A stack with some entries more.
use Rattle.script_player.proofs.Common.{◌≡◌, true, List, ◌++◌, ap, ◌∙◌, subst, append_assoc, Entry, Configuration, at_first, after, after_from, histories_go_on, StackTold, state_of, IsGrown}

-- the state behind more entries
pub state_more : (c : Configuration) (h es : List Entry) → after c (h ++ es) ≡ after_from c (after c h) es
state_more c h es = histories_go_on c at_first h es

-- that of a stack with these entries more
pub state_grown : (old new : StackTold) (es : List Entry) → IsGrown es old new → state_of new ≡ after_from old.configuration (state_of old) es
state_grown old new es is = ap state_of is ∙ state_more old.configuration old.entries es

pub grown_more : (old mid new : StackTold) (es more : List Entry) → IsGrown es old mid → IsGrown more mid new → IsGrown (es ++ more) old new
grown_more old mid new es more one two =
    subst (λ (m : StackTold). new ≡ record m { entries = m.entries ++ more; faults = new.faults; ops = new.ops; work = new.work; busy = new.busy; causes = new.causes }) one two
    ∙ ap (λ (h : List Entry). record old { entries = h; faults = new.faults; ops = new.ops; work = new.work; busy = new.busy; causes = new.causes }) (append_assoc old.entries es more)

-- it is as ready
pub ready_grown : (old new : StackTold) (es : List Entry) → IsGrown es old new → old.ready ≡ true → new.ready ≡ true
ready_grown old new es is ready = ap (λ (t : StackTold). t.ready) is ∙ ready
