use Rattle.nvm_callers.proofs.Common.{◌∷◌, ◌++◌, [], refl, sym, subst, Deed, Await, IsDealt}
use Rattle.script_callers.specs.declared.deed.Deed.TheVariants.{Ask}
use Rattle.nvm_callers.proofs.Moving.{dealt_more, dealt_same, places_stay}
use Rattle.nvm_callers.proofs.dealing.deal_by.Goals as goal

pub returns-in-Store-clause-dealt : goal.returns-in-Store-clause-dealt
returns-in-Store-clause-dealt g c = λ ds first dealt. (
  subst (λ (d : Deed). IsDealt (ds ++ d ∷ []) first c.go_over.new.to c.go_over.new.from) (sym c.in-Store.is)
      (dealt_more ds first c.args.own.now c.args.from.now dealt c.in-Store.block c.go_over.new.to c.go_over.new.from c.go_over.ensures.over c.in-Store.line c.in-Store.number c.in-Store.content),
  places_stay ds first c.args.own.now c.args.from.now dealt c.in-Store.block c.go_over.new.to c.go_over.new.from c.go_over.ensures.over c.requires.places,
)

pub returns-in-Ask-clause-dealt : goal.returns-in-Ask-clause-dealt
returns-in-Ask-clause-dealt g c = λ ds first dealt. (
  subst (λ (d : Deed). IsDealt (ds ++ d ∷ []) first c.args.own.now c.args.from.now) (sym c.in-Ask.is)
      (dealt_same ds first c.args.own.now c.args.from.now dealt (Ask c.in-Ask.line c.in-Ask.request) (λ block. refl)),
  c.requires.places,
)

pub returns-in-Await-clause-dealt : goal.returns-in-Await-clause-dealt
returns-in-Await-clause-dealt g c = λ ds first dealt. (
  subst (λ (d : Deed). IsDealt (ds ++ d ∷ []) first c.args.own.now c.args.from.now) (sym c.in-Await.is)
      (dealt_same ds first c.args.own.now c.args.from.now dealt (Await c.in-Await.line c.in-Await.block) (λ block. refl)),
  c.requires.places,
)
