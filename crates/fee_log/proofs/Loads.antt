-- What a load gives.
use Rattle.std.proofs.Common.{ℕ, List, inl, inr, refl}
use Rattle.fee_image.specs.Bank.{Bank}
use Rattle.fee_image.specs.LogLaws.{IsLoadedTail}
use Rattle.fee_log.specs.declared.tail.Tail.{Tail}
use Rattle.fee_log.specs.declared.tail.Tail.TheVariants.{Open, Writes, Owes, Closed}
use Rattle.fee_log.specs.Laws.{LoadsAreLoaded}
use Rattle.fee_log.specs.Load.{IsTailOf}
use Rattle.fee_log.specs.Log.{tail_with}

loaded_tail : (b : Bank) (bytes body : List ℕ) (tail : Tail) → IsTailOf b bytes tail → IsLoadedTail b bytes (tail_with tail body)
loaded_tail b bytes body Open is = inl (refl, is.0, is.1)
loaded_tail b bytes body (Writes h k) is = absurd is
loaded_tail b bytes body (Owes h next) is = absurd is
loaded_tail b bytes body Closed is = inr refl

pub loads_are_loaded : LoadsAreLoaded
loads_are_loaded b bytes s body is = (λ i. record { end = is.end i; tail = tail_with s.tail body; places = is.places i }, loaded_tail b bytes body s.tail is.tail)
