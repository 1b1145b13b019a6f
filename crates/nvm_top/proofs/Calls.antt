-- A call of the program that calls no command, or one that has a run.
use Rattle.std.proofs.Common.{◌≡◌, ◌∙◌, ℕ, Bool, true, false, List, Option, Some, None, inl, inr, refl, sym, ap, subst}
use Rattle.nvm_lines.specs.nv_streams.Sink.{Written}
use Rattle.nvm_flash.specs.fls_model.Told.{Told}
use Rattle.nvm_words.specs.Words.{is_run, is_uds}
use Rattle.nvm_words.specs.declared.words.CommandKind.{CommandKind}
use Rattle.nvm_words.specs.declared.words.CommandKind.TheVariants.{Play, Run, Dump, Check, Soak, Uds}
use Rattle.nvm_lines.specs.declared.status.Status.TheVariants as status
use Rattle.nvm_top.specs.Causes.{HasCauses}
use Rattle.nvm_top.specs.Commands.{Ended, ended, KeepsCommand, KeepsOnly, KeepsPlay, KeepsRunCommand, KeepsUds}
use Rattle.nvm_top.proofs.WholeCalls.{alone}

-- WANT OF MEMORY

no_cause : (reads writes : ℕ) (left : Option (List ℕ)) → HasCauses status.Memory reads reads writes writes left
no_cause reads writes left = record { read_fault = λ is. cc; write_fault = λ is. cc; ended = λ is. cc }

-- before any command nothing was read, written or changed
pub wanting : (k : Option CommandKind) (left : Option (List ℕ)) (reads : ℕ) (written : Written) (writes : ℕ) (told : Told) → KeepsCommand k (ended status.Memory left left reads reads written written writes writes told told)
wanting None left reads written writes told = record { line = refl; unread = refl; untouched = refl; causes = no_cause reads writes left }
wanting (Some Check) left reads written writes told = record { by_input = refl; untouched = refl; causes = no_cause reads writes left }
wanting (Some Dump) left reads written writes told = record { by_input = refl; kept = inl refl; untouched = λ is. refl; causes = no_cause reads writes left }
wanting (Some Play) left reads written writes told = record { promise = inr (record { line = refl; flash = inl (alone told, λ is. cc is) }); untouched = λ is. refl; causes = no_cause reads writes left }
wanting (Some Run) left reads written writes told = record { promise = inr (record { line = refl; flash = inl (alone told, λ is. cc is) }); untouched = λ is. refl; causes = no_cause reads writes left }
wanting (Some (Soak seed count)) left reads written writes told = record { promise = inr (record { line = refl; flash = inl (alone told, λ is. cc is) }); untouched = λ is. refl; causes = no_cause reads writes left }
wanting (Some Uds) left reads written writes told = record { promise = inr (record { line = refl; flash = inl (alone told, λ is. cc is) }); untouched = λ is. refl; causes = no_cause reads writes left }

pub wanting_only : (is_served : Option CommandKind → Bool) (k : Option CommandKind) (left : Option (List ℕ)) (reads : ℕ) (written : Written) (writes : ℕ) (told : Told) → KeepsOnly is_served k (ended status.Memory left left reads reads written written writes writes told told)
wanting_only is_served k left reads written writes told = record { served = λ _. wanting k left reads written writes told; refused = λ _. wanting None left reads written writes told }

-- A RUN

pub keeps_as_play : (k : Option CommandKind) (e : Ended) → k ≡ Some Play → KeepsPlay e → KeepsCommand k e
keeps_as_play k e is keeps = subst (λ (x : Option CommandKind). KeepsCommand x e) (sym is) keeps

pub keeps_as_run : (k : Option CommandKind) (e : Ended) → k ≡ Some Run → KeepsRunCommand e → KeepsCommand k e
keeps_as_run k e is keeps = subst (λ (x : Option CommandKind). KeepsCommand x e) (sym is) keeps

pub run_only : (k : Option CommandKind) (e : Ended) → k ≡ Some Run → KeepsRunCommand e → KeepsOnly is_run k e
run_only k e is keeps = record { served = λ _. keeps_as_run k e is keeps; refused = λ other. absurd (let wrong : false ≡ true = sym other ∙ ap is_run is in cc wrong) }

pub keeps_as_uds : (k : Option CommandKind) (e : Ended) → k ≡ Some Uds → KeepsUds e → KeepsCommand k e
keeps_as_uds k e is keeps = subst (λ (x : Option CommandKind). KeepsCommand x e) (sym is) keeps

pub uds_only : (k : Option CommandKind) (e : Ended) → k ≡ Some Uds → KeepsUds e → KeepsOnly is_uds k e
uds_only k e is keeps = record { served = λ _. keeps_as_uds k e is keeps; refused = λ other. absurd (let wrong : false ≡ true = sym other ∙ ap is_uds is in cc wrong) }
