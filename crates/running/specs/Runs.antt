-- Calls one after another, with the same sheet lent to each. Assumes nothing: these are definitions.
use Rattle.std.specs.Prelude.{List, [], ◌∷◌, ℕ, Ok, Err}
use Rattle.refusals.specs.declared.Refusal.{Refusal}
use Rattle.running.specs.declared.RunningBox.{RunningBox}
use Rattle.running.specs.Promise.{SetsUp, Acts}

-- "the box keeps its place from one action to the next": the set-up, and then actions, each accepted or refused. It is told by the names accepted so
-- far, the last one first, and by the box that the calls leave. By value or lent, the promise is one.
pub data Run (s : List ℕ) (p : ℕ) : List (List ℕ) → RunningBox → Type 0 where
  set_up : {b : RunningBox} → SetsUp s p (Ok tt) b → Run s p [] b
  went : {names : List (List ℕ)} {b after : RunningBox} {name : List ℕ} → Run s p names b → Acts s b name (Ok tt) after → Run s p (name ∷ names) after
  stayed : {names : List (List ℕ)} {b after : RunningBox} {name : List ℕ} {q : Refusal} → Run s p names b → Acts s b name (Err q) after → Run s p names after
