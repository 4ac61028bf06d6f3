-- A state that nobody reaches: what the judges would answer of it, without a search. Assumes nothing.
use Rattle.std.proofs.Common.{List, [], ℕ, None, arith}
use Rattle.products.specs.Sets.{In}
use Rattle.products.proofs.Laws.{nothing_has}
use Rattle.verdicts.specs.declared.Verdict.TheVariants.{Dead}
use Rattle.verdicts.specs.declared.StopVerdict.TheVariants.{Idle}
use Rattle.verdicts.specs.Judging.{MoveSets, StopSets}

module _ {P : ℕ → Type 0} (first : (p : ℕ) → P p → In [] p) where
  nobody : (p : ℕ) → P p → ⊥
  nobody p i = omega (arith, (first p i).is, nothing_has p)

pub none_move : (R : ℕ → ℕ → Type 0) (guard : List ℕ) → MoveSets R [] guard (Dead None)
none_move R guard = (nobody (λ p i. i.first), nobody (λ p i. i.first))

pub none_stop : (R : ℕ → ℕ → Type 0) (guard out : List ℕ) → StopSets R [] guard out Idle
none_stop R guard out = nobody (λ p i. i.first)
