-- The sets that the set functions make mean the guards that they stand for: a set operation on members is the guard's operation on truth values,
-- by cases. Assumes nothing.
use Rattle.std.proofs.Common.{◌≡◌, refl, ◌∙◌, Bool, true, false, cond, not, List, ℕ, zero, suc, ◌-◌, ◌<◌, min, max, arith, eqb, replicate}
use Rattle.products.specs.Sets.{bit, has, one_if}
use Rattle.products.proofs.Laws.{empty_has, full_has}
use Rattle.guards.specs.Guard.{Operator, conj, disj, Guard, never, always, feature, neg, chain, choice, Parts, one, more, joined, holds, parts_hold, byte_of, Means, PartsMean}

-- ---- truth values as numbers

one_if_bit : (x : ℕ) → x < 2 → x ≡ one_if (eqb x 1)
one_if_bit zero l = refl
one_if_bit (suc zero) l = refl
one_if_bit (suc (suc x)) l = absurd (omega arith)

one_if_not : (t : Bool) → 1 - one_if t ≡ one_if (not t)
one_if_not true = refl
one_if_not false = refl

one_if_both : (t u : Bool) → min (one_if t) (one_if u) ≡ one_if (joined conj t u)
one_if_both true true = refl
one_if_both true false = refl
one_if_both false true = refl
one_if_both false false = refl

one_if_either : (t u : Bool) → max (one_if t) (one_if u) ≡ one_if (joined disj t u)
one_if_either true true = refl
one_if_either true false = refl
one_if_either false true = refl
one_if_either false false = refl

one_if_choice : (t u v : Bool) → max (min (one_if t) (one_if u)) (one_if v - one_if t) ≡ one_if (cond t u v)
one_if_choice true true true = refl
one_if_choice true true false = refl
one_if_choice true false true = refl
one_if_choice true false false = refl
one_if_choice false true true = refl
one_if_choice false true false = refl
one_if_choice false false true = refl
one_if_choice false false false = refl

-- ---- the plain guards

pub means_never : Means (replicate 16 0) never
unfolding Means holds
means_never p l = empty_has p

pub means_always : Means (replicate 16 0xffff_ffff_ffff_ffff) always
unfolding Means holds
means_always p l = full_has p l

pub means_feature : (r : List ℕ) (i : ℕ) → ((p : ℕ) → p < 1024 → has r p ≡ bit p i) → Means r (feature i)
unfolding Means holds
means_feature r i h p l = h p l ∙ one_if_bit (bit p i) (omega arith)

-- ---- the others, of what their parts mean

pub means_neg : (all a r : List ℕ) → Means all always → ((p : ℕ) → p < 1024 → has r p ≡ has all p - has a p) → (g : Guard) → Means a g → Means r (neg g)
unfolding Means holds
means_neg all a r w h g m p l = h p l ∙ rw (w p l, m p l) (one_if_not (holds g p))

pub means_choice : (c a b r : List ℕ) → ((p : ℕ) → p < 1024 → has r p ≡ max (min (has c p) (has a p)) (has b p - has c p))
    → (k g h : Guard) → Means c k → Means a g → Means b h → Means r (choice k g h)
unfolding Means holds
means_choice c a b r h k g e m n o p l = h p l ∙ rw (m p l, n p l, o p l) (one_if_choice (holds k p) (holds g p) (holds e p))

module _ (a b r : List ℕ) {op : ℕ} where
  pub means_both : op ≡ 38 → ((p : ℕ) → p < 1024 → has r p ≡ min (has a p) (has b p))
      → (o : Operator) (ps : Parts) (g : Guard) → op ≡ byte_of o → PartsMean a o ps → Means b g → PartsMean r o (more ps g)
  unfolding Means PartsMean parts_hold
  means_both is h conj ps g e m n p l = h p l ∙ rw (m p l, n p l) (one_if_both (parts_hold ps conj p) (holds g p))
  means_both is h disj ps g e m n p l = absurd (omega arith)

  pub means_either : (op ≡ 38 → ⊥) → ((p : ℕ) → p < 1024 → has r p ≡ max (has a p) (has b p))
      → (o : Operator) (ps : Parts) (g : Guard) → op ≡ byte_of o → PartsMean a o ps → Means b g → PartsMean r o (more ps g)
  unfolding Means PartsMean parts_hold
  means_either other h conj ps g e m n p l = absurd (other e)
  means_either other h disj ps g e m n p l = h p l ∙ rw (m p l, n p l) (one_if_either (parts_hold ps disj p) (holds g p))

-- a chain means what its parts mean, and one part is a guard
pub parts_mean_chain : (r : List ℕ) (o : Operator) (ps : Parts) (g : Guard) → PartsMean r o (more ps g) → Means r (chain o ps g)
unfolding Means PartsMean holds parts_hold
parts_mean_chain r o ps g m = m

pub mean_one : (r : List ℕ) (o : Operator) (g : Guard) → Means r g → PartsMean r o (one g)
unfolding Means PartsMean parts_hold
mean_one r o g m = m
