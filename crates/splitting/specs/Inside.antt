-- What the functions inside `put_guard` promise each other. Nobody has to believe this page: the promise of `put_guard` does not speak of it. Assumes nothing:
-- these are definitions.
use Rattle.std.specs.Prelude.{Bool, true, false, List, [], ◌∷◌, ◌⊎◌, ◌≡◌, ℕ, ◌+◌, ◌*◌, ◌-◌, ◌^◌, ◌<◌, ◌≤◌, min, eqb, get_or, length}
use Rattle.products.specs.Sets.{bit, has, count_to}
use Rattle.splitting.specs.Splitting.{in_set, free}

-- ---- what the recursion works on

-- the set has only products of the first n features
pub record Within (n : ℕ) (set : List ℕ) : Type 0 where
  pub few : (p : ℕ) → p < 1024 → 2 ^ n ≤ p → has set p ≡ 0

-- among the products whose first i features make the number c, the set does not depend on feature i
abbrev pub free_of : List ℕ → ℕ → ℕ → Bool
free_of set i c = free (λ q. in_set set (c + q * 2 ^ i)) (9 - i)

-- the table t tells on which of the first n features the set depends: bit 2 ^ i + c is 0 exactly if, by the number c of the earlier ones, it does not
-- depend on feature i
pub record Tells (n : ℕ) (set t : List ℕ) : Type 0 where
  pub tells : (i c : ℕ) → i < n → c < 2 ^ i → eqb (has t (2 ^ i + c)) 0 ≡ free_of set i c

-- x is word w of such a table
pub record Word (set : List ℕ) (w x : ℕ) : Type 0 where
  pub tells : (i c k : ℕ) → c < 2 ^ i → k < 64 → 2 ^ i + c ≡ w * 64 + k → eqb (bit x k) 0 ≡ free_of set i c

-- the first bits of x are what such a table has for feature i
pub record Level (set : List ℕ) (i x : ℕ) : Type 0 where
  pub tells : (c : ℕ) → c < 2 ^ i → eqb (bit x c) 0 ≡ free_of set i c

-- j is the first feature from i on that the table marks for the number c, or n where it marks none before n
pub record First (t : List ℕ) (n i c j : ℕ) : Type 0 where
  pub passed : (k : ℕ) → i ≤ k → k < j → in_set t (2 ^ k + c) ≡ false
  pub marked : j < n → in_set t (2 ^ j + c) ≡ true

-- the table t tells on which of the first n features the set depends, and it marks none of them from m on
pub record Ends (m n : ℕ) (set t : List ℕ) : Type 0 where
  pub most : m ≤ n
  pub small : n ≤ 10
  pub within : Within n set
  pub tells : Tells n set t
  pub blank : (p : ℕ) → 2 ^ m ≤ p → p < 2 ^ n → has t p ≡ 0

-- the words of such a table behind the first, as far as the first n features have bits there; m is 6 at least, or n
pub record Later (m n : ℕ) (set t : List ℕ) : Type 0 where
  pub most : m ≤ n
  pub least : min n 6 ≤ m
  pub long : length t ≡ 16
  pub words : (v : ℕ) → 1 ≤ v → v < 16 → v * 64 < 2 ^ n → Word set v (get_or t v 0)
  pub blank : (p : ℕ) → 2 ^ m ≤ p → p < 2 ^ n → has t p ≡ 0

-- where the first n words of the set have two places alike, so has x
pub record Joins (x : ℕ) (set : List ℕ) (n : ℕ) : Type 0 where
  pub some : (j k : ℕ) → ((w : ℕ) → w < n → bit (get_or set w 0) j ≡ bit (get_or set w 0) k) → bit x j ≡ bit x k

-- each of the first n words of the set is 0 or x
pub record Repeats (x : ℕ) (set : List ℕ) (n : ℕ) : Type 0 where
  pub each : (w : ℕ) → w < n → (get_or set w 0 ≡ 0) ⊎ (get_or set w 0 ≡ x)

-- x stands for all words of the set: it has two places alike exactly where each of them has
pub record Typical (x : ℕ) (set : List ℕ) : Type 0 where
  pub joins : Joins x set 16
  pub every : (w j k : ℕ) → w < 16 → j < 64 → k < 64 → bit x j ≡ bit x k → bit (get_or set w 0) j ≡ bit (get_or set w 0) k

abbrev pub leaf_text : Bool → List ℕ
leaf_text true = 49 ∷ []
leaf_text false = 48 ∷ []

-- ---- what a guard's length is counted by

-- A number below 2 ^ i stands for the choices made for the first i features. m has those that the guard meets, by the table t: 0; and those with feature
-- j that it meets without it and splits on it. The first word of m has no others.
pub record Met (i : ℕ) (t m : List ℕ) : Type 0 where
  pub long : length m ≡ 16
  pub first : has m 0 ≡ 1
  pub split : (j c : ℕ) → j < i → c < 2 ^ j → has m (2 ^ j + c) ≡ min (has m c) (has t (2 ^ j + c))
  pub blank : (p : ℕ) → 2 ^ i ≤ p → p < 64 → has m p ≡ 0

-- what is met grew from l to m by one feature, number i, on which r of those in l are split
pub record Further (i : ℕ) (t l m : List ℕ) (r : ℕ) : Type 0 where
  pub met : Met (i + 1) t m
  pub kept : (p : ℕ) → p < 2 ^ i → has m p ≡ has l p
  pub more : count_to m (2 ^ (i + 1)) ≡ count_to m (2 ^ i) + r

-- the same where the features before fill h words, as far as the first w of these are split
pub record Widened (h : ℕ) (t l m : List ℕ) (w r : ℕ) : Type 0 where
  pub long : length m ≡ 16
  pub kept : (p : ℕ) → p < h * 64 → has m p ≡ has l p
  pub split : (p : ℕ) → p < w * 64 → has m (h * 64 + p) ≡ min (has m p) (has t (h * 64 + p))
  pub more : count_to m (h * 64 + w * 64) ≡ count_to m (h * 64) + r
