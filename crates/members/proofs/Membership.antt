-- Whether a set has a product: what the bit of its word says. Assumes nothing.
use Rattle.std.proofs.Common.{◌≡◌, true, false, List, ℕ, ◌/◌, ◌%◌, ◌<◌, get_or, eqb, eqb-true}
use Rattle.std.proofs.lemmas.Bool.{eqb-false}
use Rattle.products.specs.Sets.{bit, has, In}

pub in_word : (s : List ℕ) (p : ℕ) → p < 1024
    → (eqb (bit (get_or s (p / 64) 0) (p % 64)) 1 ≡ true → In s p) × (eqb (bit (get_or s (p / 64) 0) (p % 64)) 1 ≡ false → In s p → ⊥)
unfolding has
in_word s p l =
    let x = bit (get_or s (p / 64) 0) (p % 64) in
    (λ e. record { small = l; is = eqb-true x 1 e }, λ e i. eqb-false x 1 e i.is)
