-- `either` meets its contract: each word has the products that either word has. Assumes nothing.
use mathlib.Core.Path.{◌≡◌, refl}
use Prim.Native.Nat.{◌/◌}
use native.Mathlib.Omega.{arith}
use lib.Bits.{bit_or}
use lib.ListN.{get_or}
use Rattle.std.proofs.Common.{rules}
use Rattle.std.proofs.lemmas.Nat.Bits.{bit_at_or}
use Rattle.products.specs.Sets.{has}
use Rattle.products.proofs.Filled.{made}
use Rattle.products.proofs.either.Goals as goal

pub returns : goal.returns
unfolding has
returns c p lp =
    rw (made _ (λ f. (f.0.now ≡ c.args.a) × (f.1.now ≡ c.args.b)) (λ w x. x ≡ bit_or (get_or c.args.a w 0) (get_or c.args.b w 0))
    (λ f w x g lent call. search rules) _ (refl, refl) c.from_fn.ensures.items (p / 64) (omega arith))
    (bit_at_or _ _ _)
