-- `choice` meets its contract: each word has the products of one word where the first has them, and of the other elsewhere. Assumes nothing.
use mathlib.Core.Path.{◌≡◌, refl, ap₂, ◌∙◌}
use Prim.Native.Nat.{◌/◌, max}
use native.Mathlib.Omega.{arith}
use borrow.Author.Rules.{elem_Fits}
use lib.Bits.{bit_and, bit_or}
use lib.ListN.{get_or}
use Rattle.std.proofs.Common.{rules, w64}
use Rattle.std.specs.Int.{bit_not}
use Rattle.std.proofs.lemmas.Nat.Bits.{bit_at_and, bit_at_or}
use Rattle.products.proofs.Bits.{bit_and_not}
use Rattle.products.specs.Sets.{has}
use Rattle.products.proofs.Filled.{made}
use Rattle.products.proofs.choice.Goals as goal

pub returns : goal.returns
unfolding has
returns c p lp =
    rw (made _ (λ f. (f.0.now ≡ c.args.c) × (f.1.now ≡ c.args.a) × (f.2.now ≡ c.args.b)) (λ w x. x ≡ bit_or (bit_and (get_or c.args.c w 0) (get_or c.args.a w 0)) (bit_and (get_or c.args.b w 0) (bit_not w64 (get_or c.args.c w 0))))
    (λ f w x g lent call. search rules) _ (refl, refl, refl) c.from_fn.ensures.items (p / 64) (omega arith))
    (bit_at_or _ _ _ ∙ ap₂ max (bit_at_and _ _ _) (bit_and_not _ _ _ (elem_Fits w64 w64 _ _ (p / 64) c.well_formed.0.1.1 tt).fits (omega arith)))
