-- Reading a number: what the digits passed so far come to, with what is left of the word; one law for each answer. Assumes nothing.
use Rattle.std.specs.Prelude.{Some, None, true, false, leb, ◌&&◌}
use mathlib.Core.Path.{◌≡◌, refl, sym, ap, ◌∙◌}
use mathlib.Core.List.{List, ◌∷◌}
use Prim.Native.Nat.{ℕ, ◌+◌, ◌-◌, ◌*◌, ◌≤◌, ◌<◌, min}
use native.Mathlib.Numerals.{add-one}
use native.Mathlib.Omega.{arith}
use lib.ListN.{length, get_or, drop, drop_of_length-le}
use lib.Seq.{drop-cons}
use Rattle.console.specs.Numbers.{number_from, number_of}

pub record Spelt (w : List ℕ) (i n : ℕ) : Type 0 where
  pub most : i ≤ length w
  pub small : n ≤ 1000000000
  pub rest : number_of w ≡ number_from n (drop i w)

module _ {w : List ℕ} {i n : ℕ} (h : Spelt w i n) where
  headed : i < length w → number_of w ≡ number_from n (get_or w i 0 ∷ drop (i + 1) w)
  headed l = h.rest ∙ ap (number_from n) (rw (add-one i) (drop-cons w i 0 l))

  pub spelt_no_digit : i < length w → false ≡ (leb 48 (get_or w i 0) && leb (get_or w i 0) 57) → None ≡ number_of w
  unfolding number_from
  spelt_no_digit l e = sym (headed l ∙ rw (sym e) refl)

  pub spelt_more : i < length w → true ≡ (leb 48 (get_or w i 0) && leb (get_or w i 0) 57) → {m : ℕ} → m ≡ min (n * 10 + (get_or w i 0 - 48)) 1000000000 → Spelt w (i + 1) m
  unfolding number_from
  spelt_more l d e = record { most = omega arith; small = omega arith; rest = headed l ∙ rw (sym d, e) refl }

  pub spelt_all : length w ≤ i → Some n ≡ number_of w
  unfolding number_from
  spelt_all l = sym (h.rest ∙ ap (number_from n) (drop_of_length-le w l))
