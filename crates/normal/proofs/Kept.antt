-- The clean form keeps the behaviour: a move that a valid product makes has a line in the clean form whose guard holds there, and a line of the clean
-- form whose source is reached and whose guard holds is such a move; so the ways are the same, by induction. Then the clean form is its own clean
-- form, and sheets that behave alike have one clean text. Assumes nothing.
use mathlib.Core.Path.{◌≡◌, sym, subst}
use mathlib.Core.Bool.{true}
use mathlib.Core.List.{List, Memᴰ}
use mathlib.Core.Logic.{inl, inr}
use Prim.Native.Nat.{ℕ, ◌^◌, ◌<◌}
use borrow.Author.Tests.{lt-ltb}
use Rattle.guards.specs.Guard.{Guard, holds}
use Rattle.sheet.specs.Sheet.{Move, Sheet, names}
use Rattle.sheet.proofs.ValidProducts.{valid_both}
use Rattle.family.specs.Ways.{Valid, Reached, begin, by}
use Rattle.normal.specs.Behaviour.{Goes, Same}
use Rattle.normal.specs.Clean.{count, GuardFor, Clean, IsClean}
use Rattle.normal.proofs.Same.{goes_of, goes_from, goes_to}
use Rattle.normal.proofs.Carry.{count_names, carry}
use Rattle.normal.proofs.Unique.{is_clean_unique}

pub valid_small : {r : Sheet} {p : ℕ} → Valid r p → p < 2 ^ count r
valid_small {r} {p} v = (valid_both r p v.is).0

valid_of : {r : Sheet} {p : ℕ} → p < 2 ^ count r → holds r.valid p ≡ true → Valid r p
valid_of {r} {p} l h = record { is = rw (lt-ltb p (2 ^ count r) l, h) }

module _ {r c : Sheet} (k : Clean r c) where
  pub clean_count : count c ≡ count r
  clean_count = count_names c r k.features

  -- a guard of the clean form holds where a valid product makes the move
  held_of : {p f t : ℕ} {a : List ℕ} {g : Guard} → Valid r p → Goes r p f a t → GuardFor r f a t g → holds g p ≡ true
  unfolding holds
  held_of v m (inl z) = rw z.guard
  held_of {p} v m (inr z) = z.guard.every p (valid_small v) (record { valid = v; goes = m })

  -- and where it holds, a valid product that reaches the source makes the move
  goes_held : {p f t : ℕ} {a : List ℕ} {g : Guard} → Valid r p → Reached r p f → holds g p ≡ true → GuardFor r f a t g → Goes r p f a t
  goes_held {p} v w h (inl z) = z.every p v w
  goes_held {p} v w h (inr z) = (z.guard.only p (valid_small v) h).goes

  -- the line of a move, with the source reached in the clean form
  line_of : {p f t : ℕ} {a : List ℕ} → Valid r p → Goes r p f a t → Reached c p f → Goes c p f a t
  line_of {p} {f} {t} {a} v m w =
      let u = k.moves_every f a t (record { product = p; made = record { valid = v; goes = m } }) in
      let g : GuardFor r f a t u.0.guard = rw (u.2, u.3, u.4) at (k.moves_only u.0 u.1).1 in
      record {
        move = u.0;
        there = u.1;
        from = u.2;
        action = u.3;
        to = u.4;
        makes = record { reached = subst (λ (q : ℕ). Reached c p q) (sym u.2) w; held = held_of v m g };
      }

  into : {p q : ℕ} → Valid r p → Reached r p q → Reached c p q
  into {p} v begin = subst (λ (q : ℕ). Reached c p q) k.start begin
  into v (by i w h) = goes_to (line_of v (goes_of i w h) (into v w))

  -- the move of a line that a valid product reaches
  move_of : {p : ℕ} (m : Move) → Valid r p → Memᴰ m c.moves → Reached r p m.from → holds m.guard p ≡ true → Goes r p m.from m.action m.to
  move_of m v i w h = goes_held v w h (k.moves_only m i).1

  out : {p q : ℕ} → Valid r p → Reached c p q → Reached r p q
  out {p} v begin = subst (λ (q : ℕ). Reached r p q) (sym k.start) begin
  out v (by {m} i w h) = goes_to (move_of m v i (out v w) h)

  goes_out : {p f t : ℕ} {a : List ℕ} → Valid r p → Goes c p f a t → Goes r p f a t
  goes_out v g = rw (g.from, g.action, g.to) at (move_of g.move v g.there (out v g.makes.reached) g.makes.held)

  pub clean_same : Same r c
  clean_same = record {
    valid = λ p v. valid_of (rw clean_count (valid_small v)) (k.valid.every p (valid_small v) v);
    valid_back = λ p v. let l : p < 2 ^ count r = rw clean_count at (valid_small v) in k.valid.only p l (valid_both c p v.is).1;
    start = sym k.start;
    moves = λ p f a t v g. line_of v g (into v (goes_from g));
    moves_back = λ p f a t v g. goes_out v g;
  }

  -- the clean form is its own clean form
  pub clean_again : Clean c c
  clean_again = carry clean_same (sym k.features) k

-- sheets with the same names that behave alike have one clean text
pub text_same : {r s : Sheet} {x y : List ℕ} → IsClean r x → IsClean s y → names r.features ≡ names s.features → Same r s → x ≡ y
text_same k l n e = is_clean_unique (record { form = k.form; clean = carry e n k.clean; is = k.is }) l
