-- Sheets that behave alike: an equivalence, and the ways of a product are the same in both, since a way is made of moves that are made. Sheets that
-- say the same behave alike. Assumes nothing.
use mathlib.Core.Path.{◌≡◌, refl, sym, ap, subst, ◌∙◌}
use mathlib.Core.Bool.{true}
use mathlib.Core.List.{List, Memᴰ}
use Prim.Native.Nat.{ℕ}
use Rattle.guards.specs.Guard.{holds}
use Rattle.sheet.specs.Sheet.{Move, Sheet}
use Rattle.sheet.specs.Spelling.{bare_move, Alike}
use Rattle.sheet.proofs.ReadBack.{alike_features, alike_valid, alike_start, alike_move, alike_back}
use Rattle.family.specs.Ways.{Valid, Reached, begin, by}
use Rattle.normal.specs.Behaviour.{Goes, Same}

-- ---- a way and its last move

pub goes_of : {r : Sheet} {p : ℕ} {m : Move} → Memᴰ m r.moves → Reached r p m.from → holds m.guard p ≡ true
    → Goes r p m.from m.action m.to
goes_of {m = m} i w h = record { move = m; there = i; from = refl; action = refl; to = refl; makes = record { reached = w; held = h } }

pub goes_from : {r : Sheet} {p f t : ℕ} {a : List ℕ} → Goes r p f a t → Reached r p f
goes_from {r} {p} g = subst (λ (q : ℕ). Reached r p q) g.from g.makes.reached

pub goes_to : {r : Sheet} {p f t : ℕ} {a : List ℕ} → Goes r p f a t → Reached r p t
goes_to {r} {p} g = subst (λ (q : ℕ). Reached r p q) g.to (by g.there g.makes.reached g.makes.held)

-- ---- the same moves, so the same ways

pub same_reached : {r s : Sheet} {p q : ℕ} → Same r s → Valid r p → Reached r p q → Reached s p q
same_reached {r} {s} {p} x v begin = subst (λ (q : ℕ). Reached s p q) (sym x.start) begin
same_reached {r} {s} {p} x v (by {m} i w h) = goes_to (x.moves p m.from m.action m.to v (goes_of i w h))

pub same_sym : {r s : Sheet} → Same r s → Same s r
same_sym x = record {
  valid = x.valid_back;
  valid_back = x.valid;
  start = sym x.start;
  moves = λ p f a t v g. x.moves_back p f a t (x.valid_back p v) g;
  moves_back = λ p f a t v g. x.moves p f a t (x.valid_back p v) g;
}

pub same_trans : {r s t : Sheet} → Same r s → Same s t → Same r t
same_trans x y = record {
  valid = λ p v. y.valid p (x.valid p v);
  valid_back = λ p v. x.valid_back p (y.valid_back p v);
  start = x.start ∙ y.start;
  moves = λ p f a t v g. y.moves p f a t (x.valid p v) (x.moves p f a t v g);
  moves_back = λ p f a t v g. x.moves_back p f a t v (y.moves_back p f a t (x.valid p v) g);
}

pub same_reached_back : {r s : Sheet} {p q : ℕ} → Same r s → Valid r p → Reached s p q → Reached r p q
same_reached_back {p = p} x v w = same_reached (same_sym x) (x.valid p v) w

-- ---- sheets that say the same

pub alike_valid_product : {r s : Sheet} {p : ℕ} → Alike r s → Valid r p → Valid s p
alike_valid_product e v = record { is = rw (← alike_features e, ← alike_valid e) v.is }

-- a move line of the one that a product reaches and whose guard holds has its like in the other
alike_goes_of : {r s : Sheet} {p f t : ℕ} {a : List ℕ} → Alike r s → (m : Move) → Memᴰ m r.moves → m.from ≡ f → m.action ≡ a → m.to ≡ t
    → Reached s p f → holds m.guard p ≡ true → Goes s p f a t
alike_goes_of {s = s} {p} {f} e m i ef ea et w h =
    let k = alike_move e i in
    let b : bare_move k.0 ≡ bare_move m = k.2 in
    let from : k.0.from ≡ f = ap (λ (x : Move). x.from) b ∙ ef in
    record {
      move = k.0;
      there = k.1;
      from = from;
      action = ap (λ (x : Move). x.action) b ∙ ea;
      to = ap (λ (x : Move). x.to) b ∙ et;
      makes = record {
        reached = subst (λ (q : ℕ). Reached s p q) (sym from) w;
        held = ap (λ (x : Move). holds x.guard p) b ∙ h;
      };
    }

pub alike_reached : {r s : Sheet} {p q : ℕ} → Alike r s → Reached r p q → Reached s p q
alike_reached {s = s} {p} e begin = subst (λ (q : ℕ). Reached s p q) (sym (alike_start e)) begin
alike_reached e (by {m} i w h) = goes_to (alike_goes_of e m i refl refl refl (alike_reached e w) h)

pub alike_goes : {r s : Sheet} {p f t : ℕ} {a : List ℕ} → Alike r s → Goes r p f a t → Goes s p f a t
alike_goes e g = alike_goes_of e g.move g.there g.from g.action g.to (alike_reached e (goes_from g)) g.makes.held

pub same_alike : {r s : Sheet} → Alike r s → Same r s
same_alike e = record {
  valid = λ p v. alike_valid_product e v;
  valid_back = λ p v. alike_valid_product (alike_back e) v;
  start = alike_start e;
  moves = λ p f a t v g. alike_goes e g;
  moves_back = λ p f a t v g. alike_goes (alike_back e) g;
}
