-- The marks by which repeats are told: equal triples have one place, so where a place has no mark none of its triples has come, and a mark that is
-- set keeps that true. Assumes nothing.
use Rattle.std.proofs.Common.{◌≡◌, refl, sym, ap, ◌∙◌, Bool, true, false, ◌&&◌, List, [], ◌∷◌, ℕ, zero, suc, ◌+◌, ◌-◌, ◌*◌, ◌/◌, ◌%◌, ◌^◌, ◌≤◌, ◌<◌, arith, pow-suc, one-mul, bit_or, eqb, length, get_or, set, drop, replicate, length-set, shl_exact, get_or-set_same, get_or-set_other}
use mathlib.Core.Bool.{and-eq-true_iff}
use native.Mathlib.Decide.{ℕ_discrete}
use borrow.Author.Tests.{eqb-true}
use lib.ListN.{length-replicate}
use lib.Seq.{drop-length}
use Rattle.products.specs.Sets.{bit, has}
use Rattle.products.proofs.Bits.{bit_or_lem, bit_suc}
use Rattle.fields.specs.Bytes.{same_bytes}
use Rattle.fields.proofs.Parts.{headed}
use Rattle.fields.proofs.Same.{same_true}
use Rattle.sheet.specs.Sheet.{Move}
use Rattle.sheet.specs.Reading.{is_move, moved}
use Rattle.sheet.specs.Inside.{mixed, place_of, Marked, Tells}
use Rattle.sheet.proofs.Looking.{move_more, move_none}

-- ---- places

mixed_small : (h : ℕ) (bs : List ℕ) → h < 8192 → mixed h bs < 8192
unfolding mixed
mixed_small h [] l = l
mixed_small h (b ∷ bs) l = omega arith

place_small : (from : ℕ) (action : List ℕ) (to : ℕ) → place_of from action to < 8192
unfolding place_of
place_small from action to = mixed_small (from % 64 * 128 + to % 64) (drop (length action - 3) action) (omega arith)

-- the word of a place
pub word_small : {h : ℕ} (from : ℕ) (action : List ℕ) (to : ℕ) → h ≡ place_of from action to → h / 64 < 128
word_small from action to e = omega (arith, e, place_small from action to)

-- after the bytes from i on, of those from `low` on
pub record Mixed (x : ℕ) (s : List ℕ) (low h i : ℕ) : Type 0 where
  pub least : low ≤ i
  pub within : i ≤ length s
  pub small : h < 8192
  pub is : h ≡ mixed x (drop i s)

pub mixed_start : (x : ℕ) (s : List ℕ) {low : ℕ} → x < 8192 → low ≤ length s → Mixed x s low x (length s)
unfolding mixed
mixed_start x s l m = record { least = m; within = omega arith; small = l; is = rw (drop-length s) }

pub mixed_more : {x : ℕ} {s : List ℕ} {low h i : ℕ} → Mixed x s low h i → low < i → Mixed x s low ((h * 37 + get_or s (i - 1) 0) % 8192) (i - 1)
unfolding mixed
mixed_more {s = s} {i = i} k l =
    let within = k.within in
    let z : i - 1 + 1 ≡ i = omega arith in
    record { least = omega arith; within = omega arith; small = omega arith; is = rw (headed s (i - 1) (omega arith), z, sym k.is) }

pub mixed_done : (from to : ℕ) {s : List ℕ} {low h i : ℕ} → Mixed (from % 64 * 128 + to % 64) s low h i → i ≤ low → low ≡ length s - 3 → h ≡ place_of from s to
unfolding place_of
mixed_done from to {s} {i = i} k l e =
    let least = k.least in
    let z : i ≡ length s - 3 = omega arith in
    rw z at k.is

-- ---- marks

pub marked_none : Marked (replicate 128 0) []
marked_none = record { long = simp length-replicate; new = λ from action to e. move_none from action to }

-- the place of a move's triple
abbrev place_in : Move → ℕ
place_in m = place_of m.from m.action m.to

same_place : (from : ℕ) (action : List ℕ) (to : ℕ) (m : Move) → is_move from action to m ≡ true → place_of from action to ≡ place_in m
same_place from action to m e =
    let y = (and-eq-true_iff (eqb from m.from) (eqb to m.to && same_bytes m.action action)).0 e in
    let z = (and-eq-true_iff (eqb to m.to) (same_bytes m.action action)).0 y.1 in
    rw (eqb-true from m.from y.0, eqb-true to m.to z.0, same_true m.action action z.1)

-- ---- a mark more

-- a power of two has the bit of its exponent
own_bit : (b : ℕ) → bit (2 ^ b) b ≡ 1
own_bit zero = refl
own_bit (suc b) =
    let e : 2 ^ suc b / 2 ≡ 2 ^ b = omega (arith, pow-suc 2 b) in
    bit_suc (2 ^ suc b) b ∙ ap (λ (x : ℕ). bit x b) e ∙ own_bit b

-- the word with the mark of place h alone, and the marks with that one
abbrev mark : ℕ → ℕ
mark h = 1 * 2 ^ (h % 64) % 2 ^ 64

abbrev with_mark : List ℕ → ℕ → List ℕ
with_mark seen h = set seen (h / 64) (bit_or (get_or seen (h / 64) 0) (mark h))

module _ (seen : List ℕ) (h : ℕ) (l : h / 64 < length seen) where
  the_word : get_or (with_mark seen h) (h / 64) 0 ≡ bit_or (get_or seen (h / 64) 0) (mark h)
  the_word = get_or-set_same seen (h / 64) (bit_or (get_or seen (h / 64) 0) (mark h)) 0 l

  mark_here : has (with_mark seen h) h ≡ 1
  unfolding has
  mark_here =
      let e : mark h ≡ 2 ^ (h % 64) = shl_exact 1 (h % 64) 64 (omega arith) (omega arith) ∙ one-mul (2 ^ (h % 64)) in
      let z : bit (mark h) (h % 64) ≡ 1 = ap (λ (x : ℕ). bit x (h % 64)) e ∙ own_bit (h % 64) in
      rw the_word (omega (arith, bit_or_lem (get_or seen (h / 64) 0) (mark h) (h % 64), z))

  mark_more : (p : ℕ) → has (with_mark seen h) p ≡ 0 → has seen p ≡ 0
  unfolding has
  mark_more p e = go (ℕ_discrete (p / 64) (h / 64))
    where
      go : Dec (p / 64 ≡ h / 64) → bit (get_or seen (p / 64) 0) (p % 64) ≡ 0
      go (yes q) = rw q (omega (arith, bit_or_lem (get_or seen (h / 64) 0) (mark h) (p % 64), rw (q, the_word) at e))
      go (no q) = rw (get_or-set_other seen (h / 64) (p / 64) (bit_or (get_or seen (h / 64) 0) (mark h)) 0 q) at e

-- ---- moves

module _ {seen : List ℕ} {ms : List Move} (k : Marked seen ms) where
  -- a move whose place has its mark
  marked_move : (m : Move) → (has seen (place_in m) ≡ 0 → ⊥) → Marked seen (m ∷ ms)
  marked_move m n = record { long = k.long; new = λ from action to e. move_more from action to m ms (other from action to e) ∙ k.new from action to e }
    where
      other : (from : ℕ) (action : List ℕ) (to : ℕ) → has seen (place_of from action to) ≡ 0 → is_move from action to m ≡ false
      other from action to e = go (is_move from action to m) refl
        where
          go : (t : Bool) → is_move from action to m ≡ t → is_move from action to m ≡ false
          go true q = absurd (n (rw (sym (same_place from action to m q)) e))
          go false q = q

  -- one mark more
  marked_set : (h : ℕ) → h / 64 < length seen → Marked (with_mark seen h) ms
  marked_set h l = record {
    long = length-set seen (h / 64) (bit_or (get_or seen (h / 64) 0) (mark h)) ∙ k.long;
    new = λ from action to e. k.new from action to (mark_more seen h l (place_of from action to) e);
  }

-- ---- whether a triple has come

module _ (from : ℕ) (action : List ℕ) (to : ℕ) {h : ℕ} (e : h ≡ place_of from action to) {seen : List ℕ} {ms : List Move} (k : Marked seen ms) where
  place_of_lem : (m : Move) → m.from ≡ from → m.action ≡ action → m.to ≡ to → place_in m ≡ h
  place_of_lem m f a t = rw (e, f, a, t)

  pub tells_new : get_or seen (h / 64) 0 / 2 ^ (h % 64) % 2 ≡ 0 → Tells (with_mark seen h) from action to ms false
  unfolding has
  tells_new q =
      let l : h / 64 < length seen = rw k.long (word_small from action to e) in
      record {
        is = sym (k.new from action to (rw e at q));
        marked = λ m f a t. marked_move (marked_set k h l) m (rw (place_of_lem m f a t) (λ z. omega (arith, mark_here seen h l, z)));
      }

  pub tells_seen : {r : Bool} → (get_or seen (h / 64) 0 / 2 ^ (h % 64) % 2 ≡ 0 → ⊥) → r ≡ moved from action to ms → Tells seen from action to ms r
  unfolding has
  tells_seen n z = record { is = z; marked = λ m f a t. marked_move k m (rw (place_of_lem m f a t) n) }
