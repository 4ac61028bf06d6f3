-- The clean form of an accepted sheet is accepted: each of its moves has the triple of a move of the sheet and its triples rise, so they are good,
-- no more and no repeats; its guards are written sets. So its text is read, and what is read says the same. Assumes nothing.
use mathlib.Core.Path.{◌≡◌, refl, sym, subst}
use mathlib.Core.List.{List, [], ◌∷◌, Memᴰ}
use mathlib.Core.Logic.{inl, inr}
use Prim.Native.Nat.{ℕ, ◌≤◌}
use native.Mathlib.Omega.{arith}
use lib.ListN.{length}
use Rattle.guards.specs.Guard.{Guard, always, holds, nesting, Declared}
use Rattle.sheet.specs.Sheet.{Move, Stop, Sheet}
use Rattle.sheet.specs.Reading.{kept, read_sheet}
use Rattle.sheet.specs.Spelling.{text_of, Alike}
use Rattle.sheet.specs.Accepted.{GoodGuard, GoodMove, GoodMoves, GoodStop, GoodStops, Accepted}
use Rattle.sheet.proofs.ReadBack.{read_back}
use Rattle.splitting.specs.Splitting.{Writes}
use Rattle.splitting.proofs.Laws.{guard_declared, guard_nesting}
use Rattle.normal.specs.Clean.{count, Kept, GuardFor, Rising, key_of, MoveBefore, StopBefore, Clean}
use Rattle.normal.proofs.Once.{not_longer, key_of_lem, before_other, moved_once, stopped_once}
use Rattle.normal.proofs.Kept.{clean_count, clean_same}
use Rattle.sheet.proofs.Accepted.{good_move}

-- ---- guards

-- the guard of a set of the products of n features
pub writes_good : {n : ℕ} {P : ℕ → Type 0} {g : Guard} → n ≤ 10 → Writes n P g → GoodGuard n g
writes_good {n} {P} {g} few w =
    subst (λ (h : Guard). GoodGuard n h) w.form
    (record { declared = guard_declared n 0 n (holds g) (omega arith); nested = omega (arith, guard_nesting n 0 (holds g)) })

pub always_good : (n : ℕ) → GoodGuard n always
unfolding Declared nesting
always_good n = record { declared = tt; nested = omega arith }

-- ---- lists

pub good_moves : {n : ℕ} (ms : List Move) → Rising MoveBefore ms → ((m : Move) → Memᴰ m ms → GoodMove n m) → GoodMoves n ms
good_moves [] r f = tt
good_moves (m ∷ ms) r f = (f m (Memᴰ.head refl), moved_once m ms r.0, good_moves ms r.1 (λ k i. f k (Memᴰ.tail i)))

pub good_stops : {n : ℕ} (ds : List Stop) → Rising StopBefore ds → ((d : Stop) → Memᴰ d ds → GoodStop n d) → GoodStops n ds
good_stops [] r f = tt
good_stops (d ∷ ds) r f = (f d (Memᴰ.head refl), stopped_once d ds r.0, good_stops ds r.1 (λ k i. f k (Memᴰ.tail i)))

-- ---- the clean form

module _ {r c : Sheet} (ok : Accepted r) (k : Clean r c) where
  kept_good : {f t : ℕ} {a : List ℕ} → Kept r f a t → (m : Move) × Memᴰ m r.moves × GoodMove (count r) m × (m.from ≡ f) × (m.action ≡ a) × (m.to ≡ t)
  kept_good x = let g = x.made.goes in (g.move, g.there, good_move ok.moves g.there, g.from, g.action, g.to)

  guard_good : {f t : ℕ} {a : List ℕ} {g : Guard} → GuardFor r f a t g → GoodGuard (count r) g
  guard_good (inl x) = rw x.guard (always_good (count r))
  guard_good (inr x) = writes_good ok.few_features x.guard

  move_good : (m : Move) → Memᴰ m c.moves → GoodMove (count r) m
  move_good m i =
      let x = kept_good (k.moves_only m i).0 in
      record {
        from = rw x.3 at x.2.from;
        action = rw x.4 at x.2.action;
        to = rw x.5 at x.2.to;
        guard = guard_good (k.moves_only m i).1;
      }

  stop_good : (d : Stop) → Memᴰ d c.stops → GoodStop (count r) d
  stop_good d i =
      let x = kept_good (k.stops_only d i).0.kept in
      record { state = rw x.3 at x.2.from; guard = writes_good ok.few_features (k.stops_only d i).2 }

  pub clean_few : length c.moves ≤ length r.moves
  clean_few =
      not_longer key_of before_other c.moves r.moves k.moves_rise
      (λ m i. let x = kept_good (k.moves_only m i).0 in (x.0, x.1, key_of_lem m x.0 (sym x.3) (sym x.4) (sym x.5)))

  pub clean_accepted : Accepted c
  clean_accepted =
      let p = ok.allowed in
      record {
        few_features = omega (arith, clean_count k, ok.few_features);
        names = rw k.features ok.names;
        valid = rw (clean_count k) (writes_good ok.few_features k.valid);
        start = rw k.start ok.start;
        few_moves = omega (arith, clean_few, ok.few_moves);
        moves = rw (clean_count k) (good_moves c.moves k.moves_rise move_good);
        stops = rw (clean_count k) (good_stops c.stops k.stops_rise stop_good);
        allowed = (p.0, ((clean_same k).valid p.0 (record { is = p.1 })).is);
      }

-- the text of the clean form is read as a sheet that says the same
pub clean_read : {r c : Sheet} → Accepted r → Clean r c → length (text_of c) ≤ 65536 → (d : Sheet) × (read_sheet (text_of c) ≡ kept d) × Alike d c
clean_read {c = c} ok k short = read_back c (clean_accepted ok k) short
