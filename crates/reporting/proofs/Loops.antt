-- The loops of rows. One record for each loop: for every sheet that the tables stand for there is a text of the rows so far, and it was laid. The
-- rows that were laid are for the last elements of the sheet's list, which has the last line first. Assumes nothing.
use Rattle.std.proofs.Common.{None, Bool, true, false, ◌||◌, List, [], ◌∷◌, ◌++◌, ◌≡◌, refl, sym, ap, ◌∙◌, ℕ, zero, suc, ◌+◌, ◌-◌, ◌*◌, ◌/◌, ◌%◌, ◌^◌, ◌≤◌, ◌<◌, min, max, eqb, length, get_or, drop, arith, add-one}
use mathlib.Core.List.{Memᴰ}
use mathlib.Core.Logic.{⊎_elim}
use native.Mathlib.Decide.{ℕ_discrete}
use native.Mathlib.Nat.{eq-or-lt_of_le, div-eq_of_lt, pow-le-pow_right}
use borrow.Author.Tests.{eq-eqb, ne_eqb}
use lib.Bits.{bit_or}
use lib.Count.{count_leading_zeros}
use lib.ListN.{drop_of_length-le, get_or-eq_default}
use Rattle.std.proofs.lemmas.Nat.{leading_length}
use Rattle.text.specs.Text.{limit, Wrote}
use Rattle.text.proofs.Laws.{wrote_none, wrote_then, wrote_long}
use Rattle.products.specs.Sets.{bit, has, one_if, count_to}
use Rattle.products.proofs.Bits.{bit_or_lem}
use Rattle.products.proofs.Laws.{nothing_has, has_row}
use Rattle.sheet.specs.declared.Counts.{Counts}
use Rattle.sheet.specs.Sheet.{Move, Stop, Sheet}
use Rattle.sheet.specs.Tables.{Rows, none, next}
use Rattle.sheet.proofs.Rows.{rows_length}
use Rattle.verdicts.specs.declared.Verdict.{Verdict}
use Rattle.verdicts.specs.declared.Verdict.TheVariants.{Dead}
use Rattle.verdicts.specs.declared.StateVerdict.{StateVerdict}
use Rattle.verdicts.specs.declared.StateVerdict.TheVariants.{Unreached}
use Rattle.verdicts.specs.declared.StopVerdict.{StopVerdict}
use Rattle.verdicts.specs.declared.StopVerdict.TheVariants.{Idle}
use Rattle.verdicts.specs.Verdicts.{JudgedAs, StopAs, Named}
use Rattle.verdicts.specs.Judging.{MoveSets, StateSets, StopSets, guards_at, row_at}
use Rattle.states.proofs.Laws.{added_one}
use Rattle.verdicts.proofs.Shown.{Tells, guards_none}
use Rattle.verdicts.proofs.Answers.{none_move, none_stop}
use Rattle.verdicts.proofs.Meaning.{named_means, reached_agree, count_judged, move_judged, state_judged, stop_judged}
use Rattle.reporting.specs.Report.{move_row, state_row, stop_row, MoveRows, StateRows, StopRows}
use Rattle.reporting.specs.Laying.{Ready, Outward}
use Rattle.reporting.specs.Inside.{Marked, Told}
use Rattle.sheet.proofs.Accepted.{good_move, good_stop}

-- ---- one row more

-- row i is for the element before which i elements were read: with it, the last i + 1 elements are the last i and that one
pub row_next : {A : Type 0} {R S : ℕ → A → Type 0} {k i : ℕ} {xs : List A} → Rows R k xs → Rows S k xs → i < k
    → (x : A) × (drop (k - (i + 1)) xs ≡ x ∷ drop (k - i) xs) × R i x × S i x × Memᴰ x xs
row_next none none h = absurd (omega arith)
row_next {R = R} {S = S} {i = i} (next {k} {x} {xs} a first) (next b second) h =
    ⊎_elim
    (λ (e : i ≡ k).
    let z : suc k - (i + 1) ≡ 0 = omega arith in
    let o : suc k - i ≡ 1 = omega arith in
    (x, rw (z, o), rw e a, rw e b, Memᴰ.head refl))
    (λ (l : i < k).
    let y = row_next first second l in
    let z : suc k - (i + 1) ≡ suc (k - (i + 1)) = omega arith in
    let o : suc k - i ≡ suc (k - i) = omega arith in
    (y.0, rw (z, o) y.1, y.2, y.3, Memᴰ.tail y.4))
    (eq-or-lt_of_le (omega arith))

-- ---- texts of rows

-- for every sheet with the property P the rows Q up to i were laid from `at` on, and the room keeps its length
pub record Laid (P : Sheet → Type 0) (Q : ℕ → Sheet → List ℕ → Type 0) (room : List ℕ) (at i : ℕ) (room' : List ℕ) (next : ℕ) : Type 0 where
  pub long : length room' ≡ length room
  pub text : (r : Sheet) → P r → (vs : List ℕ) × Q i r vs × Wrote room at vs room' next

module _ {P : Sheet → Type 0} {Q : ℕ → Sheet → List ℕ → Type 0} {room : List ℕ} {at : ℕ} where
  pub laid_none : length room ≤ limit → ((r : Sheet) → P r → Q 0 r []) → Laid P Q room at 0 room at
  laid_none h f = record { long = refl; text = λ r p. ([], f r p, wrote_none h) }

  pub laid_more : {i : ℕ} {room' room'' : List ℕ} {next next'' : ℕ} → Laid P Q room at i room' next → length room'' ≡ length room'
      → ((r : Sheet) → P r → (ws : List ℕ) × ((vs : List ℕ) → Q i r vs → Q (i + 1) r (vs ++ ws)) × Wrote room' next ws room'' next'')
      → Laid P Q room at (i + 1) room'' next''
  laid_more l e f =
      record {
        long = e ∙ l.long;
        text = λ r p.
            let x = l.text r p in
            let y = f r p in
            (x.0 ++ y.0, y.1 x.0 x.1, wrote_then x.2 y.2);
      }

-- ---- the tables have all rows

module _ {c : Counts} {m g t h sets : List (List ℕ)} {r : Sheet} (w : Ready c m g t h sets r) where
  pub all_moves : min (min c.moves 256) (length m) ≡ min c.moves 256
  all_moves = let l : c.moves ≤ length m = w.stands.filled.moves.few in omega arith

  pub guarded_moves : min (min (min c.moves 256) (length m)) (length g) ≡ min c.moves 256
  guarded_moves =
      let l : c.moves ≤ length m = w.stands.filled.moves.few in
      let k : c.moves ≤ length g = w.stands.filled.move_guards.few in
      omega arith

  pub all_stops : min (min c.stops 64) (length t) ≡ min c.stops 64
  all_stops = let l : c.stops ≤ length t = w.stands.filled.stops.few in omega arith

  pub guarded_stops : min (min (min c.stops 64) (length t)) (length h) ≡ min c.stops 64
  guarded_stops =
      let l : c.stops ≤ length t = w.stands.filled.stops.few in
      let k : c.stops ≤ length h = w.stands.filled.stop_guards.few in
      omega arith

-- ---- a state that has no row is reached by nobody

pub past_move : (R : ℕ → ℕ → Type 0) (sets : List (List ℕ)) {q : ℕ} (guard : List ℕ) → length sets ≤ q → MoveSets R (get_or sets q []) guard (Dead None)
past_move R sets guard l = rw (get_or-eq_default sets [] l) (none_move R guard)

pub past_stop : (R : ℕ → ℕ → Type 0) (sets : List (List ℕ)) {q : ℕ} (guard out : List ℕ) → length sets ≤ q → StopSets R (get_or sets q []) guard out Idle
past_stop R sets guard out l = rw (get_or-eq_default sets [] l) (none_stop R guard out)

nothing_counted : (n : ℕ) → count_to [] n ≡ 0
unfolding count_to
nothing_counted zero = refl
nothing_counted (suc n) = omega (arith, nothing_counted n, nothing_has n)

past_count : (sets : List (List ℕ)) {q : ℕ} → length sets ≤ q → count_to (get_or sets q []) 1024 ≡ 0
past_count sets l = rw (get_or-eq_default sets [] l) (nothing_counted 1024)

-- ---- moves

-- the rows of the first i moves
unfoldable pub MovesUpto : (ℕ → ℕ → Type 0) → ℕ → Sheet → List ℕ → Type 0
MovesUpto R i r vs = MoveRows R r (drop (length r.moves - i) r.moves) vs

-- the move x is the next of the list, and its line and verdict make its row
add_move : {R : ℕ → ℕ → Type 0} {r : Sheet} (ms : List Move) {x : Move} {n k line : ℕ} (i : ℕ) (v : Verdict) (vs : List ℕ) → n ≡ k → line ≡ x.line
    → drop (k - (i + 1)) ms ≡ x ∷ drop (k - i) ms → JudgedAs R r x v → MoveRows R r (drop (n - i) ms) vs
    → MoveRows R r (drop (n - (i + 1)) ms) (vs ++ move_row line v)
add_move ms i v vs k line split judged q = rw (line, k, split) (MoveRows.next v judged (rw k at q))

module _ (R : ℕ → ℕ → Type 0) {c : Counts} {m g t h sets : List (List ℕ)} {r : Sheet} (w : Ready c m g t h sets r) where
  no_move : MovesUpto R 0 r []
  unfolding MovesUpto
  no_move = rw (drop_of_length-le r.moves {i = length r.moves - 0} (omega arith)) MoveRows.none

  every_move : {i : ℕ} {vs : List ℕ} → min (min (min c.moves 256) (length m)) (length g) ≤ i → MovesUpto R i r vs → MoveRows R r r.moves vs
  unfolding MovesUpto
  every_move {i} l q =
      let few = w.stands.few in
      let z : length r.moves - i ≡ 0 = omega (arith, guarded_moves w, rows_length w.stands.filled.moves.rows) in
      rw z at q

  move_there : {i : ℕ} → i < min (min (min c.moves 256) (length m)) (length g) → i < c.moves
  move_there l = omega arith

  one_move : {i line : ℕ} (v : Verdict) (vs : List ℕ) → i < min (min (min c.moves 256) (length m)) (length g) → line ≡ get_or (get_or m i []) 0 0
      → MoveSets R (get_or sets (get_or (get_or m i []) 1 0 % 64) []) (get_or g i []) v
      → MovesUpto R i r vs → MovesUpto R (i + 1) r (vs ++ move_row line v)
  unfolding MovesUpto
  one_move {i} {line} v vs l e s q =
      let x = row_next {i = i} w.stands.filled.moves.rows w.stands.filled.move_guards.rows (move_there l) in
      let is = x.2.is in
      let good = (good_move w.accepted.moves x.4).from in
      let from : get_or (get_or m i []) 1 0 ≡ x.0.from = ap (λ (row : List ℕ). get_or row 1 0) is in
      let place : get_or (get_or m i []) 1 0 % 64 ≡ x.0.from = omega arith in
      let judged = move_judged w.accepted w.reaches x.0 x.4 (get_or g i []) x.3 R v (rw place at s) in
      let line_is : line ≡ x.0.line = e ∙ ap (λ (row : List ℕ). get_or row 0 0) is in
      add_move r.moves i v vs (rows_length w.stands.filled.moves.rows) line_is x.1 judged q

-- ---- the loop over moves

module _ (R : ℕ → ℕ → Type 0) {c : Counts} {m g t h sets : List (List ℕ)} {room : List ℕ} {at : ℕ} where
  pub moves_none : length room ≤ limit → Laid (Ready c m g t h sets) (MovesUpto R) room at 0 room at
  moves_none l = laid_none l (λ r w. no_move R w)

  module _ {i : ℕ} {room' : List ℕ} {next : ℕ} (l : Laid (Ready c m g t h sets) (MovesUpto R) room at i room' next) where
    pub moves_more : {line : ℕ} (v : Verdict) {room'' : List ℕ} {next'' : ℕ} → Wrote room' next (move_row line v) room'' next''
        → i < min (min (min c.moves 256) (length m)) (length g)
        → (line ≡ get_or (get_or m i []) 0 0) × MoveSets R (get_or sets (get_or (get_or m i []) 1 0 % 64) []) (get_or g i []) v
        → Laid (Ready c m g t h sets) (MovesUpto R) room at (i + 1) room'' next''
    moves_more {line} v w k j = laid_more l (wrote_long w) (λ r p. (move_row line v, λ vs q. one_move R p v vs k j.0 j.1 q, w))

    pub moves_all : min (min (min c.moves 256) (length m)) (length g) ≤ i → (r : Sheet) → Ready c m g t h sets r
        → (vs : List ℕ) × MoveRows R r r.moves vs × Wrote room at vs room' next
    moves_all k r w = let x = l.text r w in (x.0, every_move R w k x.1, x.2)

-- ---- states

-- the rows of the named states below q
unfoldable pub StatesUpto : (ℕ → ℕ → Type 0) → ℕ → Sheet → List ℕ → Type 0
StatesUpto R q r vs = StateRows R r q vs

-- the tables are ready, and `out` is what the guards of the moves give
pub record Outgoing (c : Counts) (m g t h sets out : List (List ℕ)) (r : Sheet) : Type 0 where
  pub ready : Ready c m g t h sets r
  pub outward : Outward c m g sets out

-- a mark is 1 where its test is true
mark_told : {n : ℕ} (b : Bool) → n ≡ one_if b → eqb n 1 ≡ b
mark_told {n} true e = eq-eqb n 1 e
mark_told {n} false e = ne_eqb n 1 (λ (f : n ≡ 1). omega arith)

-- a mark of 0 is where its test is false
unmarked : {n : ℕ} (b : Bool) → n ≡ one_if b → n ≡ 0 → b ≡ false
unmarked true e z = absurd (omega arith)
unmarked false e z = refl

marked : {n : ℕ} (b : Bool) → n ≡ one_if b → n ≡ 1 → b ≡ true
marked true e z = refl
marked false e z = absurd (omega arith)

-- where no stop line is for the state, none excuses anything
pub none_declared : (t h : List (List ℕ)) (q n : ℕ) {mark : ℕ} → mark ≡ 0 → mark ≡ one_if (row_at t 1 q n) → (out : List ℕ) (p : ℕ)
    → has out p ≡ max (has out p) (guards_at t h q p n)
none_declared t h q n z e out p = omega (arith, guards_none t h q p n (unmarked (row_at t 1 q n) e z))

-- ---- which states are named

one_or : (a b d : Bool) → max (max (one_if a) (one_if b)) (one_if d) ≡ one_if (a || (b || d))
one_or true true true = refl
one_or true true false = refl
one_or true false true = refl
one_or true false false = refl
one_or false true true = refl
one_or false true false = refl
one_or false false true = refl
one_or false false false = refl

with_start_lem : (k q : ℕ) (b : Bool) → max (one_if b) (one_if (eqb k q)) ≡ one_if (eqb q k || b)
with_start_lem k q b = at b (ℕ_discrete q k)
  where
    at : (b : Bool) → Dec (q ≡ k) → max (one_if b) (one_if (eqb k q)) ≡ one_if (eqb q k || b)
    at true (yes e) = rw (eq-eqb q k e, eq-eqb k q (sym e)) refl
    at false (yes e) = rw (eq-eqb q k e, eq-eqb k q (sym e)) refl
    at true (no ne) = rw (ne_eqb q k ne, ne_eqb k q (λ e. ne (sym e))) refl
    at false (no ne) = rw (ne_eqb q k ne, ne_eqb k q (λ e. ne (sym e))) refl

-- the word of the marks of four kinds
pub all_named : (start leaves ends stopped : ℕ) (a b d : ℕ → Bool) → Marked leaves a → Marked ends b → Marked stopped d
    → Marked (bit_or (bit_or (bit_or leaves ends) stopped) (1 * 2 ^ (start % 64) % 2 ^ 64)) (λ q. eqb q (start % 64) || (a q || (b q || d q)))
all_named start leaves ends stopped a b d x y z q lq =
    let joined : bit (bit_or (bit_or leaves ends) stopped) q ≡ one_if (a q || (b q || d q)) =
    bit_or_lem (bit_or leaves ends) stopped q ∙ ap (λ (n : ℕ). max n (bit stopped q)) (bit_or_lem leaves ends q) ∙ rw (x q lq, y q lq, z q lq) (one_or (a q) (b q) (d q)) in
    added_one (bit_or (bit_or leaves ends) stopped) (start % 64) (omega arith) q lq ∙ ap (λ (n : ℕ). max n (one_if (eqb (start % 64) q))) joined
    ∙ with_start_lem (start % 64) q (a q || (b q || d q))

-- whether a start, move or stop line names the state q, by the first k moves and the first n stop lines
abbrev named_at : Counts → List (List ℕ) → List (List ℕ) → ℕ → ℕ → ℕ → Bool
named_at c m t k n q = eqb q (c.start % 64) || (row_at m 1 q k || (row_at m 4 q k || row_at t 1 q n))

-- the marks of the states that a move line leaves, that a stop line is for, and that any line names, by the rows that are there
pub record Marks (c : Counts) (m t : List (List ℕ)) (leaves stopped named : ℕ) : Type 0 where
  pub left : Marked leaves (λ q. row_at m 1 q (min (min c.moves 256) (length m)))
  pub declared : Marked stopped (λ q. row_at t 1 q (min (min c.stops 64) (length t)))
  pub by_line : Marked named (named_at c m t (min (min c.moves 256) (length m)) (min (min c.stops 64) (length t)))

pub marks_are : {c : Counts} {m t : List (List ℕ)} {leaves : ℕ} (ends : ℕ) {stopped named : ℕ}
    → Marked leaves (λ q. row_at m 1 q (min (min c.moves 256) (length m))) → Marked ends (λ q. row_at m 4 q (min (min c.moves 256) (length m)))
    → Marked stopped (λ q. row_at t 1 q (min (min c.stops 64) (length t)))
    → ((a b d : ℕ → Bool) → Marked leaves a → Marked ends b → Marked stopped d → Marked named (λ q. eqb q (c.start % 64) || (a q || (b q || d q))))
    → Marks c m t leaves stopped named
marks_are {c} {m} {t} ends left ended declared joined =
    record {
      left = left;
      declared = declared;
      by_line = joined (λ q. row_at m 1 q (min (min c.moves 256) (length m))) (λ q. row_at m 4 q (min (min c.moves 256) (length m)))
          (λ q. row_at t 1 q (min (min c.stops 64) (length t))) left ended declared;
    }

-- behind the highest bit of the names there is no state
pub behind_small : {named : ℕ} → named < 2 ^ 64 → named < 2 ^ (64 - count_leading_zeros 64 named)
behind_small {named} l =
    let z = leading_length 64 named l in
    let e : 64 - count_leading_zeros 64 named ≡ z.0 = omega (arith, z.1) in
    rw e z.2

behind_none : {n behind : ℕ} (j : ℕ) → n < 2 ^ behind → behind ≤ j → bit n j ≡ 0
behind_none {n} {behind} j l k =
    let b : 2 ^ behind ≤ 2 ^ j = pow-le-pow_right {n = 2} (omega arith) k in
    let z : n / 2 ^ j ≡ 0 = div-eq_of_lt (omega arith) in
    ap (λ (x : ℕ). x % 2) z

module _ {c : Counts} {m g t h sets : List (List ℕ)} {r : Sheet} (w : Ready c m g t h sets r) {leaves stopped named : ℕ} (k : Marks c m t leaves stopped named) where
  marks_told : {out : List (List ℕ)} → Outward c m g sets out → Told c m g t sets out leaves stopped
  marks_told o =
      record {
        outward = o;
        left = λ q lq. k.left q lq ∙ ap (λ (n : ℕ). one_if (row_at m 1 q n)) (all_moves w);
        declared = λ q lq. k.declared q lq ∙ ap (λ (n : ℕ). one_if (row_at t 1 q n)) (all_stops w);
      }

  -- the bits tell which states are named: the start of an accepted sheet is below 64
  names_told : (q : ℕ) → Tells (named_at c m t (min (min c.moves 256) (length m)) (min (min c.stops 64) (length t)) q) (Named r q)
  names_told q =
      let small : c.start % 64 ≡ c.start = omega (arith, w.accepted.start, w.stands.start) in
      rw (small, all_moves w, all_stops w) (named_means w.stands q)

  is_named : {q : ℕ} → q < 64 → bit named q ≡ 1 → Named r q
  is_named {q} lq e = (names_told q).so (marked (named_at c m t (min (min c.moves 256) (length m)) (min (min c.stops 64) (length t)) q) (k.by_line q lq) e)

  is_other : {q : ℕ} → q < 64 → bit named q ≡ 0 → Named r q → ⊥
  is_other {q} lq e = (names_told q).not_so (unmarked (named_at c m t (min (min c.moves 256) (length m)) (min (min c.stops 64) (length t)) q) (k.by_line q lq) e)

-- d states that no line names have no rows
no_rows : {R : ℕ → ℕ → Type 0} {r : Sheet} {vs : List ℕ} (q d : ℕ) → StateRows R r q vs → ((j : ℕ) → j < d → Named r (q + j) → ⊥) → StateRows R r (q + d) vs
no_rows q zero s f = let e : q + 0 ≡ q = omega arith in rw e s
no_rows q (suc d) s f =
    let e : q + suc d ≡ suc (q + d) = omega arith in
    rw e (StateRows.other (f d (omega arith)) (no_rows q d s (λ j l. f j (omega arith))))

-- ---- the loop over states

module _ (R : ℕ → ℕ → Type 0) {c : Counts} {m g t h sets out : List (List ℕ)} {room : List ℕ} {at : ℕ} where
  pub states_none : length room ≤ limit → Laid (Outgoing c m g t h sets out) (StatesUpto R) room at 0 room at
  unfolding StatesUpto
  states_none l = laid_none l (λ r w. StateRows.none)

  module _ {leaves stopped named q : ℕ} (k : Marks c m t leaves stopped named) {room' : List ℕ} {next : ℕ}
      (l : Laid (Outgoing c m g t h sets out) (StatesUpto R) room at q room' next) where
    -- no line names the state q
    pub states_passed : q < 64 → {room'' : List ℕ} {next'' : ℕ} → room'' ≡ room' → next'' ≡ next → (bit named q ≡ 1 → ⊥)
        → Laid (Outgoing c m g t h sets out) (StatesUpto R) room at (q + 1) room'' next''
    unfolding StatesUpto
    states_passed lq i j z =
        let e : bit named q ≡ 0 = omega arith in
        rw (i, j)
        (record {
          long = l.long;
          text = λ r w. let x = l.text r w in (x.0, rw add-one (StateRows.other (is_other w.ready k lq e) x.1), x.2);
        })

    pub states_more : q < 64 → {room'' room''' : List ℕ} {next'' next''' : ℕ} → room''' ≡ room'' → next''' ≡ next'' → bit named q ≡ 1 → length room'' ≡ length room'
        → ((r : Sheet) → Ready c m g t h sets r → Told c m g t sets out leaves stopped → Named r q
        → (vs : List ℕ) × ((before : List ℕ) → StateRows R r q before → StateRows R r (suc q) (before ++ vs)) × Wrote room' next vs room'' next'')
        → Laid (Outgoing c m g t h sets out) (StatesUpto R) room at (q + 1) room''' next'''
    unfolding StatesUpto
    states_more lq i j o e put =
        rw (i, j)
        (laid_more l e (λ r w. let x = put r w.ready (marks_told w.ready k w.outward) (is_named w.ready k lq o) in (x.0, λ vs s. rw add-one (x.1 vs s), x.2)))

    pub states_all : {behind : ℕ} → named < 2 ^ behind → behind ≤ q → q ≤ 64 → (r : Sheet) → Ready c m g t h sets r → Outward c m g sets out
        → (vs : List ℕ) × StateRows R r 64 vs × Wrote room at vs room' next
    unfolding StatesUpto
    states_all small past most r w o =
        let x = l.text r (record { ready = w; outward = o }) in
        let e : q + (64 - q) ≡ 64 = omega arith in
        (x.0, rw e at (no_rows q (64 - q) x.1 (λ j lj. is_other w k (omega arith) (behind_none (q + j) small (omega arith)))), x.2)

-- one named state's row
pub state_laid : (R : ℕ → ℕ → Type 0) {c : Counts} {m g t h sets out : List (List ℕ)} {leaves stopped q : ℕ} → q < 64
    → (v : StateVerdict) {k at next : ℕ} {room room' : List ℕ} → Wrote room at (state_row q v k) room' next → k ≡ count_to (get_or sets q []) 1024
    → ((n : ℕ) → n ≡ min (min (min c.stops 64) (length t)) (length h) → bit stopped q ≡ one_if (row_at t 1 q n)
    → (excused : List ℕ) × ((p : ℕ) → p < 1024 → has excused p ≡ max (has (get_or out q []) p) (guards_at t h q p n)) × StateSets R (get_or sets q []) (eqb (bit leaves q) 1) excused v)
    → (r : Sheet) → Ready c m g t h sets r → Told c m g t sets out leaves stopped → Named r q
    → (vs : List ℕ) × ((before : List ℕ) → StateRows R r q before → StateRows R r (suc q) (before ++ vs)) × Wrote room at vs room' next
state_laid R {c} {m} {q = q} lq v {k} l e judged r w told i =
    let x = judged (min c.stops 64) (sym (guarded_stops w)) (told.declared q lq) in (
      state_row q v k,
      λ before s.
          StateRows.named {k = k} v i
          (state_judged w.accepted w.reaches w.stands lq x.0 (λ p b. x.1 p b.small ∙ rw (told.outward q lq p b) refl) R
          (mark_told (row_at m 1 q (min c.moves 256)) (told.left q lq)) v x.2)
          (rw e (count_judged w.accepted w.reaches lq)) s,
      l,
    )

-- the same where the state has no row
pub state_past : (R : ℕ → ℕ → Type 0) {c : Counts} {m g t h sets out : List (List ℕ)} {leaves stopped q : ℕ} → q < 64 → length sets ≤ q
    → {at next : ℕ} {room room' : List ℕ} → Wrote room at (state_row q Unreached 0) room' next
    → (r : Sheet) → Ready c m g t h sets r → Told c m g t sets out leaves stopped → Named r q
    → (vs : List ℕ) × ((before : List ℕ) → StateRows R r q before → StateRows R r (suc q) (before ++ vs)) × Wrote room at vs room' next
state_past R {sets = sets} {q = q} lq past l r w told i = (
  state_row q Unreached 0,
  λ before s.
      StateRows.named {k = 0} Unreached i (λ p b. omega (arith, has_row sets q ((reached_agree w.accepted w.reaches lq).back p b)))
      (rw (past_count sets past) at (count_judged w.accepted w.reaches lq)) s,
  l,
)

-- ---- stop lines

-- the rows of the first i stop lines
unfoldable pub StopsUpto : (ℕ → ℕ → Type 0) → ℕ → Sheet → List ℕ → Type 0
StopsUpto R i r vs = StopRows R r (drop (length r.stops - i) r.stops) vs

-- the same for the stop line x
add_stop : {R : ℕ → ℕ → Type 0} {r : Sheet} (ds : List Stop) {x : Stop} {n k line : ℕ} (i : ℕ) (v : StopVerdict) (vs : List ℕ) → n ≡ k → line ≡ x.line
    → drop (k - (i + 1)) ds ≡ x ∷ drop (k - i) ds → StopAs R r x v → StopRows R r (drop (n - i) ds) vs
    → StopRows R r (drop (n - (i + 1)) ds) (vs ++ stop_row line v)
add_stop ds i v vs k line split judged q = rw (line, k, split) (StopRows.next v judged (rw k at q))

module _ (R : ℕ → ℕ → Type 0) {c : Counts} {m g t h sets out : List (List ℕ)} {r : Sheet} (w : Outgoing c m g t h sets out r) where
  no_stop : StopsUpto R 0 r []
  unfolding StopsUpto
  no_stop = rw (drop_of_length-le r.stops {i = length r.stops - 0} (omega arith)) StopRows.none

  every_stop : {i : ℕ} {vs : List ℕ} → min (min (min c.stops 64) (length t)) (length h) ≤ i → StopsUpto R i r vs → StopRows R r r.stops vs
  unfolding StopsUpto
  every_stop {i} l q =
      let few = w.ready.stands.stops_few in
      let z : length r.stops - i ≡ 0 = omega (arith, guarded_stops w.ready, rows_length w.ready.stands.filled.stops.rows) in
      rw z at q

  stop_there : {i : ℕ} → i < min (min (min c.stops 64) (length t)) (length h) → i < c.stops
  stop_there l = omega arith

  one_stop : {i : ℕ} (v : StopVerdict) (vs : List ℕ) → i < min (min (min c.stops 64) (length t)) (length h)
      → StopSets R (get_or sets (get_or (get_or t i []) 1 0 % 64) []) (get_or h i []) (get_or out (get_or (get_or t i []) 1 0 % 64) []) v
      → StopsUpto R i r vs → StopsUpto R (i + 1) r (vs ++ stop_row (get_or (get_or t i []) 0 0) v)
  unfolding StopsUpto
  one_stop {i} v vs l s q =
      let x = row_next {i = i} w.ready.stands.filled.stops.rows w.ready.stands.filled.stop_guards.rows (stop_there l) in
      let small = (good_stop w.ready.accepted.stops x.4).state in
      let state : get_or (get_or t i []) 1 0 ≡ x.0.state = ap (λ (row : List ℕ). get_or row 1 0) x.2 in
      let place : get_or (get_or t i []) 1 0 % 64 ≡ x.0.state = omega arith in
      let judged =
      stop_judged w.ready.accepted w.ready.reaches w.ready.stands x.0 x.4 (get_or h i []) x.3 (get_or out x.0.state [])
      (w.outward x.0.state (omega arith)) R v (rw place at s) in
      let line : get_or (get_or t i []) 0 0 ≡ x.0.line = ap (λ (row : List ℕ). get_or row 0 0) x.2 in
      add_stop r.stops i v vs (rows_length w.ready.stands.filled.stops.rows) line x.1 judged q

-- ---- the loop over stop lines

module _ (R : ℕ → ℕ → Type 0) {c : Counts} {m g t h sets out : List (List ℕ)} {room : List ℕ} {at : ℕ} where
  pub stops_none : length room ≤ limit → Laid (Outgoing c m g t h sets out) (StopsUpto R) room at 0 room at
  stops_none l = laid_none l (λ r w. no_stop R w)

  module _ {i : ℕ} {room' : List ℕ} {next : ℕ} (l : Laid (Outgoing c m g t h sets out) (StopsUpto R) room at i room' next) where
    pub stops_more : (v : StopVerdict) {room'' : List ℕ} {next'' : ℕ} → Wrote room' next (stop_row (get_or (get_or t i []) 0 0) v) room'' next''
        → i < min (min (min c.stops 64) (length t)) (length h)
        → StopSets R (get_or sets (get_or (get_or t i []) 1 0 % 64) []) (get_or h i []) (get_or out (get_or (get_or t i []) 1 0 % 64) []) v
        → Laid (Outgoing c m g t h sets out) (StopsUpto R) room at (i + 1) room'' next''
    stops_more v w k s = laid_more l (wrote_long w) (λ r p. (stop_row (get_or (get_or t i []) 0 0) v, λ vs q. one_stop R p v vs k s q, w))

    pub stops_all : min (min (min c.stops 64) (length t)) (length h) ≤ i → (r : Sheet) → Ready c m g t h sets r → Outward c m g sets out
        → (vs : List ℕ) × StopRows R r r.stops vs × Wrote room at vs room' next
    stops_all k r w o =
        let p : Outgoing c m g t h sets out r = record { ready = w; outward = o } in
        let x = l.text r p in
        (x.0, every_stop R p k x.1, x.2)
