-- The line readers that fill a table: moves and stops. One law for each return; a kept line puts one row into each of its two tables.
-- Assumes nothing.
use Rattle.std.proofs.Common.{Option, Some, None, Result, Ok, Err, ◌≡◌, refl, sym, ap, subst, ◌∙◌, Bool, true, false, List, [], ◌∷◌, ℕ, ◌+◌, ◌-◌, ◌≤◌, ◌<◌, min, leb, length, get_or, arith}
use borrow.Author.Tests.{le-leb, lt-leb}
use Rattle.std.proofs.Math.ListN.{set}
use Rattle.refusals.specs.declared.Reason.TheVariants as because
use Rattle.refusals.specs.declared.Refusal.{Refusal}
use Rattle.refusals.specs.Refusal.{refusal}
use Rattle.fields.specs.Bytes.{part, is_action, read_state}
use Rattle.fields.specs.declared.Tabs.{Tabs}
use Rattle.fields.specs.Cutting.{fields, two, four, as_two, as_four, tabs, CutsTwo, CutsFour}
use Rattle.fields.proofs.Parts.{part_length, part_part}
use Rattle.values.proofs.States.{state_small}
use Rattle.guards.specs.Guard.{Guard}
use Rattle.guards.specs.Reading.{names_of, read_whole}
use Rattle.sheet.specs.declared.Progress.{Progress}
use Rattle.sheet.specs.declared.Triple.{Triple}
use Rattle.sheet.specs.declared.Section.TheVariants.{BehindStart, BehindStop}
use Rattle.sheet.specs.Sheet.{Move, Stop, names}
use Rattle.sheet.specs.Reading.{State, Answer, refuse_if, place_behind, guarded, moved, stopped, move_word, stop_word, keep, with_move, with_stop, guarded_move, move_line, stop_line}
use Rattle.sheet.specs.Tables.{Tables, tables, Lies, Rows, MoveRow, StopRow}
use Rattle.sheet.specs.Inside.{Tells, Marked, Guards, Tripled, Stands, Says}
use Rattle.sheet.proofs.Rows.{rows_length, table_put}
use Rattle.sheet.proofs.Apart.{stops_fit}
use Rattle.sheet.proofs.Lines.{refuses, keeps, guard_stands, guards_as}

-- ---- a part of what lies in the sheet lies there too

pub lies_part : {s l : List ℕ} {at : ℕ} (b e : ℕ) → Lies s l at → b ≤ e → e ≤ length l → Lies s (part l b e) (at + b)
lies_part {s} {l} {at} b e h k m =
    let w = h.within in
    let n : length (part l b e) ≡ e - b = part_length l b e m in
    let z : at + b + length (part l b e) ≡ at + e = omega arith in
    let y : at + length l - at ≡ length l = omega arith in
    record {
      within = omega arith;
      is =
          ap (part s (at + b)) z
          ∙ sym (part_part s at (at + length l) b e (omega arith))
          ∙ ap (λ (x : List ℕ). part x b e) h.is;
    }

-- ---- `move`: the guard, the repeat and the row

module _ (n u : ℕ) (st : State) (from : ℕ) (action : List ℕ) (place to : ℕ) (x : List ℕ) {rd : Result (Unit {0}) Refusal} {gs : List ℕ}
    {s : List ℕ} {nm : List (List ℕ)} {v : List ℕ} {m g t d : List (List ℕ)} {seen : List ℕ} {c : Progress}
    (so : Stands s (tables nm v m g t d) seen c st) (q : Guards n u x rd gs (read_whole (names_of s nm (min c.features 10)) x)) where
  pub move_refused : {T : Tables} {f : Refusal} {r : Result Progress Refusal} → rd ≡ Err f → r ≡ Err f → Says s T seen r (guarded_move n u st from action place to x)
  unfolding guarded_move
  move_refused a z = let y = guards_as a (guard_stands x so q) in refuses z (y _)

  module _ {p : Unit {0}} (a : rd ≡ Ok p) {y : Bool} {seen' : List ℕ}
      (has : (ms : List Move) → Rows (λ i k. MoveRow s (get_or m i []) k) (min c.moves (length m)) ms → Marked seen ms → Tells seen' from action to ms y) where
    after : Guard → Answer State
    after k =
        refuse_if (moved from action to st.sheet.moves) (refusal because.Repeat n (place_behind (move_word ∷ [])))
        (keep 3 st.valid_line (with_move st.sheet (record { line = n; from = from; action = action; place = place; to = to; guard = k })))

    repeats : Tells seen' from action to st.sheet.moves y
    repeats =
        let few = so.filled.moves.few in
        let e : min c.moves (length m) ≡ c.moves = omega arith in
        has st.sheet.moves (rw e so.filled.moves.rows) so.marked

    pub move_repeat : {T : Tables} {r : Result Progress Refusal} → y ≡ true → r ≡ Err (refusal because.Repeat n (place_behind (move_word ∷ []))) → Says s T seen' r (guarded_move n u st from action place to x)
    unfolding guarded_move after
    move_repeat e z =
        let w = guards_as a (guard_stands x so q) in
        refuses z (w.2 after ∙ rw (sym repeats.is ∙ e))

    pub move_kept : y ≡ false → c.moves < 256 → c.moves < length m → c.moves < length g → Lies s action place
        → Says s (tables nm v (set m c.moves (n ∷ from ∷ place ∷ (place + length action) ∷ to ∷ [])) (set g c.moves gs) t d) seen'
        (Ok (record { section = BehindStart; valid = c.valid; features = c.features; start = c.start; moves = c.moves + 1; stops = c.stops }))
        (guarded_move n u st from action place to x)
    unfolding guarded_move after
    move_kept e few mine yours lies =
        let w = guards_as a (guard_stands x so q) in
        keeps (w.2 after ∙ rw (sym repeats.is ∙ e))
        (record {
          section = refl;
          valid_line = so.valid_line;
          start = so.start;
          valid = so.valid;
          apart = so.apart;
          few = omega arith;
          stops_few = so.stops_few;
          filled = record {
            ten = so.filled.ten;
            names = so.filled.names;
            moves = table_put so.filled.moves mine (record { lies = lies; is = refl });
            move_guards = table_put so.filled.move_guards yours w.1;
            stops = so.filled.stops;
            stop_guards = so.filled.stop_guards;
          };
          marked = repeats.marked _ refl refl refl;
        })

-- ---- `move`: from, action and to

module _ (n u v : ℕ) (f a t : List ℕ) where
  pub triple_from : {o : Option ℕ} {r : Result Triple Refusal} → o ≡ None → o ≡ read_state f → r ≡ Err (refusal because.BadField n (place_behind (move_word ∷ []))) → Tripled n u v f a t r
  triple_from e g z = let y : read_state f ≡ None = sym g ∙ e in record { is = rw z (λ k. rw y) }

  module _ {o : Option ℕ} {from : ℕ} (e : o ≡ Some from) (g : o ≡ read_state f) where
    source : read_state f ≡ Some from
    source = sym g ∙ e

    pub triple_action : {b : Bool} {r : Result Triple Refusal} → b ≡ is_action a → b ≡ false → r ≡ Err (refusal because.BadField n u) → Tripled n u v f a t r
    triple_action {b} h i z = let y : is_action a ≡ false = sym h ∙ i in record { is = rw z (λ k. rw (source, y)) }

    module _ {b : Bool} (h : b ≡ is_action a) (i : b ≡ true) where
      good : is_action a ≡ true
      good = sym h ∙ i

      pub triple_to : {p : Option ℕ} {r : Result Triple Refusal} → p ≡ None → p ≡ read_state t → r ≡ Err (refusal because.BadField n v) → Tripled n u v f a t r
      triple_to j q z = let y : read_state t ≡ None = sym q ∙ j in record { is = rw z (λ k. rw (source, good, y)) }

      pub triple_good : {p : Option ℕ} {to : ℕ} → p ≡ Some to → p ≡ read_state t → Tripled n u v f a t (Ok (record { from = from; to = to }))
      triple_good {to = to} j q = let y : read_state t ≡ Some to = sym q ∙ j in record { is = λ k. rw (source, good, y) }

-- ---- `move`: the fields

pub ends_of : (l : List ℕ) {cut : Option Tabs} {b m d : ℕ} → cut ≡ Some (tabs b m d) → CutsFour l cut → CutsFour l (Some (tabs b m d))
ends_of l e h = subst (CutsFour l) e h

-- the action stands in the sheet behind the from field, and each field in its line behind those before it
module _ (l : List ℕ) {cut : Option Tabs} {b m d : ℕ} (e : cut ≡ Some (tabs b m d)) (h : CutsFour l cut) where
  action_place : place_behind (move_word ∷ part l 0 b ∷ []) ≡ 6 + b + 1
  action_place = let i = ends_of l e h in omega (arith, part_length l 0 b (omega arith))

  to_place : place_behind (move_word ∷ part l 0 b ∷ part l (b + 1) m ∷ []) ≡ 6 + m + 1
  to_place = let i = ends_of l e h in omega (arith, part_length l 0 b (omega arith), part_length l (b + 1) m (omega arith))

  guard_place : place_behind (move_word ∷ part l 0 b ∷ part l (b + 1) m ∷ part l (m + 1) d ∷ []) ≡ 6 + d + 1
  guard_place = let i = ends_of l e h in omega (arith, part_length l 0 b (omega arith), part_length l (b + 1) m (omega arith), part_length l (m + 1) d (omega arith))

  pub guard_fits : (at n : ℕ) → at + length l ≤ n → 6 + d + 1 + length (part l (d + 1) (length l)) ≤ n + 6
  guard_fits at n k = let i = ends_of l e h in omega (arith, part_length l (d + 1) (length l) (omega arith))

  pub action_fits : (at n : ℕ) → at + length l ≤ n → at + b + 1 + length (part l (b + 1) m) ≤ n
  action_fits at n k = let i = ends_of l e h in omega (arith, part_length l (b + 1) m (omega arith))

  pub action_lies : {s : List ℕ} {at : ℕ} → Lies s l at → Lies s (part l (b + 1) m) (at + b + 1)
  action_lies {s} {at} k =
      let i = ends_of l e h in
      let z : at + (b + 1) ≡ at + b + 1 = omega arith in
      subst (Lies s (part l (b + 1) m)) z (lies_part (b + 1) m k (omega arith) (omega arith))

module _ (l : List ℕ) (n at : ℕ) (st : State) {s : List ℕ} where
  pub move_wrong : {T : Tables} {seen : List ℕ} {cut : Option Tabs} {r : Result Progress Refusal} → cut ≡ None → CutsFour l cut → r ≡ Err (refusal because.BadLine n 0) → Says s T seen r (move_line n at st (as_four (fields l)))
  unfolding move_line
  move_wrong e h z = refuses z (ap (move_line n at st) (subst (CutsFour l) e h))

  module _ {T : Tables} {seen : List ℕ} {c : Progress} (so : Stands s T seen c st) {cut : Option Tabs} {b m d : ℕ} (e : cut ≡ Some (tabs b m d)) (h : CutsFour l cut) where
    cuts : as_four (fields l) ≡ four (part l 0 b) (part l (b + 1) m) (part l (m + 1) d) (part l (d + 1) (length l))
    cuts = (ends_of l e h).3

    counted : length st.sheet.moves ≡ c.moves
    counted = rows_length so.filled.moves.rows

    pub move_full : {r : Result Progress Refusal} → 256 ≤ c.moves → r ≡ Err (refusal because.TooManyLines n 0) → Says s T seen r (move_line n at st (as_four (fields l)))
    unfolding move_line
    move_full k z = let y = counted in refuses z (rw (cuts, le-leb 256 (length st.sheet.moves) (omega arith)))

    module _ (k : c.moves < 256) where
      few : leb 256 (length st.sheet.moves) ≡ false
      few = let y = counted in lt-leb 256 (length st.sheet.moves) (omega arith)

      module _ {o : Result Triple Refusal} (q : Tripled n (6 + b + 1) (6 + m + 1) (part l 0 b) (part l (b + 1) m) (part l (m + 1) d) o) where
        pub move_bad : {f : Refusal} {r : Result Progress Refusal} → o ≡ Err f → r ≡ Err f → Says s T seen r (move_line n at st (as_four (fields l)))
        unfolding move_line
        move_bad f z = let y = rw f at q.is in refuses z (rw (cuts, few, action_place l e h, to_place l e h) (y _))

        pub move_on : {z : Triple} {T' : Tables} {seen' : List ℕ} {r : Result Progress Refusal} → o ≡ Ok z
            → Says s T' seen' r (guarded_move n (6 + d + 1) st z.from (part l (b + 1) m) (at + b + 1) z.to (part l (d + 1) (length l)))
            → Says s T' seen' r (move_line n at st (as_four (fields l)))
        unfolding move_line
        move_on f w =
            let i = ends_of l e h in
            let y = rw f at q.is in
            let j : at + length (part l 0 b) + 1 ≡ at + b + 1 = omega (arith, part_length l 0 b (omega arith)) in
            rw (cuts, few, j, action_place l e h, to_place l e h, guard_place l e h, y (λ x y. guarded_move n (6 + d + 1) st x (part l (b + 1) m) (at + b + 1) y (part l (d + 1) (length l)))) w

-- ---- `stop`

pub parted_of : (l : List ℕ) {cut : Option ℕ} {b : ℕ} → cut ≡ Some b → CutsTwo l cut → CutsTwo l (Some b)
parted_of l e h = subst (CutsTwo l) e h

-- a place in the second field is a place in both
pub second_fits : (l : List ℕ) {cut : Option ℕ} {b p : ℕ} → cut ≡ Some b → CutsTwo l cut → p ≤ length (part l (b + 1) (length l)) → b + 1 + p ≤ length l
second_fits l {b = b} e h k = let i = parted_of l e h in omega (arith, part_length l (b + 1) (length l) (omega arith))

module _ (l : List ℕ) (n : ℕ) (st : State) where
  pub stop_wrong : {s : List ℕ} {T : Tables} {seen : List ℕ} {cut : Option ℕ} {r : Result Progress Refusal} → cut ≡ None → CutsTwo l cut → r ≡ Err (refusal because.BadLine n 0) → Says s T seen r (stop_line n st (as_two (fields l)))
  unfolding stop_line
  stop_wrong e h z = refuses z (ap (stop_line n st) (subst (CutsTwo l) e h))

  module _ {cut : Option ℕ} {b : ℕ} (e : cut ≡ Some b) (h : CutsTwo l cut) where
    halves : as_two (fields l) ≡ two (part l 0 b) (part l (b + 1) (length l))
    halves = (parted_of l e h).1

    pub stop_state : {s : List ℕ} {T : Tables} {seen : List ℕ} {q : Option ℕ} {r : Result Progress Refusal} → q ≡ None → q ≡ read_state (part l 0 b) → r ≡ Err (refusal because.BadField n (place_behind (stop_word ∷ []))) → Says s T seen r (stop_line n st (as_two (fields l)))
    unfolding stop_line
    stop_state f1 g1 z = let y : read_state (part l 0 b) ≡ None = sym g1 ∙ f1 in refuses z (rw (halves, y))

    module _ {q : Option ℕ} {w : ℕ} (f1 : q ≡ Some w) (g1 : q ≡ read_state (part l 0 b)) {rd : Result (Unit {0}) Refusal} {gs : List ℕ}
        {s : List ℕ} {nm : List (List ℕ)} {v : List ℕ} {m g t d : List (List ℕ)} {seen : List ℕ} {c : Progress} (so : Stands s (tables nm v m g t d) seen c st)
        (k : Guards n (6 + b + 1) (part l (b + 1) (length l)) rd gs (read_whole (names_of s nm (min c.features 10)) (part l (b + 1) (length l)))) where
      x : List ℕ
      x = part l (b + 1) (length l)

      stopping : read_state (part l 0 b) ≡ Some w
      stopping = sym g1 ∙ f1

      told : Guards n (6 + b + 1) x rd gs (read_whole (names st.sheet.features) x)
      unfolding x
      told = guard_stands (part l (b + 1) (length l)) so k

      then : Guard → Answer State
      then z = refuse_if (stopped w st.sheet.stops) (refusal because.Repeat n (place_behind (stop_word ∷ []))) (keep 4 st.valid_line (with_stop st.sheet (record { line = n; state = w; guard = z })))

      begins : stop_line n st (as_two (fields l)) ≡ guarded n (6 + b + 1) x (read_whole (names st.sheet.features) x) then
      unfolding stop_line x then
      begins =
          let i = parted_of l e h in
          let z : place_behind (stop_word ∷ part l 0 b ∷ []) ≡ 6 + b + 1 = omega (arith, part_length l 0 b (omega arith)) in
          rw (halves, stopping, z)

      pub stop_refused : {f : Refusal} {r : Result Progress Refusal} → rd ≡ Err f → r ≡ Err f → Says s (tables nm v m g t d) seen r (stop_line n st (as_two (fields l)))
      stop_refused a z = let y = guards_as a told in refuses z (begins ∙ y then)

      module _ {p : Unit {0}} (a : rd ≡ Ok p) {y : Bool}
          (has : (ds : List Stop) → Rows (λ i z. StopRow (get_or t i []) z) (min c.stops (length t)) ds → y ≡ stopped w ds) where
        comes : y ≡ stopped w st.sheet.stops
        comes =
            let few = so.filled.stops.few in
            let z : min c.stops (length t) ≡ c.stops = omega arith in
            has st.sheet.stops (rw z so.filled.stops.rows)

        pub stop_repeat : {r : Result Progress Refusal} → y ≡ true → r ≡ Err (refusal because.Repeat n (place_behind (stop_word ∷ []))) → Says s (tables nm v m g t d) seen r (stop_line n st (as_two (fields l)))
        unfolding then
        stop_repeat i z =
            let u = guards_as a told in
            refuses z (begins ∙ u.2 then ∙ rw (sym comes ∙ i))

        -- a state that has not come leaves a row free
        fits : y ≡ false → c.stops < 64
        fits i =
            let small = state_small (part l 0 b) stopping in
            let z = stops_fit st.sheet.stops so.apart (omega arith) (sym comes ∙ i) in
            let j = rows_length so.filled.stops.rows in
            omega arith

        pub stop_never : {r : Result Progress Refusal} → y ≡ false → 64 ≤ c.stops → Says s (tables nm v m g t d) seen r (stop_line n st (as_two (fields l)))
        stop_never i z = let j = fits i in absurd (omega arith)

        pub stop_kept : y ≡ false → c.stops < length t → c.stops < length d
            → Says s (tables nm v m g (set t c.stops (n ∷ w ∷ [])) (set d c.stops gs)) seen
            (Ok (record { section = BehindStop; valid = c.valid; features = c.features; start = c.start; moves = c.moves; stops = c.stops + 1 })) (stop_line n st (as_two (fields l)))
        unfolding then
        stop_kept i mine yours =
            let z = guards_as a told in
            let small = state_small (part l 0 b) stopping in
            keeps (begins ∙ z.2 then ∙ rw (sym comes ∙ i))
            (record {
              section = refl;
              valid_line = so.valid_line;
              start = so.start;
              valid = so.valid;
              apart = (omega arith, sym comes ∙ i, so.apart);
              few = so.few;
              stops_few = let j = fits i in omega arith;
              filled = record {
                ten = so.filled.ten;
                names = so.filled.names;
                moves = so.filled.moves;
                move_guards = so.filled.move_guards;
                stops = table_put so.filled.stops mine refl;
                stop_guards = table_put so.filled.stop_guards yours z.1;
              };
              marked = so.marked;
            })
