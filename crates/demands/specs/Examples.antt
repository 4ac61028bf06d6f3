-- The sheets of document 01's table of worked examples: each as its text, and as what it says. Lists of features, moves and stops have the last line
-- first. Assumes nothing: these are definitions.
use Rattle.std.specs.Prelude.{List, [], ◌∷◌, ℕ}
use Rattle.guards.specs.Guard.{Guard, conj, disj, always, feature, neg, chain, one}
use Rattle.sheet.specs.Sheet.{Move, Sheet}
use Rattle.demands.specs.Printed.{bytes, printed}

-- ---- "One sheet in full"

-- fts→1
-- feature→gauge
-- feature→boat
-- valid→(gauge|boat)
-- start→0
-- move→0→raise→1→(gauge|boat)
-- move→1→stow→2→1
-- move→2→calm→1→gauge
-- move→1→level→3→(boat&!boat)
-- move→3→done→1→1
unfoldable pub dish_text : List ℕ
dish_text =
    printed
    ("fts\t1"
    ∷ "feature\tgauge"
    ∷ "feature\tboat"
    ∷ "valid\t(gauge|boat)"
    ∷ "start\t0"
    ∷ "move\t0\traise\t1\t(gauge|boat)"
    ∷ "move\t1\tstow\t2\t1"
    ∷ "move\t2\tcalm\t1\tgauge"
    ∷ "move\t1\tlevel\t3\t(boat&!boat)"
    ∷ "move\t3\tdone\t1\t1"
    ∷ [])

-- gauge is feature 0, boat is feature 1
abbrev pub gauge_or_boat : Guard
gauge_or_boat = chain disj (one (feature 0)) (feature 1)

abbrev pub boat_and_not : Guard
boat_and_not = chain conj (one (feature 1)) (neg (feature 1))

abbrev pub raise : Move
raise = record { line = 6; from = 0; action = bytes "raise"; place = 67; to = 1; guard = gauge_or_boat }

abbrev pub stow : Move
stow = record { line = 7; from = 1; action = bytes "stow"; place = 95; to = 2; guard = always }

abbrev pub calm : Move
calm = record { line = 8; from = 2; action = bytes "calm"; place = 111; to = 1; guard = feature 0 }

abbrev pub level : Move
level = record { line = 9; from = 1; action = bytes "level"; place = 131; to = 3; guard = boat_and_not }

abbrev pub done : Move
done = record { line = 10; from = 3; action = bytes "done"; place = 159; to = 1; guard = always }

abbrev pub dish : Sheet
dish = record {
  features = record { name = bytes "boat"; place = 28 } ∷ record { name = bytes "gauge"; place = 14 } ∷ [];
  valid = gauge_or_boat;
  start = 0;
  moves = done ∷ level ∷ calm ∷ stow ∷ raise ∷ [];
  stops = [];
}

-- ---- "A way pieced together from several products. With feature a, all valid, 0 to 1 under `a` and 1 to 2 under `!a`"

-- fts→1
-- feature→a
-- valid→1
-- start→0
-- move→0→first→1→a
-- move→1→second→2→!a
unfoldable pub pieced_text : List ℕ
pieced_text =
    printed
    ("fts\t1"
    ∷ "feature\ta"
    ∷ "valid\t1"
    ∷ "start\t0"
    ∷ "move\t0\tfirst\t1\ta"
    ∷ "move\t1\tsecond\t2\t!a"
    ∷ [])

abbrev pub first : Move
first = record { line = 5; from = 0; action = bytes "first"; place = 39; to = 1; guard = feature 0 }

abbrev pub second : Move
second = record { line = 6; from = 1; action = bytes "second"; place = 56; to = 2; guard = neg (feature 0) }

abbrev pub pieced : Sheet
pieced = record { features = record { name = bytes "a"; place = 14 } ∷ []; valid = always; start = 0; moves = second ∷ first ∷ []; stops = [] }

-- ---- "the sheet `fts 1`, `valid 1`, `start 0`"

-- fts→1
-- valid→1
-- start→0
unfoldable pub three_text : List ℕ
three_text =
    printed
    ("fts\t1"
    ∷ "valid\t1"
    ∷ "start\t0"
    ∷ [])

abbrev pub three : Sheet
three = record { features = []; valid = always; start = 0; moves = []; stops = [] }
