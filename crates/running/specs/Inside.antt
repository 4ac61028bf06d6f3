-- What the functions inside the box promise each other. Nobody has to believe this page: what the calls promise does not speak of it. Assumes
-- nothing: these are definitions.
use Rattle.refusals.specs.declared.Refusal.{Refusal}
use Rattle.std.specs.Prelude.{List, [], ◌⊎◌, ◌≡◌, ℕ, ◌<◌, get_or, Result, Ok, Err}
use Rattle.products.specs.Sets.{bit, In}
use Rattle.fields.specs.Bytes.{piece_of}
use Rattle.sheet.specs.Tables.{tables, ReadsSheet}
use Rattle.sheet.specs.declared.Counts.{Counts}
use Rattle.running.specs.declared.RunningBox.{RunningBox}
use Rattle.running.specs.Promise.{nowhere, SetsUp, Acts}

-- the box that a set-up gives, and the one that an action gives; where it is refused, what the call leaves
abbrev pub Starts : List ℕ → ℕ → Result RunningBox Refusal → Type 0
Starts s p (Ok b) = SetsUp s p (Ok tt) b
Starts s p (Err q) = SetsUp s p (Err q) nowhere

abbrev pub Steps : List ℕ → RunningBox → List ℕ → Result RunningBox Refusal → Type 0
Steps s b name (Ok after) = Acts s b name (Ok tt) after
Steps s b name (Err q) = Acts s b name (Err q) b

-- what the reader promises, of the tables that a box needs and of some others
abbrev pub Looks : List ℕ → List ℕ → List (List ℕ) → List (List ℕ) → Result Counts Refusal → Type 0
Looks s valid moves guards r =
    (names : List (List ℕ)) × (stops : List (List ℕ)) × (stop_guards : List (List ℕ)) × ReadsSheet 256 256 64 64 s (tables names valid moves guards stops stop_guards) r

-- a move's row, with its guard's set, leads the box to q by the name
pub record RowLeads (s row guard : List ℕ) (b : RunningBox) (name : List ℕ) (q : ℕ) : Type 0 where
  pub from : bit b.place (get_or row 1 0) ≡ 1
  pub makes : In guard b.product
  pub named : piece_of s (get_or row 2 0) (get_or row 3 0) ≡ name
  pub to : get_or row 4 0 ≡ q

-- the set r has the states of the set w, and those that have the property P
pub record Added (w : ℕ) (P : ℕ → Type 0) (r : ℕ) : Type 0 where
  pub only : (q : ℕ) → q < 64 → bit r q ≡ 1 → (bit w q ≡ 1) ⊎ P q
  pub kept : (q : ℕ) → q < 64 → bit w q ≡ 1 → bit r q ≡ 1
  pub every : (q : ℕ) → q < 64 → P q → bit r q ≡ 1

-- the set w has the states to which one of the first i rows leads
pub record Gathered (P : ℕ → ℕ → Type 0) (i w : ℕ) : Type 0 where
  pub only : (q : ℕ) → q < 64 → bit w q ≡ 1 → (j : ℕ) × (j < i) × P j q
  pub every : (j q : ℕ) → j < i → q < 64 → P j q → bit w q ≡ 1

abbrev pub leads_at : List ℕ → List (List ℕ) → List (List ℕ) → RunningBox → List ℕ → ℕ → ℕ → Type 0
leads_at s moves guards b name j q = RowLeads s (get_or moves j []) (get_or guards j []) b name q
