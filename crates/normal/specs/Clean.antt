-- The clean sheet, in the words of the document: a relation between a sheet and its clean form, and the clean form's text. Assumes nothing: these
-- are definitions.
use Rattle.std.specs.Prelude.{true, ◌⊎◌, ◌≡◌, ℕ, ◌<◌, length}
use mathlib.Core.List.{List, [], ◌∷◌, Memᴰ}
use Rattle.guards.specs.Guard.{Guard, always}
use Rattle.sheet.specs.Sheet.{Move, Stop, Sheet, names}
use Rattle.sheet.specs.Spelling.{text_of}
use Rattle.family.specs.Ways.{Valid, Reached}
use Rattle.splitting.specs.Splitting.{Writes}
use Rattle.ordering.specs.Ordering.{less_bytes}
use Rattle.normal.specs.Behaviour.{Goes}

abbrev pub count : Sheet → ℕ
count r = length r.features

-- p is a valid product "in which it is made"
pub record GoesIn (r : Sheet) (f : ℕ) (a : List ℕ) (t p : ℕ) : Type 0 where
  pub valid : Valid r p
  pub goes : Goes r p f a t

-- "every move that is not dead"
pub record Kept (r : Sheet) (f : ℕ) (a : List ℕ) (t : ℕ) : Type 0 where
  pub product : ℕ
  pub made : GoesIn r f a t product

-- "A move made in every valid product that reaches its source has guard `1`"
pub record MadeByAll (r : Sheet) (f : ℕ) (a : List ℕ) (t : ℕ) (g : Guard) : Type 0 where
  pub every : (p : ℕ) → Valid r p → Reached r p f → Goes r p f a t
  pub guard : g ≡ always

-- "otherwise its guard is the set of valid products in which it is made"
pub record MadeBySome (r : Sheet) (f : ℕ) (a : List ℕ) (t : ℕ) (g : Guard) : Type 0 where
  pub product : ℕ
  pub valid : Valid r product
  pub reached : Reached r product f
  pub unmade : Goes r product f a t → ⊥
  pub guard : Writes (count r) (GoesIn r f a t) g

abbrev pub GuardFor : Sheet → ℕ → List ℕ → ℕ → Guard → Type 0
GuardFor r f a t g = MadeByAll r f a t g ⊎ MadeBySome r f a t g

-- "some valid product reaches it and makes none"
pub record Stays (r : Sheet) (q p : ℕ) : Type 0 where
  pub valid : Valid r p
  pub reached : Reached r p q
  pub none : (a : List ℕ) (t : ℕ) → Goes r p q a t → ⊥

-- "at least one move out of it is kept"
pub record Leaves (r : Sheet) (q : ℕ) : Type 0 where
  pub action : List ℕ
  pub to : ℕ
  pub kept : Kept r q action to

-- each stands behind all before it; the list has the last line first
abbrev pub Rising : {A : Type 0} → (A → A → Type 0) → List A → Type 0
Rising R [] = Unit {0}
Rising {A} R (x ∷ xs) = ((y : A) → Memᴰ y xs → R y x) × Rising R xs

-- "moves in order of from, then to, then action by bytes (a shorter action before its extensions)"
abbrev pub key_of : Move → List ℕ
key_of m = m.from ∷ m.to ∷ m.action

pub record MoveBefore (m k : Move) : Type 0 where
  pub is : less_bytes (key_of m) (key_of k) ≡ true

-- "then stop lines by state"
abbrev pub StopBefore : Stop → Stop → Type 0
StopBefore d e = d.state < e.state

-- c is a clean form of the sheet r
pub record Clean (r c : Sheet) : Type 0 where
  -- "The `fts` and feature lines as they are; `valid`; `start`"; "`valid` is the valid set"
  pub features : names c.features ≡ names r.features
  pub valid : Writes (count r) (Valid r) c.valid
  pub start : c.start ≡ r.start
  -- "every move that is not dead"
  pub moves_rise : Rising MoveBefore c.moves
  pub moves_only : (m : Move) → Memᴰ m c.moves → Kept r m.from m.action m.to × GuardFor r m.from m.action m.to m.guard
  pub moves_every : (f : ℕ) (a : List ℕ) (t : ℕ) → Kept r f a t → (m : Move) × Memᴰ m c.moves × (m.from ≡ f) × (m.action ≡ a) × (m.to ≡ t)
  -- "A state gets a stop line exactly if at least one move out of it is kept and some valid product reaches it and makes none; the guard is the set
  -- of such products."
  pub stops_rise : Rising StopBefore c.stops
  pub stops_only : (d : Stop) → Memᴰ d c.stops → Leaves r d.state × ((p : ℕ) × Stays r d.state p) × Writes (count r) (Stays r d.state) d.guard
  pub stops_every : (q : ℕ) → Leaves r q → (p : ℕ) → Stays r q p → (d : Stop) × Memᴰ d c.stops × (d.state ≡ q)

-- the clean sheet of r, as a text
pub record IsClean (r : Sheet) (text : List ℕ) : Type 0 where
  pub form : Sheet
  pub clean : Clean r form
  pub is : text ≡ text_of form
