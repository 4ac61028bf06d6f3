-- Where a field that is no guard is refused: what "the leftmost faulty byte" means, told by which texts are accepted and which are refused, and not by
-- the reader's steps. Assumes nothing: these are definitions.
use Rattle.std.specs.Prelude.{List, [], ◌∷◌, ◌++◌, ◌≡◌, ℕ}
use Rattle.refusals.specs.declared.Reason.{Reason}
use Rattle.refusals.specs.declared.Reason.TheVariants as because
use Rattle.fields.specs.Bytes.{run, Stops}
use Rattle.guards.specs.Guard.{Guard}
use Rattle.guards.specs.Reading.{took, faulty, read_whole, GoodNames}

-- "In a guard the leftmost faulty byte decides; a name is judged at its first byte, and a guard that ends too soon is 5." Of a field x, refused by e,
-- `from` are the bytes from the faulty one on, none where it ends too soon; n are the declared names.
pub record Leftmost (n : List (List ℕ)) (x : List ℕ) (e : Reason) (from : List ℕ) : Type 0 where
  pub refused : read_whole n x ≡ faulty e from
  -- the bytes before the place
  pub before : List ℕ
  pub parted : x ≡ before ++ from
  -- can be completed: some continuation makes an accepted guard over the declared names;
  pub completed : (rest : List ℕ) × (g : Guard) × (read_whole n (before ++ rest) ≡ took g [])
  -- by 5 and 7, every text with the same bytes up to and including the place is refused there;
  pub stays : (b : ℕ) (bs : List ℕ) → from ≡ b ∷ bs → (e ≡ because.UndeclaredName → ⊥) → (cs : List ℕ) → read_whole n (before ++ (b ∷ cs)) ≡ faulty e (b ∷ cs)
  -- by 6, every text with the same bytes up to the end of the run of name bytes that begins at the place, if it goes on with no name byte;
  pub named : e ≡ because.UndeclaredName → (cs : List ℕ) → Stops cs → read_whole n (before ++ (run from ++ cs)) ≡ faulty because.UndeclaredName (run from ++ cs)
  -- and where the field ends too soon, that is 5
  pub ended : from ≡ [] → e ≡ because.BadGuard

-- leftmost_faulty: the place is the leftmost faulty byte.
abbrev pub LeftmostFaulty : Type 0
LeftmostFaulty = (n : List (List ℕ)) → GoodNames n → (x : List ℕ) (e : Reason) (from : List ℕ) → read_whole n x ≡ faulty e from → Leftmost n x e from
