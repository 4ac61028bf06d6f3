-- Names, actions and states, as lists of bytes. What a place in a sheet means is not said here. Assumes nothing: these are definitions.
use Rattle.std.specs.Prelude.{◌≡◌, ℕ, suc, ◌+◌, ◌-◌, ◌*◌, ◌<◌, ◌≤◌, Bool, true, false, cond, ◌&&◌, ◌||◌, List, [], ◌∷◌, length, drop, ◌==◌, ◌≢◌, nat_le, slice_index, slice_range, Option, Some, None}

-- the bytes of s from place a up to place e
unfoldable pub part : List ℕ → ℕ → ℕ → List ℕ
part s a e = slice_range s a e

-- the same, and nothing where a and e are no places of s in this order
unfoldable pub piece_of : List ℕ → ℕ → ℕ → List ℕ
piece_of s a e = cond (nat_le a e && nat_le e (length s)) (part s a e) []

-- whether two runs of bytes are the same
unfoldable pub same_bytes : List ℕ → List ℕ → Bool
same_bytes [] [] = true
same_bytes [] (y ∷ ys) = false
same_bytes (x ∷ xs) [] = false
same_bytes (x ∷ xs) (y ∷ ys) = x == y && same_bytes xs ys

-- how many of the first bytes two runs share
unfoldable pub shared_bytes : List ℕ → List ℕ → ℕ
shared_bytes [] ys = 0
shared_bytes (x ∷ xs) [] = 0
shared_bytes (x ∷ xs) (y ∷ ys) = cond (x == y) (suc (shared_bytes xs ys)) 0

abbrev pub is_digit : ℕ → Bool
is_digit b = nat_le 48 b && nat_le b 57

abbrev pub is_letter : ℕ → Bool
is_letter b = (nat_le 65 b && nat_le b 90) || (nat_le 97 b && nat_le b 122)

-- "Letter, digit (both ASCII, case counts) and underscore are the name bytes."
abbrev pub is_name_byte : ℕ → Bool
is_name_byte b = is_letter b || (is_digit b || b == 95)

unfoldable pub all_name_bytes : List ℕ → Bool
all_name_bytes [] = true
all_name_bytes (b ∷ bs) = is_name_byte b && all_name_bytes bs

-- "A feature name has 1 to 12 of them, the first a letter."
unfoldable pub is_name : List ℕ → Bool
is_name [] = false
is_name (b ∷ bs) = is_letter b && (nat_le (length (b ∷ bs)) 12 && all_name_bytes (b ∷ bs))

-- "An action has 1 to 24."
unfoldable pub is_action : List ℕ → Bool
is_action l = nat_le 1 (length l) && (nat_le (length l) 24 && all_name_bytes l)

abbrev pub up_to63 : ℕ → Option ℕ
up_to63 v = cond (nat_le v 63) (Some v) None

-- "A state is a decimal number 0 to 63 without leading zeros (`0` itself is good)."
unfoldable pub read_state : List ℕ → Option ℕ
read_state [] = None
read_state (a ∷ []) = cond (is_digit a) (Some (a - 48)) None
read_state (a ∷ b ∷ []) = cond (nat_le 49 a && nat_le a 57 && is_digit b) (up_to63 ((a - 48) * 10 + (b - 48))) None
read_state (a ∷ b ∷ c ∷ ds) = None

-- "the longest run of name bytes", and what follows it
unfoldable pub run : List ℕ → List ℕ
run [] = []
run (b ∷ bs) = cond (is_name_byte b) (b ∷ run bs) []

unfoldable pub after_run : List ℕ → List ℕ
after_run [] = []
after_run (b ∷ bs) = cond (is_name_byte b) (after_run bs) (b ∷ bs)

-- a run of name bytes would stop here
abbrev pub Stops : List ℕ → Type 0
Stops [] = Unit {0}
Stops (b ∷ bs) = is_name_byte b ≡ false

-- r is the first place from `from` on at which s has the byte m, or the end of s
pub record FirstAt (s : List ℕ) (m from r : ℕ) : Type 0 where
  pub high : r ≤ length s
  pub clear : (k : ℕ) → k < r → from ≤ k → slice_index s k ≢ m
  pub here : r < length s → (from ≤ r) × (slice_index s r ≡ m)

-- r is where the run of name bytes that begins at `at` ends
pub record RunEnd (s : List ℕ) (at r : ℕ) : Type 0 where
  pub low : at ≤ length s → at ≤ r
  pub high : r ≤ length s
  pub inside : part s at r ≡ run (drop at s)
  pub after : drop r s ≡ after_run (drop at s)
