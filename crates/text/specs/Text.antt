-- Texts laid into a lent room. A text is a list of bytes; what does not fit into the room is not written, and the place goes on all the
-- same, so that an empty room tells a text's length. Assumes nothing: these are definitions.
use Rattle.std.specs.Prelude.{◌≡◌, cond, List, [], ◌∷◌, ◌++◌, ℕ, zero, suc, ◌+◌, ◌/◌, ◌%◌, ◌≤◌, min, max, ltb, length}
use Rattle.std.proofs.lemmas.List.Edits.{sets}

-- no room is so long; a place stays here
abbrev pub limit : ℕ
limit = 0x8000_0000_0000_0000

-- the place behind n bytes from `at` on
abbrev pub behind : ℕ → ℕ → ℕ
behind at n = max at (min (at + n) limit)

-- the room was l, the text vs was laid from `at` on as far as the room goes, and nothing else was written: the room is l' now, and the next place is at'
pub record Wrote (l : List ℕ) (at : ℕ) (vs l' : List ℕ) (at' : ℕ) : Type 0 where
  pub short : length l ≤ limit
  pub moved : at' ≡ behind at (length vs)
  pub became : l' ≡ sets l at vs

-- "numbers decimal without leading zeros"; the first number bounds the digits
unfoldable pub digits : ℕ → ℕ → List ℕ
digits zero n = (n % 10 + 48) ∷ []
digits (suc k) n = cond (ltb n 10) ((n % 10 + 48) ∷ []) (digits k (n / 10) ++ ((n % 10 + 48) ∷ []))

unfoldable pub decimal : ℕ → List ℕ
decimal n = digits n n

-- the first n of the texts f, one after another
unfoldable pub texts : (ℕ → List ℕ) → ℕ → List ℕ
texts f zero = []
texts f (suc n) = texts f n ++ f n
