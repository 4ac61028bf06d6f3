-- What reading an input leaves in the buffer. Which bytes the system hands over, and how many, nobody can promise; that the number told fits the
-- buffer, and that nothing behind it is written, can be. Assumes nothing: these are definitions.
use Rattle.std.specs.Prelude.{◌≡◌, List, [], ◌∷◌, ◌++◌, ℕ, zero, suc, ◌≤◌, min, ◌⊎◌, Option, Some, None, Result, Ok, Err, length, drop}
use Rattle.std.specs.Io.KnownBytes.{Consumes, IsAtEnd}
use Rattle.text.specs.Text.{Wrote}
use Rattle.console.specs.declared.Broken.{Broken}

-- the buffer was `before` and is `after`: it is as long as it was, and the number told of a whole input is no more than that; from there on everything
-- is as it was. That so many bytes came is not said here.
abbrev pub Held : List ℕ → List ℕ → Result ℕ Broken → Type 0
Held before after (Ok n) = (n ≤ length after) × (length after ≡ length before) × (drop n after ≡ drop n before)
Held before after (Err e) = length after ≡ length before

-- an input of these bytes, read whole: they were laid from the buffer's begin on as far as it goes, and n is how many of them fit
abbrev pub Told : List ℕ → List ℕ → List ℕ → Result ℕ Broken → Type 0
Told bytes before after (Ok n) = (at : ℕ) × Wrote before 0 bytes after at × (n ≡ min at (length after))
Told bytes before after (Err e) = Unit {0}

-- one read: some bytes were laid from `at` on, or nothing was
abbrev pub Laid : List ℕ → ℕ → List ℕ → Result (Option ℕ) Broken → Type 0
Laid before at after (Ok (Some next)) = (bytes : List ℕ) × Wrote before at bytes after next
Laid before at after (Ok None) = after ≡ before
Laid before at after (Err e) = after ≡ before

-- the same, where the reader has the bytes `left` before the read and `left'` behind it, if they are known: what it gave is what was laid, and
-- at the end of the input it has none
abbrev pub Came : Option (List ℕ) → Option (List ℕ) → List ℕ → ℕ → List ℕ → Result (Option ℕ) Broken → Type 0
Came left left' before at after (Ok (Some next)) = (bytes : List ℕ) × Wrote before at bytes after next × Consumes left left' bytes
Came left left' before at after (Ok None) = (after ≡ before) × IsAtEnd left
Came left left' before at after (Err e) = after ≡ before

-- the one error
abbrev pub broken : Broken
broken = record {}

-- what is answered for a read into `most` bytes: how many came, 0 at the end of the input, or an error. An error is never taken for the end.
unfoldable pub piece_of : {E : Type 0} → Result ℕ E → ℕ → Result (Option ℕ) Broken
piece_of (Err e) most = Err broken
piece_of (Ok zero) most = Ok None
piece_of (Ok (suc k)) most = Ok (Some (min (suc k) most))

-- ---- one line of an input

-- no byte of it ends a line
abbrev pub Unended : List ℕ → Type 0
Unended [] = Unit {0}
Unended (b ∷ bs) = (b ≡ 10 → ⊥) × Unended bs

-- some bytes of which none ends a line were laid from the buffer's start on, and n is how many; at the end of the input nothing was
abbrev pub Lined : List ℕ → List ℕ → Result (Option ℕ) Broken → Type 0
Lined before after (Ok (Some n)) = (bytes : List ℕ) × Unended bytes × Wrote before 0 bytes after n
Lined before after (Ok None) = after ≡ before
Lined before after (Err e) = length after ≡ length before

-- one byte, where the reader's bytes are known: it was the reader's next, and at the end of the input there was none
abbrev pub CameNext : Option (List ℕ) → Option (List ℕ) → Result (Option ℕ) Broken → Type 0
CameNext left left' (Ok (Some b)) = Consumes left left' (b ∷ [])
CameNext left left' (Ok None) = IsAtEnd left
CameNext left left' (Err e) = Unit {0}

-- a line of an input of these bytes, of which the reader has `left` behind it: the bytes before the first 10 are laid, and this is taken too; or all
-- bytes are, if none is 10. No line is told only where there is no byte
abbrev pub ToldLine : List ℕ → Option (List ℕ) → List ℕ → List ℕ → Result (Option ℕ) Broken → Type 0
ToldLine bytes left before after (Ok (Some n)) = (text : List ℕ) × Unended text × Wrote before 0 text after n × (Consumes (Some bytes) left (text ++ 10 ∷ []) ⊎ bytes ≡ text)
ToldLine bytes left before after (Ok None) = bytes ≡ []
ToldLine bytes left before after (Err e) = Unit {0}
