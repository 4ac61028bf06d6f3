-- What document 01 prints, as the bytes that a program reads or writes: a line is written here as a text, with `\t` for a tab. Assumes nothing: these
-- are definitions.
use Rattle.std.specs.Prelude.{List, [], ◌∷◌, ℕ}
use Prim.Native.Char.{code}
use Prim.Native.String.{String, [] as empty, ◌∷◌ as ◌before◌}

-- the bytes of a text in ASCII: the number of each of its characters, before what follows
unfoldable pub onto : String → List ℕ → List ℕ
onto empty rest = rest
onto (c before s) rest = code c ∷ onto s rest

-- the bytes of a text, which is part of a line
unfoldable pub bytes : String → List ℕ
bytes s = onto s []

-- the bytes of lines, each ended by byte 10
unfoldable pub printed : List String → List ℕ
printed [] = []
printed (l ∷ ls) = onto l (10 ∷ printed ls)
