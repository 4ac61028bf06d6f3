-- What a fault is, by what stands before it: in what is open there a guard may begin at it, or has just ended. From this come the bytes before it and its
-- number. Assumes nothing.
use Rattle.refusals.specs.declared.Reason.{Reason}
use Rattle.refusals.specs.declared.Reason.TheVariants as because
use Rattle.std.proofs.Common.{None, ◌≡◌, refl, ap, ◌∙◌, true, List, [], ◌∷◌, ◌++◌, ◌⊎◌, inl, inr, ℕ, suc, ◌≤◌, ◌<◌, arith, length}
use Rattle.refusals.specs.Refusal.{number_of}
use Rattle.fields.specs.Bytes.{is_letter, run, Stops}
use Rattle.guards.specs.Guard.{Operator, Guard, Parts, byte_of, print, print_parts, nesting, nesting_of, Declared, DeclaredAll}
use Rattle.guards.specs.Reading.{faulty, number, read_guard}
use Rattle.guards.proofs.RoundTrip.{EndsNamed, print_append, parts_append, no_shorter, undeclared_name}

-- ---- what is open where a guard may begin

-- in brackets: nothing yet, `c?`, `c?g:`, or the parts of a chain and its operator
pub data Bracket : Type 0 where
  opening : Bracket
  asking : Guard → Bracket
  choosing : Guard → Guard → Bracket
  joining : Operator → Parts → Bracket

-- its text, before what follows it
abbrev pub leading : Bracket → List (List ℕ) → List ℕ → List ℕ
leading opening n bs = 40 ∷ bs
leading (asking c) n bs = 40 ∷ print c n (63 ∷ bs)
leading (choosing c g) n bs = 40 ∷ print c n (63 ∷ print g n (58 ∷ bs))
leading (joining o ps) n bs = 40 ∷ print_parts ps o n (byte_of o ∷ bs)

-- its names are declared, and no more is nested than `left`
abbrev pub Fits : Bracket → List (List ℕ) → ℕ → Type 0
Fits opening n left = Unit {0}
Fits (asking c) n left = Declared c (length n) × (nesting c ≤ left)
Fits (choosing c g) n left = Declared c (length n) × (nesting c ≤ left) × Declared g (length n) × (nesting g ≤ left)
Fits (joining o ps) n left = DeclaredAll ps (length n) × (nesting_of ps ≤ left)

-- what may not follow a guard there
abbrev pub Bars : Bracket → List ℕ → Type 0
Bars f [] = Unit {0}
Bars opening (b ∷ bs) = (b ≡ 63 → ⊥) × (b ≡ 38 → ⊥) × (b ≡ 124 → ⊥)
Bars (asking c) (b ∷ bs) = b ≡ 58 → ⊥
Bars (choosing c g) (b ∷ bs) = b ≡ 41 → ⊥
Bars (joining o ps) (b ∷ bs) = (b ≡ 41 → ⊥) × (b ≡ byte_of o → ⊥)

-- whether a byte bars does not hang on what follows it
pub bars_same : (f : Bracket) (b : ℕ) (bs cs : List ℕ) → Bars f (b ∷ bs) → Bars f (b ∷ cs)
bars_same opening b bs cs h = h
bars_same (asking c) b bs cs h = h
bars_same (choosing c g) b bs cs h = h
bars_same (joining o ps) b bs cs h = h

pub leading_append : (n : List (List ℕ)) (f : Bracket) (x y : List ℕ) → leading f n (x ++ y) ≡ leading f n x ++ y
leading_append n opening x y = refl
leading_append n (asking c) x y = rw (print_append n c (63 ∷ x) y)
leading_append n (choosing c g) x y = rw (print_append n g (58 ∷ x) y, print_append n c (63 ∷ print g n (58 ∷ x)) y)
leading_append n (joining o ps) x y = rw (parts_append n ps o (byte_of o ∷ x) y)

-- ---- a guard that was read, and a fault

-- bs are the text of g, before `rest`
pub record Printed (n : List (List ℕ)) (left : ℕ) (bs : List ℕ) (g : Guard) (rest : List ℕ) : Type 0 where
  pub text : bs ≡ print g n rest
  pub declared : Declared g (length n)
  pub nested : nesting g ≤ left
  pub apart : EndsNamed g → Stops rest

-- y begins as `from` does, as far as e looks: with the same byte, or for 6 with the same run of name bytes, and then none
abbrev pub Alike : Reason → List ℕ → List ℕ → Type 0
Alike e [] y = ⊥
Alike e (b ∷ bs) y = ((e ≡ because.UndeclaredName → ⊥) × (cs : List ℕ) × (y ≡ b ∷ cs)) ⊎ ((e ≡ because.UndeclaredName) × (cs : List ℕ) × Stops cs × (y ≡ run (b ∷ bs) ++ cs))

-- the numbers of faults; where the bytes end too soon it is 5
pub record Numbered (e : Reason) (from : List ℕ) : Type 0 where
  pub low : 5 ≤ number_of e
  pub high : number_of e ≤ 7
  pub ended : from ≡ [] → e ≡ because.BadGuard

-- of bs, where `left` more may be nested, `from` are the bytes from a fault e on: a guard may begin there, and whatever begins alike is refused; or it lies
-- behind `!`, or in brackets; or a guard in brackets has ended there, and may not be followed so
pub data Fault (n : List (List ℕ)) : ℕ → List ℕ → Reason → List ℕ → Type 0 where
  here : {left : ℕ} {e : Reason} {bs : List ℕ} → Numbered e bs → ((y : List ℕ) → Alike e bs y → read_guard n left y ≡ faulty e y) → Fault n left bs e bs
  denying : {left : ℕ} {e : Reason} {bs from : List ℕ} → Fault n left bs e from → Fault n (suc left) (33 ∷ bs) e from
  within : {left : ℕ} {e : Reason} {bs from : List ℕ} (f : Bracket) → Fits f n left → Fault n left bs e from → Fault n (suc left) (leading f n bs) e from
  behind : {left : ℕ} {bs rest : List ℕ} {g : Guard} (f : Bracket) → Fits f n left → Printed n left bs g rest → Bars f rest → Fault n (suc left) (leading f n bs) because.BadGuard rest

-- ---- the number

pub numbered_five : {from : List ℕ} → Numbered because.BadGuard from
numbered_five = record { low = omega arith; high = omega arith; ended = λ q. refl }

pub numbered_byte : {e : Reason} {b : ℕ} {bs : List ℕ} → 5 ≤ number_of e → number_of e ≤ 7 → Numbered e (b ∷ bs)
numbered_byte {b = b} {bs = bs} l h = record { low = l; high = h; ended = λ (q : b ∷ bs ≡ []). cc }

pub numbered : {n : List (List ℕ)} {left : ℕ} {e : Reason} {bs from : List ℕ} → Fault n left bs e from → Numbered e from
numbered (here m h) = m
numbered (denying h) = numbered h
numbered (within f w h) = numbered h
numbered (behind f w p q) = numbered_five

-- ---- the bytes before

module _ {n : List (List ℕ)} where
  unfoldable pub before : {left : ℕ} {e : Reason} {bs from : List ℕ} → Fault n left bs e from → List ℕ
  before (here m h) = []
  before (denying h) = 33 ∷ before h
  before (within f w h) = leading f n (before h)
  before (behind {g = g} f w p q) = leading f n (print g n [])

  pub printed_parted : {left : ℕ} {bs rest : List ℕ} {g : Guard} → Printed n left bs g rest → bs ≡ print g n [] ++ rest
  printed_parted {rest = rest} {g = g} h = h.text ∙ print_append n g [] rest

  pub parted : {left : ℕ} {e : Reason} {bs from : List ℕ} (h : Fault n left bs e from) → bs ≡ before h ++ from
  unfolding before
  parted (here m h) = refl
  parted (denying h) = ap (λ (l : List ℕ). 33 ∷ l) (parted h)
  parted (within {from = from} f w h) = ap (leading f n) (parted h) ∙ leading_append n f (before h) from
  parted (behind {rest = rest} {g = g} f w p q) = ap (leading f n) (printed_parted p) ∙ leading_append n f (print g n []) rest

  -- what follows a byte behind a guard is shorter than the whole
  pub shorter : {left b : ℕ} {bs rest : List ℕ} {g : Guard} → Printed n left bs g (b ∷ rest) → length rest < length bs
  shorter {b = b} {rest = rest} {g = g} h = rw h.text (no_shorter n (length (b ∷ rest)) g h.declared (b ∷ rest) (omega arith))

  pub itself : {left : ℕ} {bs rest : List ℕ} {g : Guard} → Printed n left bs g rest → Printed n left (print g n rest) g rest
  itself h = record { text = refl; declared = h.declared; nested = h.nested; apart = h.apart }

-- ---- where a guard may begin: the end, a byte that is refused whatever follows, a name that is not declared

-- what holds whatever follows the byte, holds of all that begins alike
pub same_byte : {e : Reason} {b : ℕ} (bs : List ℕ) (P : List ℕ → Type 0) → (e ≡ because.UndeclaredName → ⊥) → ((cs : List ℕ) → P (b ∷ cs)) → (y : List ℕ) → Alike e (b ∷ bs) y → P y
same_byte bs P f on y (inl q) = rw q.2 (on q.1)
same_byte bs P f on y (inr q) = absurd (f q.0)

module _ {n : List (List ℕ)} {left : ℕ} where
  pub missing : Fault n left [] because.BadGuard []
  missing = here numbered_five (λ y q. absurd q)

  pub refused : {b : ℕ} {e : Reason} {bs : List ℕ} → (e ≡ because.UndeclaredName → ⊥) → 5 ≤ number_of e → number_of e ≤ 7 → ((cs : List ℕ) → read_guard n left (b ∷ cs) ≡ faulty e (b ∷ cs)) → Fault n left (b ∷ bs) e (b ∷ bs)
  refused {e = e} {bs = bs} f l h on = here (numbered_byte l h) (same_byte bs (λ y. read_guard n left y ≡ faulty e y) f on)

  pub undeclared : (b : ℕ) (bs : List ℕ) → is_letter b ≡ true → number n (run (b ∷ bs)) ≡ None → Fault n left (b ∷ bs) because.UndeclaredName (b ∷ bs)
  undeclared b bs l e = here {e = because.UndeclaredName} (numbered_byte (omega arith) (omega arith)) on
    where
      on : (y : List ℕ) → Alike because.UndeclaredName (b ∷ bs) y → read_guard n left y ≡ faulty because.UndeclaredName y
      on y (inl q) = absurd (q.0 refl)
      on y (inr q) = rw q.3 (undeclared_name n b bs left q.1 l e q.2)
