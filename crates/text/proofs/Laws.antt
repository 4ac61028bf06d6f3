-- Laws of texts in a room: one text after another is one text; what a text leaves in its room; what a dry run tells. And the equations of
-- decimal numbers that a reader expects. The one idea: a place past the room's end writes nothing, however far past. Assumes nothing.
use mathlib.Core.Path.{◌≡◌, refl, sym, ap, ◌∙◌}
use mathlib.Core.List.Memᴰ
use mathlib.Core.List.{List, [], ◌∷◌, ◌++◌, append_assoc, Memᴰ}
use mathlib.Core.Logic.{⊎_elim}
use Prim.Native.Nat.{ℕ, zero, suc, ◌+◌, ◌-◌, ◌*◌, ◌/◌, ◌%◌, ◌^◌, ◌≤◌, ◌<◌, min}
use native.Mathlib.Omega.{arith}
use native.Mathlib.Nat.{add-zero, zero-add, eq-zero-or-pos, pow-suc}
use borrow.Author.Tests.{lt-ltb, le-ltb}
use lib.ListN.{length, set, take, drop, length-append}
use lib.Seq.{sets, length-sets, sets-eq, set_out, take_all, length-take-le, take_at, drop_at}
use borrow.Rule.Slice.PartMut.{put_mid, Post-is}
use Rattle.std.proofs.lemmas.List.{take-append-drop}
use Rattle.text.specs.Text.{limit, behind, Wrote, digits, decimal}

-- ---- places

-- no bytes move no place
pub behind_none : (at : ℕ) → behind at 0 ≡ at
behind_none at = omega arith

-- the place behind m bytes and then n more is the place behind all of them
pub behind_behind : (at m n : ℕ) → behind (behind at m) n ≡ behind at (m + n)
behind_behind at m n = omega arith

-- what is laid past the room's end is not written
pub sets_past : (l : List ℕ) (at : ℕ) (vs : List ℕ) → length l ≤ at → sets l at vs ≡ l
sets_past l at [] h = refl
sets_past l at (b ∷ vs) h = rw (set_out l at b h) (sets_past l (suc at) vs (omega arith))

-- laying two texts, the second behind the first, is laying both as one
pub sets_append : (l : List ℕ) (at : ℕ) (u v : List ℕ) → sets l at (u ++ v) ≡ sets (sets l at u) (at + length u) v
sets_append l at [] v = rw add-zero
sets_append l at (b ∷ u) v =
    let e : at + suc (length u) ≡ suc at + length u = omega arith in
    rw e (sets_append (set l at b) (suc at) u v)

-- it does not matter that a place stays at the limit: no room goes so far
sets_behind : (l : List ℕ) (at n : ℕ) (v : List ℕ) → length l ≤ limit → sets l (at + n) v ≡ sets l (behind at n) v
sets_behind l at n v h =
    ⊎_elim
    (λ z. let e : behind at n ≡ at + n = omega arith in rw e)
    (λ p. sets_past l (at + n) v (omega arith) ∙ sym (sets_past l (behind at n) v (omega arith)))
    (eq-zero-or-pos (at + n - limit))

-- ---- one text after another

-- the empty text
pub wrote_none : {l : List ℕ} {at : ℕ} → length l ≤ limit → Wrote l at [] l at
wrote_none {l} {at} h = record { short = h; moved = sym (behind_none at); became = refl }

-- one byte
pub wrote_one : {l l' : List ℕ} {at at' b : ℕ} → l' ≡ set l at b → length l ≤ limit → at' ≡ behind at 1 → Wrote l at (b ∷ []) l' at'
wrote_one e h m = record { short = h; moved = m; became = e }

-- a room keeps its length
pub wrote_long : {l vs l' : List ℕ} {at at' : ℕ} → Wrote l at vs l' at' → length l' ≡ length l
wrote_long {l} {vs} {l'} {at} w = ap length w.became ∙ length-sets l at vs

-- one text after another
pub wrote_then : {l u l' v l'' : List ℕ} {at at' at'' : ℕ} → Wrote l at u l' at' → Wrote l' at' v l'' at'' → Wrote l at (u ++ v) l'' at''
wrote_then {l} {u} {l'} {v} {l''} {at} {at'} {at''} a b =
    record {
      short = a.short;
      moved = rw (length-append u v, ← behind_behind at (length u) (length v), ← a.moved) b.moved;
      became =
          rw (sets_append l at u v, ← a.became, sets_behind l' at (length u) v (rw (wrote_long a) a.short), ← a.moved) b.became;
    }

-- ---- many bytes at once

-- past the room's end nothing is laid
pub wrote_past : {l vs : List ℕ} {at at' : ℕ} → length l ≤ limit → at' ≡ behind at (length vs) → length l ≤ at → Wrote l at vs l at'
wrote_past {l} {vs} {at} h m g = record { short = h; moved = m; became = sym (sets_past l at vs g) }

-- as many bytes as fit, as a loan of a part of the room gives it back: what does not fit would be laid past the room's end
pub wrote_fitting : {l vs ys : List ℕ} {at at' f : ℕ} → length l ≤ limit → at' ≡ behind at (length vs) → f ≡ min (length vs) (length l - at) → at < length l
    → ys ≡ take f vs → Wrote l at vs (put_mid at (at + f - at) l ys) at'
wrote_fitting {l} {vs} {ys} {at} {at'} {f} h m e lt t = record { short = h; moved = m; became = laid ∙ sym rest }
  where
    long : length (take f vs) ≡ f
    long = length-take-le f vs (omega arith)

    laid : put_mid at (at + f - at) l ys ≡ sets l at (take f vs)
    laid =
        rw (t, Post-is at (at + f) l (omega arith), sets-eq (take f vs) l at (omega (arith, long)), long)
        (sym (append_assoc (take at l) (take f vs) (drop (at + f) l)))

    rest : sets l at vs ≡ sets l at (take f vs)
    rest =
        ⊎_elim
        (λ all. let whole : take f vs ≡ vs = take_all f vs (omega arith) in rw whole)
        (λ less.
        let past : sets (sets l at (take f vs)) (at + f) (drop f vs) ≡ sets l at (take f vs) =
        sets_past (sets l at (take f vs)) (at + f) (drop f vs) (omega (arith, length-sets l at (take f vs))) in
        let both : sets l at (take f vs ++ drop f vs) ≡ sets l at (take f vs) = sets_append l at (take f vs) (drop f vs) ∙ rw long past in
        rw (take-append-drop f vs) at both)
        (eq-zero-or-pos (length vs - f))

-- ---- what a text that fits leaves

module _ {l vs l' : List ℕ} {at at' : ℕ} (w : Wrote l at vs l' at') (fits : at + length vs ≤ length l) where
  -- the part in front of the text is `at` bytes long
  front_long : length (take at l) ≡ at
  front_long = length-take-le at l (omega arith)

  -- the room in its three parts
  laid : l' ≡ take at l ++ vs ++ drop (at + length vs) l
  laid = w.became ∙ sets-eq vs l at fits

  -- the next place is the one behind the text
  pub wrote_next : at' ≡ at + length vs
  wrote_next = let m = w.moved in let h = w.short in omega arith

  -- what stands in front of the text is as it was
  pub wrote_front : take at l' ≡ take at l
  wrote_front = rw (laid, append_assoc) (take_at (take at l) (vs ++ drop (at + length vs) l) at front_long)

  -- the text stands in its place
  pub wrote_text : take (length vs) (drop at l') ≡ vs
  wrote_text =
      rw (laid, append_assoc, drop_at (take at l) (vs ++ drop (at + length vs) l) at front_long)
      (take_at vs (drop (at + length vs) l) (length vs) refl)

  -- what stands behind the text is as it was
  pub wrote_behind : drop (at + length vs) l' ≡ drop (at + length vs) l
  wrote_behind =
      let e : length (take at l ++ vs) ≡ at + length vs = rw (length-append, front_long) in
      rw laid (drop_at (take at l ++ vs) (drop (at + length vs) l) (at + length vs) e)

-- a text that fits, laid from the room's begin on: the text, and then what stood there
pub wrote_whole : {l vs l' : List ℕ} {n : ℕ} → Wrote l 0 vs l' n → length vs ≤ length l → l' ≡ vs ++ drop (length vs) l
wrote_whole {l} {vs} w h =
    let z : 0 + length vs ≡ length vs = omega arith in
    w.became ∙ (rw z at (sets-eq vs l 0 (omega arith)))

-- and the next place is the text's length
pub wrote_end : {l vs l' : List ℕ} {n : ℕ} → Wrote l 0 vs l' n → length vs ≤ length l → n ≡ length vs
wrote_end {l} {vs} w h = wrote_next w (omega arith) ∙ zero-add (length vs)

-- ---- what a dry run tells

module _ {d vs d' : List ℕ} {n : ℕ} (w : Wrote d 0 vs d' n) where
  -- the place behind a text is its length, as far as a place goes
  pub dry_place : n ≡ min (length vs) limit
  dry_place = let m = w.moved in omega arith

  -- m bytes, fewer than the limit, are room enough if the place says so
  pub dry_fits : {m : ℕ} → n ≤ m → m < limit → length vs ≤ m
  dry_fits h b = let m = dry_place in omega arith

  -- and they are not if the place says so
  pub dry_too_long : {m : ℕ} → m < n → m < limit → m < length vs
  dry_too_long h b = let m = dry_place in omega arith

-- ---- decimal numbers

-- a bound past the number makes no difference
digits_enough : (k j n : ℕ) → n ≤ k → n ≤ j → digits k n ≡ digits j n
unfolding digits
digits_enough zero zero n h g = refl
digits_enough zero (suc j) n h g = rw (lt-ltb n 10 (omega arith))
digits_enough (suc k) zero n h g = rw (lt-ltb n 10 (omega arith))
digits_enough (suc k) (suc j) n h g = rw (digits_enough k j (n / 10) (omega arith) (omega arith))

-- a number below ten is one digit
pub decimal_short : (n : ℕ) → n < 10 → decimal n ≡ (n + 48) ∷ []
unfolding decimal digits
decimal_short zero h = refl
decimal_short (suc n) h = let e : suc n % 10 ≡ suc n = omega arith in rw (lt-ltb (suc n) 10 h, e)

-- any other is what stands before its last digit, and its last digit
pub decimal_long : (n : ℕ) → 10 ≤ n → decimal n ≡ decimal (n / 10) ++ ((n % 10 + 48) ∷ [])
unfolding decimal digits
decimal_long zero h = absurd (omega arith)
decimal_long (suc n) h = rw (le-ltb (suc n) 10 h, digits_enough n (suc n / 10) (suc n / 10) (omega arith) (omega arith))

-- a number of two digits
pub decimal_two : (n : ℕ) → 10 ≤ n → n < 100 → decimal n ≡ (n / 10 + 48) ∷ (n % 10 + 48) ∷ []
decimal_two n h g = rw (decimal_long n h, decimal_short (n / 10) (omega arith))

-- laying a number of one digit
pub number_one : {l l' : List ℕ} {at at' n x : ℕ} → Wrote l at (x ∷ []) l' at' → x ≡ n % 10 + 48 → n < 10 → Wrote l at (decimal n) l' at'
number_one {n = n} {x} u e h = let f : n + 48 ≡ x = omega arith in rw (decimal_short n h, f) u

-- laying one digit more, in the next place
pub number_more : {l l' l'' : List ℕ} {at at' next at'' m n x : ℕ} → Wrote l at (decimal m) l' at' → Wrote l' next (x ∷ []) l'' at''
    → next ≡ at' → m ≡ n / 10 → x ≡ n % 10 + 48 → 10 ≤ n → Wrote l at (decimal n) l'' at''
number_more {n = n} u v p d e h = rw (decimal_long n h, ← d, ← e) (wrote_then u (rw p at v))

-- laying a number of two digits
pub number_two : {l l' l'' : List ℕ} {at at' at'' n x y : ℕ} → Wrote l at (x ∷ []) l' at' → Wrote l' at' (y ∷ []) l'' at''
    → x ≡ n / 10 % 10 + 48 → y ≡ n % 10 + 48 → 10 ≤ n → n < 100 → Wrote l at (decimal n) l'' at''
number_two {n = n} u v e f h g = number_more (number_one {n = n / 10} u e (omega arith)) v refl refl f h

-- and of three
pub number_three : {l l' l'' l''' : List ℕ} {at at' at'' at''' n x y z : ℕ} → Wrote l at (x ∷ []) l' at' → Wrote l' at' (y ∷ []) l'' at'' → Wrote l'' at'' (z ∷ []) l''' at'''
    → x ≡ n / 100 % 10 + 48 → y ≡ n / 10 % 10 + 48 → z ≡ n % 10 + 48 → 100 ≤ n → n < 1000 → Wrote l at (decimal n) l''' at'''
number_three {n = n} u v w e f g h k = number_more (number_two {n = n / 10} u v (omega arith) f (omega arith) (omega arith)) w refl refl g (omega arith)

-- what holds of one digit, and of a digit more, holds of every decimal number
module _ (P : ℕ → List ℕ → Type 0) (one : (n : ℕ) → n < 10 → P n ((n + 48) ∷ [])) (more : (n : ℕ) (bs : List ℕ) → 10 ≤ n → P (n / 10) bs → P n (bs ++ ((n % 10 + 48) ∷ []))) where
  -- the same of the numbers up to k
  below : (k n : ℕ) → n ≤ k → P n (decimal n)
  below zero n h = rw (decimal_short n (omega arith)) (one n (omega arith))
  below (suc k) n h =
      ⊎_elim
      (λ z. let s : n < 10 = omega arith in rw (decimal_short n s) (one n s))
      (λ p. let s : 10 ≤ n = omega arith in rw (decimal_long n s) (more n (decimal (n / 10)) s (below k (n / 10) (omega arith))))
      (eq-zero-or-pos (n - 9))

  pub decimal_every : (n : ℕ) → P n (decimal n)
  decimal_every n = below n n (omega arith)

-- every byte of a decimal number is a digit
pub decimal_digits : (n b : ℕ) → Memᴰ b (decimal n) → (48 ≤ b) × (b ≤ 57)
decimal_digits =
    decimal_every (λ n bs. (b : ℕ) → Memᴰ b bs → (48 ≤ b) × (b ≤ 57))
    (λ n h b i. let e = Memᴰ.eq_of_singleton i in (omega arith, omega arith))
    (λ n bs h p b i. ⊎_elim (p b) (λ j. let e = Memᴰ.eq_of_singleton j in (omega arith, omega arith)) (Memᴰ.append_cases bs i))

-- a decimal number has a first byte, and that is the digit 0 in the number 0 only
pub decimal_begins : (n : ℕ) → (b : ℕ) × (bs : List ℕ) × (decimal n ≡ b ∷ bs) × (b ≡ 48 → n ≡ 0)
decimal_begins =
    decimal_every (λ n ds. (b : ℕ) × (bs : List ℕ) × (ds ≡ b ∷ bs) × (b ≡ 48 → n ≡ 0))
    (λ n h. (n + 48, [], refl, λ e. omega arith))
    (λ n ds h p. (p.0, p.1 ++ ((n % 10 + 48) ∷ []), rw p.2, λ e. let z = p.3 e in omega arith))

-- no leading zero
pub decimal_first : (n : ℕ) (bs : List ℕ) → decimal n ≡ 48 ∷ bs → n ≡ 0
decimal_first n bs e = let p = decimal_begins n in let f = p.2 in p.3 (cc)

-- a number below 10 ^ k has at most k digits, for every k but 0: what stands before its last digit is below 10 ^ (k - 1)
pub decimal_places : (n k : ℕ) → n < 10 ^ suc k → length (decimal n) ≤ suc k
decimal_places = decimal_every (λ n bs. (k : ℕ) → n < 10 ^ suc k → length bs ≤ suc k) (λ n h k l. omega arith) more
  where
    more : (n : ℕ) (bs : List ℕ) → 10 ≤ n → ((k : ℕ) → n / 10 < 10 ^ suc k → length bs ≤ suc k)
        → (k : ℕ) → n < 10 ^ suc k → length (bs ++ ((n % 10 + 48) ∷ [])) ≤ suc k
    more n bs h p zero l = absurd (omega arith)
    more n bs h p (suc k) l = simp length-append (omega (arith, p k (omega (arith, pow-suc 10 (suc k)))))

-- the number that digits stand for, read behind the number a
unfoldable pub worth : ℕ → List ℕ → ℕ
worth a [] = a
worth a (b ∷ bs) = worth (a * 10 + (b - 48)) bs

-- one digit more
worth_more : (a : ℕ) (bs : List ℕ) (b : ℕ) → worth a (bs ++ (b ∷ [])) ≡ worth a bs * 10 + (b - 48)
unfolding worth
worth_more a [] b = refl
worth_more a (c ∷ bs) b = worth_more (a * 10 + (c - 48)) bs b

-- the digits of n stand for n
pub decimal_worth : (n : ℕ) → worth 0 (decimal n) ≡ n
unfolding worth
decimal_worth =
    decimal_every (λ n bs. worth 0 bs ≡ n)
    (λ n h. omega arith)
    (λ n bs h p. rw (worth_more 0 bs (n % 10 + 48), p) (omega arith))

-- numbers with the same digits are equal
pub decimal_injective : (m n : ℕ) → decimal m ≡ decimal n → m ≡ n
decimal_injective m n e = sym (decimal_worth m) ∙ ap (worth 0) e ∙ decimal_worth n
