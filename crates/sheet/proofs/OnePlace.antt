-- What is told of a place leaves one place: a sheet's line has one guard, one field that 4 or 9 concerns, and a guard one leftmost faulty byte. Each kind of
-- line is known by its word. Assumes nothing.
use Rattle.std.proofs.Common.{Option, Some, None, ◌≡◌, refl, sym, ap, ◌∙◌, cond, List, [], ◌∷◌, ◌++◌, ℕ, ◌+◌, arith, eqb, length, length-append}
use Rattle.refusals.specs.Refusal.{number_of}
use Rattle.refusals.specs.declared.Reason.{Reason}
use Rattle.refusals.specs.declared.Refusal.{Refusal}
use Rattle.refusals.proofs.Numbers.{one_reason}
use Rattle.fields.specs.Bytes.{same_bytes, is_action, read_state}
use Rattle.fields.specs.Cutting.{fields}
use Rattle.guards.specs.Reading.{read_whole}
use Rattle.sheet.specs.Reading.{move_word}
use Rattle.sheet.specs.Places.{LineOf, tabbed, Concerned, FieldThere, declared_in, BeforeGuard, ByteThere}
use Rattle.sheet.specs.Places as places

-- ---- one line

parted_same : {A : Type 0} (xs ys : List A) {x y : A} (us vs : List A) → length xs ≡ length ys → xs ++ x ∷ us ≡ ys ++ y ∷ vs → (xs ≡ ys) × (x ≡ y)
parted_same [] [] us vs e f = (refl, cc)
parted_same [] (y ∷ ys) us vs e f = absurd (omega arith)
parted_same (x ∷ xs) [] us vs e f = absurd (omega arith)
parted_same (x ∷ xs) (y ∷ ys) {x = a} {y = b} us vs e f =
    let t : xs ++ a ∷ us ≡ ys ++ b ∷ vs = cc in
    let h : x ≡ y = cc in
    let k = parted_same xs ys us vs (omega arith) t in
    (rw (h, k.0), k.1)

line_same : (s : List ℕ) {m n : ℕ} → m ≡ n → (k : LineOf s m) (l : LineOf s n) → (k.above ≡ l.above) × (k.line ≡ l.line)
line_same s e k l =
    let a = k.numbered in
    let b = l.numbered in
    parted_same k.above l.above k.below l.below (omega arith) (sym k.are ∙ l.are)

-- ---- 4 and 9: the fields before the one concerned, by the number and all fields

-- of a move, by what is bad
abbrev bad_of : List ℕ → List ℕ → List (List ℕ) → Option ℕ → List (List ℕ)
bad_of w f fs None = w ∷ []
bad_of w f [] (Some q) = w ∷ f ∷ []
bad_of w f (a ∷ fs) (Some q) = cond (is_action a) (w ∷ f ∷ a ∷ []) (w ∷ f ∷ [])

abbrev before_in : Reason → List (List ℕ) → List (List ℕ)
before_in e [] = []
before_in e (w ∷ []) = w ∷ []
before_in e (w ∷ f ∷ fs) = cond (eqb (number_of e) 9) (w ∷ []) (cond (same_bytes w move_word) (bad_of w f fs (read_state f)) (w ∷ []))

concerned_before : {e : Reason} {before : List (List ℕ)} {x : List ℕ} → Concerned e before x → (after : List (List ℕ)) → before ≡ before_in e (before ++ x ∷ after)
unfolding same_bytes
concerned_before (places.name h) after = refl
concerned_before (places.start h) after = refl
concerned_before (places.from h) after = rw h
concerned_before (places.action g h) after = rw (g, h)
concerned_before (places.to f g h) after = rw (f, g)
concerned_before (places.stop h) after = refl
concerned_before places.of_feature after = refl
concerned_before places.of_move after = refl
concerned_before places.of_stop after = refl

pub field_place : (s : List ℕ) {q r : Refusal} → q.number ≡ r.number → q.line ≡ r.line → FieldThere s q → FieldThere s r → q.place ≡ r.place
field_place s e n a b =
    let l = (line_same s n a.of b.of).1 in
    let f : a.before ++ a.field ∷ a.begins.after ≡ b.before ++ b.field ∷ b.begins.after = sym a.begins.cut ∙ ap fields l ∙ b.begins.cut in
    let same : a.before ≡ b.before =
    concerned_before a.concerned a.begins.after
    ∙ ap (λ (k : Reason). before_in k (a.before ++ a.field ∷ a.begins.after)) (one_reason a.why b.why (sym a.told ∙ e ∙ b.told))
    ∙ ap (before_in b.why) f
    ∙ sym (concerned_before b.concerned b.begins.after) in
    a.begins.place ∙ ap (λ (fs : List (List ℕ)). length (tabbed fs) + 1) same ∙ sym b.begins.place

-- ---- 5 to 7: the fields before the guard, and the guard

-- a line's first field is its word
guard_same : {b c : List (List ℕ)} → BeforeGuard b → BeforeGuard c → (g h : List ℕ) (us vs : List (List ℕ)) → b ++ g ∷ us ≡ c ++ h ∷ vs → (b ≡ c) × (g ≡ h)
guard_same places.valid places.valid g h us vs e = (refl, cc)
guard_same places.valid places.move g h us vs e = let z : ◌≡◌ {A = ℕ} 118 109 = cc in absurd (omega arith)
guard_same places.valid places.BeforeGuard.stop g h us vs e = let z : ◌≡◌ {A = ℕ} 118 115 = cc in absurd (omega arith)
guard_same places.move places.valid g h us vs e = let z : ◌≡◌ {A = ℕ} 109 118 = cc in absurd (omega arith)
guard_same places.move places.move g h us vs e = (cc, cc)
guard_same places.move places.BeforeGuard.stop g h us vs e = let z : ◌≡◌ {A = ℕ} 109 115 = cc in absurd (omega arith)
guard_same places.BeforeGuard.stop places.valid g h us vs e = let z : ◌≡◌ {A = ℕ} 115 118 = cc in absurd (omega arith)
guard_same places.BeforeGuard.stop places.move g h us vs e = let z : ◌≡◌ {A = ℕ} 115 109 = cc in absurd (omega arith)
guard_same places.BeforeGuard.stop places.BeforeGuard.stop g h us vs e = (cc, cc)

pub byte_place : (s : List ℕ) {q r : Refusal} → q.line ≡ r.line → ByteThere s q → ByteThere s r → q.place ≡ r.place
byte_place s n a b =
    let l = line_same s n a.of b.of in
    let g = guard_same a.guarded b.guarded a.guard b.guard a.begins.after b.begins.after (sym a.begins.cut ∙ ap fields l.1 ∙ b.begins.cut) in
    let reads = sym a.leftmost.refused ∙ ap (λ (k : List (List ℕ)). read_whole (declared_in k []) a.guard) l.0 ∙ ap (read_whole (declared_in b.of.above [])) g.1 ∙ b.leftmost.refused in
    let from : a.from ≡ b.from = cc in
    let p = a.begins.place ∙ ap (λ (fs : List (List ℕ)). length (tabbed fs) + 1) g.0 ∙ sym b.begins.place in
    let x = ap length a.leftmost.parted ∙ length-append a.leftmost.before a.from in
    let y = ap length b.leftmost.parted ∙ length-append b.leftmost.before b.from in
    let there = a.there in
    let here = b.there in
    omega (arith, ap length g.1, ap length from)
