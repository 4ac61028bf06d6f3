-- The promises determine the answers: two answers that meet one promise for the same input are equal.
-- The promises that are not named here are equations, and determine their answers by themselves. Assumes nothing.
use Rattle.std.proofs.Common.{◌≡◌, ℕ, ◌+◌, ◌<◌, ◌≤◌, Bool, true, false, List, length, drop, refl, ap, arith, length-drop, Option, Some, None}
use Rattle.fields.specs.Bytes.{part, FirstAt, RunEnd}
use Rattle.fields.specs.declared.Tabs.{Tabs}
use Rattle.fields.specs.Cutting.{IsOne, CutsTwo, CutsFour, tabs}
use Rattle.fields.proofs.Parts.{part_length}

-- neither of two first places lies before the other
not_before : {s : List ℕ} {m from r t : ℕ} → FirstAt s m from r → FirstAt s m from t → r < t → ⊥
not_before {r = r} p q h =
    let high = q.high in
    let l = p.here (omega arith) in
    q.clear r h l.0 l.1

pub first_determined : {s : List ℕ} {m from r t : ℕ} → FirstAt s m from r → FirstAt s m from t → r ≡ t
first_determined p q = omega (arith, not_before p q, not_before q p)

pub run_determined : {s : List ℕ} {at r t : ℕ} → RunEnd s at r → RunEnd s at t → r ≡ t
run_determined {s} {at} {r} {t} p q =
    let high = p.high in
    let top = q.high in
    let e : drop r s ≡ drop t s = cc in
    let l : length (drop r s) ≡ length (drop t s) = ap length e in
    omega (arith, length-drop r s, length-drop t s)

pub one_determined : (l : List ℕ) (r t : Bool) → IsOne l r → IsOne l t → r ≡ t
one_determined l true true p q = refl
one_determined l false false p q = refl
one_determined l true false p q = let z : ◌≡◌ {A = ℕ} 0 1 = cc in absurd (omega arith)
one_determined l false true p q = let z : ◌≡◌ {A = ℕ} 0 1 = cc in absurd (omega arith)

-- equal parts from one place on end at one place
same_end : (l : List ℕ) (a b c : ℕ) → a ≤ b → a ≤ c → b ≤ length l → c ≤ length l → part l a b ≡ part l a c → b ≡ c
same_end l a b c h k m n e = let z : length (part l a b) ≡ length (part l a c) = ap length e in omega (arith, part_length l a b m, part_length l a c n)

pub two_determined : (l : List ℕ) (r t : Option ℕ) → CutsTwo l r → CutsTwo l t → r ≡ t
two_determined l (Some b) (Some c) p q =
    let e : part l 0 b ≡ part l 0 c = cc in
    ap Some (same_end l 0 b c (omega arith) (omega arith) (omega arith) (omega arith) e)
two_determined l None None p q = refl
two_determined l (Some b) None p q = let z : ◌≡◌ {A = ℕ} 0 1 = cc in absurd (omega arith)
two_determined l None (Some c) p q = let z : ◌≡◌ {A = ℕ} 0 1 = cc in absurd (omega arith)

pub four_determined : (l : List ℕ) (r t : Option Tabs) → CutsFour l r → CutsFour l t → r ≡ t
four_determined l (Some x) (Some y) p q =
    let e : part l 0 x.first ≡ part l 0 y.first = cc in
    let f : x.first ≡ y.first = same_end l 0 x.first y.first (omega arith) (omega arith) (omega arith) (omega arith) e in
    let g : part l (x.first + 1) x.second ≡ part l (x.first + 1) y.second = cc in
    let h : x.second ≡ y.second = same_end l (x.first + 1) x.second y.second (omega arith) (omega arith) (omega arith) (omega arith) g in
    let i : part l (x.second + 1) x.third ≡ part l (x.second + 1) y.third = cc in
    let j : x.third ≡ y.third = same_end l (x.second + 1) x.third y.third (omega arith) (omega arith) (omega arith) (omega arith) i in
    let k : tabs x.first x.second x.third ≡ tabs y.first y.second y.third = cc in
    ap Some k
four_determined l None None p q = refl
four_determined l (Some x) None p q = let z : ◌≡◌ {A = ℕ} 0 1 = cc in absurd (omega arith)
four_determined l None (Some y) p q = let z : ◌≡◌ {A = ℕ} 0 1 = cc in absurd (omega arith)
