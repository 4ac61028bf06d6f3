-- The numbers of the table of refusals: from 1 on, below 20, and no two reasons have one number. No row with a number from 1 on is that of a call that is
-- done, and no two refusals have one row. Assumes nothing.
use Rattle.std.proofs.Common.{◌≡◌, ℕ, ◌≤◌, cond, eqb, refl, sym, ap, ◌∙◌, arith}
use Rattle.refusals.specs.declared.Reason.{Reason}
use Rattle.refusals.specs.declared.Reason.TheVariants as because
use Rattle.refusals.specs.declared.Refusal.{Refusal}
use Rattle.refusals.specs.Refusal.{number_of, Row, done_row, refused_row}

pub number_low : (r : Reason) → 1 ≤ number_of r
number_low because.SheetTooLong = omega arith
number_low because.NoLastLineEnd = omega arith
number_low because.BadLine = omega arith
number_low because.BadField = omega arith
number_low because.BadGuard = omega arith
number_low because.UndeclaredName = omega arith
number_low because.NestedTooDeep = omega arith
number_low because.TooManyLines = omega arith
number_low because.Repeat = omega arith
number_low because.NoValidProduct = omega arith
number_low because.RoomTooShort = omega arith
number_low because.InvalidProduct = omega arith
number_low because.NoMove = omega arith

pub number_high : (r : Reason) → number_of r ≤ 19
number_high because.SheetTooLong = omega arith
number_high because.NoLastLineEnd = omega arith
number_high because.BadLine = omega arith
number_high because.BadField = omega arith
number_high because.BadGuard = omega arith
number_high because.UndeclaredName = omega arith
number_high because.NestedTooDeep = omega arith
number_high because.TooManyLines = omega arith
number_high because.Repeat = omega arith
number_high because.NoValidProduct = omega arith
number_high because.RoomTooShort = omega arith
number_high because.InvalidProduct = omega arith
number_high because.NoMove = omega arith

-- the reason with a number; what other numbers get does not matter
named : ℕ → Reason
named e =
    cond (eqb e 1) because.SheetTooLong
    (cond (eqb e 2) because.NoLastLineEnd
    (cond (eqb e 3) because.BadLine
    (cond (eqb e 4) because.BadField
    (cond (eqb e 5) because.BadGuard
    (cond (eqb e 6) because.UndeclaredName
    (cond (eqb e 7) because.NestedTooDeep
    (cond (eqb e 8) because.TooManyLines
    (cond (eqb e 9) because.Repeat
    (cond (eqb e 10) because.NoValidProduct
    (cond (eqb e 11) because.RoomTooShort
    (cond (eqb e 12) because.InvalidProduct
    because.NoMove)))))))))))

named_back : (r : Reason) → named (number_of r) ≡ r
unfolding named
named_back because.SheetTooLong = refl
named_back because.NoLastLineEnd = refl
named_back because.BadLine = refl
named_back because.BadField = refl
named_back because.BadGuard = refl
named_back because.UndeclaredName = refl
named_back because.NestedTooDeep = refl
named_back because.TooManyLines = refl
named_back because.Repeat = refl
named_back because.NoValidProduct = refl
named_back because.RoomTooShort = refl
named_back because.InvalidProduct = refl
named_back because.NoMove = refl

pub one_reason : (q r : Reason) → number_of q ≡ number_of r → q ≡ r
one_reason q r e = sym (named_back q) ∙ (ap named e ∙ named_back r)

pub no_done_row : (q : Refusal) → 1 ≤ q.number → refused_row q ≡ done_row → ⊥
no_done_row q low e = let z = ap (λ (r : Row). r.number) e in omega arith

same_parts : {a b l m p n : ℕ} → a ≡ b → l ≡ m → p ≡ n → ◌≡◌ {A = Refusal} (record { number = a; line = l; place = p }) (record { number = b; line = m; place = n })
same_parts e f g = cc

pub one_refusal : (q r : Refusal) → refused_row q ≡ refused_row r → q ≡ r
one_refusal q r e =
    same_parts (ap (λ (x : Row). x.number) e) (ap (λ (x : Row). x.line) e) (ap (λ (x : Row). x.place) e)
