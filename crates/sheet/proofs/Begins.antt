-- Where a field begins in its line: behind the bytes of the fields before it, each with its tab. Assumes nothing.
use Rattle.std.proofs.Common.{◌≡◌, refl, sym, ap, ◌∙◌, List, [], ◌∷◌, ◌++◌, append_assoc, append-nil, ℕ, ◌+◌, ◌≤◌, arith, length, length-append}
use Rattle.fields.specs.Cutting.{fields, join}
use Rattle.fields.proofs.Cuts.{join_fields}
use Rattle.sheet.specs.Reading.{place_behind}
use Rattle.sheet.specs.Places.{tabbed, FieldAt}

tabbed_join : (before : List (List ℕ)) (x : List ℕ) (after : List (List ℕ)) → join (before ++ x ∷ after) ≡ tabbed before ++ join (x ∷ after)
unfolding tabbed join
tabbed_join [] x after = refl
tabbed_join (f ∷ []) x after = sym (append_assoc f (9 ∷ []) (join (x ∷ after)))
tabbed_join (f ∷ g ∷ fs) x after = rw (tabbed_join (g ∷ fs) x after) (sym (append_assoc f (9 ∷ tabbed (g ∷ fs)) (join (x ∷ after))))

tabbed_length : (fs : List (List ℕ)) → length (tabbed fs) + 1 ≡ place_behind fs
unfolding tabbed
tabbed_length [] = refl
tabbed_length (f ∷ fs) = omega (arith, length-append f (9 ∷ tabbed fs), tabbed_length fs)

-- what follows a field in its line
abbrev following : List (List ℕ) → List ℕ
following [] = []
following (g ∷ gs) = 9 ∷ join (g ∷ gs)

following_join : (x : List ℕ) (after : List (List ℕ)) → join (x ∷ after) ≡ x ++ following after
unfolding join
following_join x [] = sym (append-nil x)
following_join x (g ∷ gs) = refl

pub field_begins : (l : List ℕ) (before : List (List ℕ)) (x : List ℕ) (after : List (List ℕ)) → fields l ≡ before ++ x ∷ after → FieldAt l before x (place_behind before)
field_begins l before x after e =
    record {
      after = after;
      cut = e;
      rest = following after;
      is = sym (join_fields l) ∙ ap join e ∙ tabbed_join before x after ∙ ap (λ (y : List ℕ). tabbed before ++ y) (following_join x after);
      place = sym (tabbed_length before);
    }

-- a field ends in its line
pub field_ends : {l : List ℕ} {before : List (List ℕ)} {x : List ℕ} {p : ℕ} → FieldAt l before x p → p + length x ≤ length l + 1
field_ends {before = before} {x = x} s =
    let k = s.place in
    omega (arith, ap length s.is, length-append (tabbed before) (x ++ s.rest), length-append x s.rest)
