-- Cutting at a mark and joining again. A piece that is clear of the mark is cut off whole, and what `find` passes is clear;
-- so the code's places and the joined texts lean on the same two laws, `cut_piece` and `cut_tail`. Assumes nothing.
use Rattle.std.proofs.Common.{◌≡◌, ℕ, suc, ◌+◌, ◌-◌, ◌<◌, ◌≤◌, Bool, true, false, eqb, List, [], ◌∷◌, ◌++◌, length, get_or, drop, sym, refl, ap, ◌∙◌, ⊎_elim, eq-or-lt_of_le, arith, drop_of_length-le, eq-eqb, ne_eqb, eqb-true}
use Rattle.fields.specs.Bytes.{part, FirstAt}
use Rattle.fields.specs.Cutting.{onto, cut, lines, fields, join, close, Clear, AllClear}
use Rattle.fields.proofs.Parts.{headed, part_length, part_at, part_over, part_then}

-- ---- a piece that is clear of the mark

pub cut_piece : (m : ℕ) (z : List (List ℕ)) (l rest : List ℕ) → Clear m l → cut m z (l ++ m ∷ rest) ≡ l ∷ cut m z rest
unfolding cut
cut_piece m z [] rest c = rw (eq-eqb m m refl)
cut_piece m z (b ∷ l) rest c = rw (c.0, cut_piece m z l rest c.1)

pub cut_tail : (m : ℕ) (l : List ℕ) → Clear m l → cut m ([] ∷ []) l ≡ l ∷ []
unfolding cut
cut_tail m [] c = refl
cut_tail m (b ∷ l) c = rw (c.0, cut_tail m l c.1)

clear_by : (m : ℕ) (l : List ℕ) → ((i : ℕ) → i < length l → get_or l i 0 ≡ m → ⊥) → Clear m l
clear_by m [] f = tt
clear_by m (b ∷ l) f = (ne_eqb b m (f 0 (omega arith)), clear_by m l (λ i h. f (suc i) (omega arith)))

-- ---- cutting where the first mark is

module _ {s : List ℕ} {m from r : ℕ} (q : FirstAt s m from r) where
  pub first_clear : Clear m (part s from r)
  first_clear =
      let high = q.high in
      clear_by m (part s from r)
      (λ i h e.
      let l = part_length s from r high in
      q.clear (from + i) (omega arith) (omega arith) (sym (part_at s from r i (omega arith)) ∙ e))

  pub cut_more : (z : List (List ℕ)) → r < length s → cut m z (drop from s) ≡ part s from r ∷ cut m z (drop (r + 1) s)
  cut_more z h =
      rw (sym (part_then s from r (q.here h).0), headed s r h, (q.here h).1) (cut_piece m z (part s from r) (drop (r + 1) s) first_clear)

  pub cut_last : length s ≤ r → cut m ([] ∷ []) (drop from s) ≡ drop from s ∷ []
  cut_last h = rw (sym (part_over s from r h)) (cut_tail m (part s from r) first_clear)

  -- where the last byte is a mark, one is found
  pub first_there : from < length s → get_or s (length s - 1) 0 ≡ m → r < length s
  first_there h e = ⊎_elim (λ z. absurd (q.clear (length s - 1) (omega arith) (omega arith) e)) (λ l. l) (eq-or-lt_of_le q.high)

pub lines_more : {s : List ℕ} {at r : ℕ} → FirstAt s 10 at r → r < length s → lines (drop at s) ≡ part s at r ∷ lines (drop (r + 1) s)
lines_more q h = cut_more q [] h

pub lines_none : (s : List ℕ) (at : ℕ) → length s ≤ at → lines (drop at s) ≡ []
unfolding cut
lines_none s at h = rw (drop_of_length-le s h)

-- ---- there is always a field

some_onto : (t : Bool) (b : ℕ) (ls : List (List ℕ)) → (y : List ℕ) × (ys : List (List ℕ)) × (onto t b ls ≡ y ∷ ys)
some_onto true b ls = ([], ls, refl)
some_onto false b [] = (b ∷ [], [], refl)
some_onto false b (l ∷ ls) = (b ∷ l, ls, refl)

pub cut_some : (m : ℕ) (l : List ℕ) → (y : List ℕ) × (ys : List (List ℕ)) × (cut m ([] ∷ []) l ≡ y ∷ ys)
unfolding cut
cut_some m [] = ([], [], refl)
cut_some m (b ∷ l) = some_onto (eqb b m) b (cut m ([] ∷ []) l)

-- ---- what is joined is cut again

pub fields_joined : (f : List ℕ) (fs : List (List ℕ)) → AllClear 9 (f ∷ fs) → fields (join (f ∷ fs)) ≡ f ∷ fs
unfolding join
fields_joined f [] c = cut_tail 9 f c.0
fields_joined f (g ∷ fs) c = cut_piece 9 ([] ∷ []) f (join (g ∷ fs)) c.0 ∙ rw (fields_joined g fs c.1)

pub lines_closed : (ls : List (List ℕ)) → AllClear 10 ls → lines (close ls) ≡ ls
unfolding close cut
lines_closed [] c = refl
lines_closed (l ∷ ls) c = cut_piece 10 [] l (close ls) c.0 ∙ rw (lines_closed ls c.1)

-- ---- what is cut is joined again

join_onto : (t : Bool) (b : ℕ) (y : List ℕ) (ys : List (List ℕ)) → (t ≡ true → b ≡ 9) → join (onto t b (y ∷ ys)) ≡ b ∷ join (y ∷ ys)
unfolding join
join_onto true b y ys e = rw (e refl)
join_onto false b y [] e = refl
join_onto false b y (k ∷ ks) e = refl

pub join_fields : (l : List ℕ) → join (fields l) ≡ l
unfolding cut join
join_fields [] = refl
join_fields (b ∷ l) =
    let k = cut_some 9 l in
    rw k.2 (join_onto (eqb b 9) b k.0 k.1 (eqb-true b 9) ∙ ap (λ (x : List ℕ). b ∷ x) (rw k.2 at (join_fields l)))

close_onto : (t : Bool) (b : ℕ) (y : List ℕ) (ys : List (List ℕ)) → (t ≡ true → b ≡ 10) → close (onto t b (y ∷ ys)) ≡ b ∷ close (y ∷ ys)
unfolding close
close_onto true b y ys e = rw (e refl)
close_onto false b y ys e = refl

lines_some : (s : List ℕ) → (y : List ℕ) × (ys : List (List ℕ)) × (lines (s ++ 10 ∷ []) ≡ y ∷ ys)
unfolding cut
lines_some [] = ([], [], refl)
lines_some (b ∷ s) = some_onto (eqb b 10) b (lines (s ++ 10 ∷ []))

pub close_lines : (s : List ℕ) → close (lines (s ++ 10 ∷ [])) ≡ s ++ 10 ∷ []
unfolding cut close
close_lines [] = refl
close_lines (b ∷ s) =
    let k = lines_some s in
    rw k.2 (close_onto (eqb b 10) b k.0 k.1 (eqb-true b 10) ∙ ap (λ (x : List ℕ). b ∷ x) (rw k.2 at (close_lines s)))

-- ---- the pieces of a cut are clear

clear_onto : (m : ℕ) (t : Bool) (b : ℕ) (ls : List (List ℕ)) → (t ≡ false → eqb b m ≡ false) → AllClear m ls → AllClear m (onto t b ls)
clear_onto m true b ls f c = (tt, c)
clear_onto m false b [] f c = ((f refl, tt), tt)
clear_onto m false b (l ∷ ls) f c = ((f refl, c.0), c.1)
