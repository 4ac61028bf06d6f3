-- The run of name bytes at the head of a list, and what stands behind it. Assumes nothing.
use Rattle.std.proofs.Common.{◌≡◌, ℕ, ◌+◌, ◌<◌, ◌≤◌, Bool, true, false, cond, List, [], ◌∷◌, ◌++◌, length, get_or, drop, sym, refl, ap, ◌∙◌, append_assoc, append-nil, arith, drop_of_length-le}
use mathlib.Core.Bool.{and-eq-true_iff}
use lib.Seq.{drop-length}
use Rattle.fields.specs.Bytes.{part, is_name_byte, all_name_bytes, run, after_run, Stops, RunEnd}
use Rattle.fields.proofs.Parts.{headed, part_none, part_snoc, part_over}

-- ---- from place to place

pub run_more : (b : ℕ) (bs : List ℕ) → is_name_byte b ≡ true → (run (b ∷ bs) ≡ b ∷ run bs) × (after_run (b ∷ bs) ≡ after_run bs)
unfolding run after_run
run_more b bs e = (ap (λ (t : Bool). cond t (b ∷ run bs) []) e, ap (λ (t : Bool). cond t (after_run bs) (b ∷ bs)) e)

run_stop : (bs : List ℕ) → Stops bs → (run bs ≡ []) × (after_run bs ≡ bs)
unfolding run after_run
run_stop [] e = (refl, refl)
run_stop (b ∷ bs) e = (ap (λ (t : Bool). cond t (b ∷ run bs) []) e, ap (λ (t : Bool). cond t (after_run bs) (b ∷ bs)) e)

-- what is passed from `at` to i, and the run that is left, make the run
pub record Passed (s : List ℕ) (at i : ℕ) : Type 0 where
  pub low : at ≤ i
  pub inside : part s at i ++ run (drop i s) ≡ run (drop at s)
  pub after : after_run (drop i s) ≡ after_run (drop at s)

pub passed_none : (s : List ℕ) (at : ℕ) → Passed s at at
passed_none s at = record { low = omega arith; inside = rw (part_none s at at (omega arith)); after = refl }

module _ {s : List ℕ} {at i : ℕ} (p : Passed s at i) where
  pub passed_more : i < length s → is_name_byte (get_or s i 0) ≡ true → Passed s at (i + 1)
  passed_more h e =
      let k = run_more (get_or s i 0) (drop (i + 1) s) e in
      record {
        low = let l = p.low in omega arith;
        inside = rw (part_snoc s at i p.low h, append_assoc) (rw (headed s i h, k.0) at p.inside);
        after = rw (headed s i h, k.1) at p.after;
      }

  stopped : i ≤ length s → Stops (drop i s) → RunEnd s at i
  stopped h e =
      let k = run_stop (drop i s) e in
      record {
        low = λ l. p.low;
        high = h;
        inside = rw (k.0, append-nil) at p.inside;
        after = sym k.1 ∙ p.after;
      }

  pub passed_stop : i < length s → is_name_byte (get_or s i 0) ≡ false → RunEnd s at i
  passed_stop h e = stopped (omega arith) (rw (headed s i h) e)

  pub passed_end : length s ≤ i → RunEnd s at (length s)
  passed_end h =
      let n = drop_of_length-le s h in
      let k = run_stop (drop i s) (rw n tt) in
      record {
        low = λ l. l;
        high = omega arith;
        inside = part_over s at (length s) (omega arith) ∙ sym (part_over s at i h) ∙ (rw (k.0, append-nil) at p.inside);
        after = drop-length s ∙ sym n ∙ sym k.1 ∙ p.after;
      }

-- ---- what is known of a run

-- by whether the first byte is a name byte
by_first : (P : List ℕ → List ℕ → Type 0) (b : ℕ) (bs : List ℕ) → (is_name_byte b ≡ true → P (b ∷ run bs) (after_run bs)) → (is_name_byte b ≡ false → P [] (b ∷ bs)) → P (run (b ∷ bs)) (after_run (b ∷ bs))
unfolding run after_run
by_first P b bs f g = told (is_name_byte b) f g
  where
    told : (t : Bool) → (t ≡ true → P (b ∷ run bs) (after_run bs)) → (t ≡ false → P [] (b ∷ bs)) → P (cond t (b ∷ run bs) []) (cond t (after_run bs) (b ∷ bs))
    told true f g = f refl
    told false f g = g refl

pub run_after : (bs : List ℕ) → run bs ++ after_run bs ≡ bs
unfolding run after_run
run_after [] = refl
run_after (b ∷ bs) = by_first (λ x y. x ++ y ≡ b ∷ bs) b bs (λ e. ap (λ (l : List ℕ). b ∷ l) (run_after bs)) (λ e. refl)

pub run_all : (x rest : List ℕ) → all_name_bytes x ≡ true → Stops rest → (run (x ++ rest) ≡ x) × (after_run (x ++ rest) ≡ rest)
unfolding all_name_bytes
run_all [] rest e k = run_stop rest k
run_all (b ∷ x) rest e k =
    let h = (and-eq-true_iff (is_name_byte b) (all_name_bytes x)).0 e in
    let l = run_more b (x ++ rest) h.0 in
    let m = run_all x rest h.1 k in
    (l.0 ∙ ap (λ (y : List ℕ). b ∷ y) m.0, l.1 ∙ m.1)

-- a run ends where it stops
pub after_stops : (bs : List ℕ) → Stops (after_run bs)
unfolding after_run
after_stops [] = tt
after_stops (b ∷ bs) = by_first (λ x y. Stops y) b bs (λ e. after_stops bs) (λ e. e)

-- and is of name bytes
pub run_names : (bs : List ℕ) → all_name_bytes (run bs) ≡ true
unfolding run all_name_bytes
run_names [] = refl
run_names (b ∷ bs) = by_first (λ x y. all_name_bytes x ≡ true) b bs (λ e. rw (e, run_names bs)) (λ e. refl)
