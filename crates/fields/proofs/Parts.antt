-- Parts of lists. Here positions meet lists: above these laws a place in a list is the list that is left there.
-- A part is `take` of `drop`, so each law is one on these two. Assumes nothing.
use Rattle.std.proofs.Common.{◌≡◌, ℕ, zero, suc, ◌+◌, ◌-◌, ◌<◌, ◌≤◌, List, [], ◌∷◌, ◌++◌, length, get_or, take, drop, sym, ap, ◌∙◌, add-one, arith, length-drop, take-append-drop, length-take, get_or-drop, take_all, drop-cons, get_or-take, take-suc, take-take, drop-drop}
use lib.Seq.{take-nil}
use Rattle.fields.specs.Bytes.{part}

pub headed : (s : List ℕ) (at : ℕ) → at < length s → drop at s ≡ get_or s at 0 ∷ drop (at + 1) s
headed s at h = rw add-one (drop-cons s at 0 h)

drop_take : (b n : ℕ) (l : List ℕ) → drop b (take n l) ≡ take (n - b) (drop b l)
drop_take zero n l = let z : n - 0 ≡ n = omega arith in rw z
drop_take (suc b) zero l = let z : 0 - suc b ≡ 0 = omega arith in rw z
drop_take (suc b) (suc n) [] = let z : suc n - suc b ≡ n - b = omega arith in rw z (sym (take-nil (n - b)))
drop_take (suc b) (suc n) (x ∷ l) = let z : suc n - suc b ≡ n - b = omega arith in rw z (drop_take b n l)

module _ (s : List ℕ) (a e : ℕ) where
  pub part_none : e ≤ a → part s a e ≡ []
  unfolding part
  part_none h = let z : e - a ≡ 0 = omega arith in rw z

  pub part_length : e ≤ length s → length (part s a e) ≡ e - a
  unfolding part
  part_length h = simp (length-take, length-drop) (omega arith)

  pub part_at : (i : ℕ) → i < e - a → get_or (part s a e) i 0 ≡ get_or s (a + i) 0
  unfolding part
  part_at i h = rw (get_or-take, get_or-drop)

  -- what stands behind the end counts for nothing
  pub part_over : length s ≤ e → part s a e ≡ drop a s
  unfolding part
  part_over h = take_all (e - a) (drop a s) (simp length-drop (omega arith))

  pub part_then : a ≤ e → part s a e ++ drop e s ≡ drop a s
  unfolding part
  part_then h =
      let z : a + (e - a) ≡ e = omega arith in
      ap (λ (l : List ℕ). take (e - a) (drop a s) ++ l) (sym (drop-drop (e - a) a s ∙ ap (λ (k : ℕ). drop k s) z))
      ∙ take-append-drop (e - a) (drop a s)

  pub part_snoc : a ≤ e → e < length s → part s a (e + 1) ≡ part s a e ++ (get_or s e 0 ∷ [])
  unfolding part
  part_snoc h l =
      let z : e + 1 - a ≡ suc (e - a) = omega arith in
      let y : a + (e - a) ≡ e = omega arith in
      rw z (take-suc (drop a s) (e - a) 0 (simp length-drop (omega arith)) ∙ rw (get_or-drop, y))

  pub part_part : (b c : ℕ) → c ≤ e - a → part (part s a e) b c ≡ part s (a + b) (a + c)
  unfolding part
  part_part b c h =
      let z : a + c - (a + b) ≡ c - b = omega arith in
      let l : c - b ≤ e - a - b = omega arith in
      rw (drop_take, z, take-take (c - b) (e - a - b) (drop b (drop a s)) l, drop-drop)

pub part_rest : (s : List ℕ) (at : ℕ) → part s at (length s) ≡ drop at s
part_rest s at = part_over s at (length s) (omega arith)
