-- How many fields a line has, by the places where its tabs were found: one law for `is_one`, and one for each return of `cut_two` and `cut_four`.
-- Assumes nothing.
use Rattle.std.proofs.Common.{Option, Some, None, MatchOption, ◌≡◌, Bool, true, false, not, true≢false, List, [], ◌∷◌, ℕ, ◌+◌, ◌≤◌, ◌<◌, arith, length, drop}
use Rattle.std.specs.Option.{is_some}
use Rattle.std.proofs.lemmas.Bool.{false≢true}
use Rattle.fields.specs.Bytes.{part, FirstAt}
use Rattle.fields.specs.Cutting.{fields, only, not_one, not_two, not_four, as_one, as_two, as_four, IsOne, CutsTwo, CutsFour, tabs}
use Rattle.fields.proofs.Parts.{part_rest}
use Rattle.fields.proofs.Cuts.{cut_more, cut_last, cut_some}

module _ {l : List ℕ} {b : ℕ} (q : FirstAt l 9 0 b) where
  pub one_yes : length l ≤ b → as_one (fields l) ≡ only l
  one_yes h = rw (cut_last q h)

  pub two_no : length l ≤ b → as_two (fields l) ≡ not_two
  two_no h = rw (cut_last q h)

  pub four_no : length l ≤ b → as_four (fields l) ≡ not_four
  four_no h = rw (cut_last q h)

  module _ (h : b < length l) where
    first : fields l ≡ part l 0 b ∷ fields (drop (b + 1) l)
    first = cut_more q ([] ∷ []) h

    pub one_no : as_one (fields l) ≡ not_one
    one_no = rw (first, (cut_some 9 (drop (b + 1) l)).2)

    module _ {c : ℕ} (q2 : FirstAt l 9 (b + 1) c) where
      pub two_yes : length l ≤ c → CutsTwo l (Some b)
      two_yes k = (h, rw (first, cut_last q2 k, part_rest l (b + 1)))

      pub four_two : length l ≤ c → as_four (fields l) ≡ not_four
      four_two k = rw (first, cut_last q2 k)

      module _ (k : c < length l) where
        second : fields l ≡ part l 0 b ∷ part l (b + 1) c ∷ fields (drop (c + 1) l)
        second = rw (first, cut_more q2 ([] ∷ []) k)

        pub two_more : as_two (fields l) ≡ not_two
        two_more = rw (second, (cut_some 9 (drop (c + 1) l)).2)

        module _ {d : ℕ} (q3 : FirstAt l 9 (c + 1) d) where
          pub four_three : length l ≤ d → as_four (fields l) ≡ not_four
          four_three m = rw (second, cut_last q3 m)

          module _ (m : d < length l) {f : ℕ} (q4 : FirstAt l 9 (d + 1) f) where
            third : fields l ≡ part l 0 b ∷ part l (b + 1) c ∷ part l (c + 1) d ∷ fields (drop (d + 1) l)
            third = rw (second, cut_more q3 ([] ∷ []) m)

            pub four_more : f < length l → as_four (fields l) ≡ not_four
            four_more n = rw (third, cut_more q4 ([] ∷ []) n, (cut_some 9 (drop (f + 1) l)).2)

            pub four_yes : length l ≤ f → CutsFour l (Some (tabs b c d))
            four_yes n = (omega (arith, (q2.here k).0), omega (arith, (q3.here m).0), m, rw (third, cut_last q4 n, part_rest l (d + 1)))

pub one_told : (l : List ℕ) (r : Option ℕ) (t : Bool) → is_some r ≡ not t → MatchOption r (FirstAt l 9 0 (length l)) (λ at. FirstAt l 9 0 at × (at < length l)) → IsOne l t
one_told l None true e q = one_yes q (omega arith)
one_told l None false e q = absurd (false≢true e)
one_told l (Some at) true e q = absurd (true≢false e)
one_told l (Some at) false e q = one_no q.0 q.1
