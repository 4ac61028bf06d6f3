-- The place of a refusal is the leftmost faulty byte. What is open before a fault is read in the same way whatever follows, a fault in it is handed out
-- as it is, and a guard in it can be closed; the laws go along what is open, down to where a guard may begin or behind a guard. Assumes nothing.
use Rattle.refusals.specs.declared.Reason.{Reason}
use Rattle.refusals.specs.declared.Reason.TheVariants as because
use Rattle.std.proofs.Common.{◌≡◌, refl, sym, ap, subst, ◌∙◌, List, [], ◌∷◌, ◌++◌, append_assoc, inl, inr, ℕ, suc, ◌-◌, arith, length}
use Rattle.fields.specs.Bytes.{run, Stops}
use Rattle.guards.specs.Guard.{conj, Guard, never, neg, chain, choice, one, print}
use Rattle.guards.specs.Reading.{Outcome, took, faulty, after_part, parts, closed, otherwise, after_first, negated, read_guard, alone, read_whole, GoodNames}
use Rattle.guards.specs.Places.{Leftmost, LeftmostFaulty}
use Rattle.guards.proofs.RoundTrip.{EndsNamed, print_append, read_printed, read_parts}
use Rattle.guards.proofs.Faults.{Bracket, opening, asking, choosing, joining, leading, Fits, Bars, bars_same, leading_append, Printed, Alike, same_byte, Numbered, Fault, here, denying, within, behind, before, parted, printed_parted, numbered}
use Rattle.guards.proofs.Exactly.{WholeFault, faulted, trailing, JudgedWhole, judged_whole}
use Rattle.guards.proofs.Steps.{at_byte, first_fault, colon_fault, closing_fault, parts_step, part_fault}

-- ---- what follows a guard in brackets

-- what the reader does with a guard there; k is a chain's fuel
abbrev further : List (List ℕ) → ℕ → ℕ → Bracket → Outcome → Outcome
further n left k opening a = after_first (read_guard n left) a
further n left k (asking c) a = otherwise (read_guard n left) c a
further n left k (choosing c g) a = closed c g a
further n left k (joining o ps) a = after_part (parts (read_guard n left) k o) o ps a

-- what closes the brackets
abbrev closing : Bracket → List ℕ
closing opening = 38 ∷ 48 ∷ 41 ∷ []
closing (asking c) = 58 ∷ 48 ∷ 41 ∷ []
closing (choosing c g) = 41 ∷ []
closing (joining o ps) = 41 ∷ []

closing_stops : (f : Bracket) (rest : List ℕ) → Stops (closing f ++ rest)
closing_stops opening rest = refl
closing_stops (asking c) rest = refl
closing_stops (choosing c g) rest = refl
closing_stops (joining o ps) rest = refl

module _ (n : List (List ℕ)) (left k : ℕ) where
  closes : (f : Bracket) (g : Guard) (rest : List ℕ) → (h : Guard) × (further n left k f (took g (closing f ++ rest)) ≡ took h rest)
  closes opening g rest =
      let l = length (48 ∷ 41 ∷ rest) in
      (chain conj (one g) never, parts_step n left conj (one g) l (48 ∷ 41 ∷ rest) (omega arith) ∙ ap (after_part (parts (read_guard n left) (l - 1) conj) conj (one g)) (at_byte n left 48 (41 ∷ rest)))
  closes (asking c) g rest = (choice c g never, ap (closed c g) (at_byte n left 48 (41 ∷ rest)))
  closes (choosing c g) h rest = (choice c g h, refl)
  closes (joining o ps) g rest = (chain o ps g, refl)

  faulty_on : (f : Bracket) (e : Reason) (from : List ℕ) → further n left k f (faulty e from) ≡ faulty e from
  faulty_on opening e from = refl
  faulty_on (asking c) e from = refl
  faulty_on (choosing c g) e from = refl
  faulty_on (joining o ps) e from = refl

  barred : (f : Bracket) (g : Guard) (b : ℕ) (cs : List ℕ) → Bars f (b ∷ cs) → further n left k f (took g (b ∷ cs)) ≡ faulty because.BadGuard (b ∷ cs)
  barred opening g b cs q = first_fault (read_guard n left) g b cs q.0 q.1 q.2
  barred (asking c) g b cs q = colon_fault (read_guard n left) c g b cs q
  barred (choosing c g) h b cs q = closing_fault c g h b cs q
  barred (joining o ps) g b cs q = part_fault (parts (read_guard n left) k o) o ps g b cs q.0 q.1

-- the same run of name bytes, and then none
same_run : {e : Reason} (from cs : List ℕ) → Numbered e from → e ≡ because.UndeclaredName → Stops cs → Alike e from (run from ++ cs)
same_run [] cs m q s = let z = m.ended refl in cc
same_run (b ∷ bs) cs m q s = inr (q, cs, s, refl)

-- ---- what is open before a fault

module _ (n : List (List ℕ)) (good : GoodNames n) where
  -- behind what is open the reader stands where a guard may begin
  read_leading : (left : ℕ) (f : Bracket) → Fits f n left → (y : List ℕ) → (k : ℕ) × (read_guard n (suc left) (leading f n y) ≡ further n left k f (read_guard n left y))
  read_leading left opening w y = (0, at_byte n (suc left) 40 y)
  read_leading left (asking c) w y =
      (0, at_byte n (suc left) 40 (print c n (63 ∷ y)) ∙ ap (after_first (read_guard n left)) (read_printed n good c w.0 left w.1 (63 ∷ y) (λ q. refl)))
  read_leading left (choosing c g) w y = (
    0,
    at_byte n (suc left) 40 (print c n (63 ∷ print g n (58 ∷ y)))
        ∙ ap (after_first (read_guard n left)) (read_printed n good c w.0 left w.1 (63 ∷ print g n (58 ∷ y)) (λ q. refl))
        ∙ ap (otherwise (read_guard n left) c) (read_printed n good g w.2 left w.3 (58 ∷ y) (λ q. refl)),
  )
  read_leading left (joining o ps) w y =
      let r = read_parts n good ps o w.0 left w.1 y in
      (r.0 - 1, at_byte n (suc left) 40 _ ∙ r.2 ∙ parts_step n left o ps r.0 y r.1)

  -- so what is read there decides
  read_within : (left : ℕ) (f : Bracket) → Fits f n left → (x y : List ℕ) {a : Outcome} → read_guard n left (x ++ y) ≡ a → (k : ℕ) × (read_guard n (suc left) (leading f n x ++ y) ≡ further n left k f a)
  read_within left f w x y e =
      let r = read_leading left f w (x ++ y) in
      (r.0, ap (read_guard n (suc left)) (sym (leading_append n f x y)) ∙ r.1 ∙ ap (further n left r.0 f) e)

  -- a guard that was read is read again before other bytes, if these begin with no name byte where it ends in a name
  read_again : {left : ℕ} {bs rest : List ℕ} {g : Guard} → Printed n left bs g rest → (y : List ℕ) → (EndsNamed g → Stops y) → read_guard n left (print g n [] ++ y) ≡ took g y
  read_again {left} {g = g} h y s = rw (← print_append n g [] y) (read_printed n good g h.declared left h.nested y s)

  -- what begins alike is refused at the same place
  stays : {left : ℕ} {e : Reason} {bs from : List ℕ} (h : Fault n left bs e from) (y : List ℕ) → Alike e from y → read_guard n left (before h ++ y) ≡ faulty e y
  unfolding before
  stays (here m h) y q = h y q
  stays (denying {left} h) y q = at_byte n (suc left) 33 (before h ++ y) ∙ ap negated (stays h y q)
  stays (within {left} {e} f w h) y q = let r = read_within left f w (before h) y (stays h y q) in r.1 ∙ faulty_on n left r.0 f e y
  stays (behind {rest = []} f w p z) y q = absurd q
  stays (behind {left} {rest = b ∷ rest} {g = g} f w p z) y q =
      same_byte rest (λ l. read_guard n (suc left) (leading f n (print g n []) ++ l) ≡ faulty because.BadGuard l) (λ i. cc)
      (λ cs. let r = read_within left f w (print g n []) (b ∷ cs) (read_again p (b ∷ cs) p.apart) in r.1 ∙ barred n left r.0 f g b cs (bars_same f b rest cs z)) y q

  -- what stands before can be completed, whatever follows then
  completes : {left : ℕ} {e : Reason} {bs from : List ℕ} (h : Fault n left bs e from) → (c : List ℕ) × ((rest : List ℕ) → (g : Guard) × (read_guard n left (before h ++ (c ++ rest)) ≡ took g rest))
  unfolding before
  completes (here {left} m h) = (48 ∷ [], λ rest. (never, at_byte n left 48 rest))
  completes (denying {left} h) =
      let r = completes h in
      (r.0, λ rest. (neg (r.1 rest).0, at_byte n (suc left) 33 (before h ++ (r.0 ++ rest)) ∙ ap negated (r.1 rest).1))
  completes (within {left} f w h) =
      let r = completes h in (
        r.0 ++ closing f,
        λ rest.
            let s = r.1 (closing f ++ rest) in
            let t = read_within left f w (before h) (r.0 ++ (closing f ++ rest)) s.1 in
            let u = closes n left t.0 f s.0 rest in
            (u.0, rw (append_assoc r.0 (closing f) rest) (t.1 ∙ u.1)),
      )
  completes (behind {left} {g = g} f w p z) = (
    closing f,
    λ rest.
        let t = read_within left f w (print g n []) (closing f ++ rest) (read_again p (closing f ++ rest) (λ q. closing_stops f rest)) in
        let u = closes n left t.0 f g rest in
        (u.0, t.1 ∙ u.1),
  )

  -- a fault of a field
  leftmost : (x : List ℕ) {e : Reason} {from : List ℕ} → read_whole n x ≡ faulty e from → WholeFault n x e from → Leftmost n x e from
  unfolding read_whole
  leftmost x z (faulted {e} {from} h) =
      record {
        refused = z;
        before = before h;
        parted = parted h;
        completed = let r = completes h in (r.0 ++ [], (r.1 []).0, ap alone (r.1 []).1);
        stays = λ b bs q i cs. ap alone (stays h (b ∷ cs) (rw q (inl (i, cs, refl))));
        named = λ q cs s. ap alone (stays h (run from ++ cs) (same_run from cs (numbered h) q s)) ∙ ap (λ (k : Reason). faulty k (run from ++ cs)) q;
        ended = (numbered h).ended;
      }
  leftmost x z (trailing {b} {g} {rest} h) =
      record {
        refused = z;
        before = print g n [];
        parted = printed_parted h;
        completed = ([], g, ap alone (read_again h [] (λ q. tt)));
        stays = λ c bs q i cs. let y : c ≡ b = cc in rw y (ap alone (read_again h (b ∷ cs) h.apart));
        named = λ q. cc;
        ended = λ q. refl;
      }

pub leftmost_faulty : LeftmostFaulty
leftmost_faulty n good x e from q = leftmost n good x q (subst (JudgedWhole n x) q (judged_whole n x))
