-- What stands at the place of a refusal: each line that is refused tells it, each that is kept adds the name that it declares, and so the refusal of a
-- whole sheet tells it of its line. Assumes nothing.
use Rattle.std.proofs.Common.{◌≡◌, refl, sym, ap, ◌∙◌, Bool, true, false, not, ◌&&◌, ◌||◌, List, [], ◌∷◌, ◌++◌, append_assoc, ◌⊎◌, inl, inr, ⊎_elim, ℕ, suc, ◌+◌, ◌-◌, ◌^◌, ◌≤◌, arith, eq-zero-or-pos, eqb, leb, ltb, length, length-append}
use mathlib.Core.Bool.{false≢true}
use borrow.Author.Tests.{not-true, not-false, ne_eqb, le-leb}
use Rattle.refusals.specs.declared.Reason.TheVariants as because
use Rattle.refusals.specs.declared.Reason.{Reason}
use Rattle.refusals.specs.declared.Refusal.{Refusal}
use Rattle.refusals.specs.Refusal.{number_of, refusal}
use Rattle.fields.specs.Bytes.{same_bytes, is_name, is_action}
use Rattle.fields.specs.Cutting.{onto, cut, lines, fields, as_one, as_two, as_four}
use Rattle.guards.specs.Reading.{faulty, number, read_whole, GoodNames}
use Rattle.guards.proofs.Exactly.{whole_faulty}
use Rattle.guards.proofs.Leftmost.{leftmost_faulty}
use Rattle.sheet.specs.Sheet.{Sheet, names, is_valid}
use Rattle.sheet.specs.Reading.{State, Answer, refused, place_behind, is_known, moved, stopped, fts_word, feature_word, valid_word, start_word, move_word, stop_word, edition_word, fts_line, feature_line, valid_line, start_line, guarded_move, move_line, stop_line, kind_in, by_kind, by_word, read_line, none, ended, read_lines, nothing, last, read_sheet}
use Rattle.sheet.specs.Places.{LineOf, FieldAt, Concerned, FieldThere, declaring, declared_in, BeforeGuard, ByteThere}
use Rattle.sheet.specs.Places as places
use Rattle.sheet.proofs.LineKinds.{by_kind_lem}
use Rattle.sheet.proofs.Accepted.{Tells, keeps, refuses, told_kept, told_refused, told_by, told_if, told_number, told_outcome, told_on, Sound, line_told, nothing_sound}
use Rattle.sheet.proofs.Spelled.{by_one, by_two, by_four}
use Rattle.sheet.proofs.Whole.{read_long}
use Rattle.sheet.proofs.Begins.{field_begins, field_ends}

-- ---- what a refusal speaks of

-- the numbers that come with a place
abbrev has_place : ℕ → Bool
has_place e = (eqb e 4 || eqb e 9) || (leb 5 e && leb e 7)

-- a refusal of the line l, whose number is n, over the names declared above it
data Placed (names : List (List ℕ)) (n : ℕ) (l : List ℕ) : Refusal → Type 0 where
  field : {e : Reason} {before : List (List ℕ)} {x : List ℕ} → Concerned e before x → FieldAt l before x (place_behind before) → Placed names n l (refusal e n (place_behind before))
  byte : {e : Reason} {before : List (List ℕ)} {x from : List ℕ} → BeforeGuard before → FieldAt l before x (place_behind before) → read_whole names x ≡ faulty e from
      → Placed names n l (refusal e n (place_behind before + (length x - length from)))
  nowhere : {e : ℕ} → has_place e ≡ false → Placed names n l (record { number = e; line = n; place = 0 })

-- of a sheet with these lines: the sheet as a whole, or one of its lines
data Speaks (ls : List (List ℕ)) : Refusal → Type 0 where
  of_all : {e n : ℕ} → has_place e ≡ false → Speaks ls (record { number = e; line = n; place = 0 })
  of_line : {q : Refusal} (above : List (List ℕ)) (line : List ℕ) (below : List (List ℕ)) → ls ≡ above ++ line ∷ below
      → GoodNames (declared_in above []) → Placed (declared_in above []) (length above + 1) line q → Speaks ls q

-- ---- one line

-- the state u has the names of ns, and those that the line with these fields declares
record Declares (fs ns : List (List ℕ)) (u : State) : Type 0 where
  is : names u.sheet.features ≡ declaring fs ns

-- a line with another word declares no name
other_word : (w : List ℕ) (fs ns : List (List ℕ)) → same_bytes w feature_word ≡ false → ns ≡ declaring (w ∷ fs) ns
other_word w [] ns e = refl
other_word w (x ∷ []) ns e = rw e
other_word w (x ∷ y ∷ fs) ns e = refl

module _ (n at : ℕ) (st : State) (l w : List ℕ) (fs : List (List ℕ)) (is : fields l ≡ w ∷ fs) where
  abbrev Line : Answer State → Type 0
  Line a = Tells (Placed (names st.sheet.features) n l) (Declares (w ∷ fs) (names st.sheet.features)) a

  unknown : Placed (names st.sheet.features) n l (refusal because.BadLine n 0)
  unknown = nowhere refl

  many : Placed (names st.sheet.features) n l (refusal because.TooManyLines n 0)
  many = nowhere refl

  behind : {before : List (List ℕ)} {x : List ℕ} (after : List (List ℕ)) → w ∷ fs ≡ before ++ x ∷ after → FieldAt l before x (place_behind before)
  behind {before} {x} after e = field_begins l before x after (is ∙ e)

  no_name : {v : List ℕ} {u : State} → w ≡ v → same_bytes v feature_word ≡ false → names u.sheet.features ≡ names st.sheet.features
      → Declares (w ∷ fs) (names st.sheet.features) u
  no_name e f same = record { is = same ∙ other_word w fs (names st.sheet.features) (ap (λ (x : List ℕ). same_bytes x feature_word) e ∙ f) }

  fts_placed : w ≡ fts_word → Line (fts_line n st (as_one fs))
  unfolding fts_line same_bytes
  fts_placed ew =
      by_one (λ o. Line (fts_line n st o)) fs (refuses unknown)
      (λ x ef. told_if (refusal because.BadLine n 0) (not (same_bytes x edition_word)) unknown (λ t. keeps (no_name ew refl refl)))

  feature_placed : w ≡ feature_word → Line (feature_line n at st (as_one fs))
  unfolding feature_line same_bytes names
  feature_placed ew =
      by_one (λ o. Line (feature_line n at st o)) fs (refuses unknown)
      (λ x ef. let whole : w ∷ fs ≡ feature_word ∷ x ∷ [] = rw (ew, ef) in
      let b : FieldAt l (feature_word ∷ []) x (place_behind (feature_word ∷ [])) = behind [] whole in
      told_if (refusal because.TooManyLines n 0) (leb 10 (length st.sheet.features)) many
      (λ few. told_by (refusal because.BadField n (place_behind (feature_word ∷ []))) (not (is_name x)) (λ t. field (places.name (not-true (is_name x) t)) b)
      (λ good. told_if (refusal because.Repeat n (place_behind (feature_word ∷ []))) (is_known (number (names st.sheet.features) x)) (field places.of_feature b)
      (λ new. keeps (record { is = sym (ap (λ (gs : List (List ℕ)). declaring gs (names st.sheet.features)) whole) })))))

  valid_placed : w ≡ valid_word → Line (valid_line n st (as_one fs))
  unfolding valid_line same_bytes
  valid_placed ew =
      by_one (λ o. Line (valid_line n st o)) fs (refuses unknown)
      (λ x ef. told_outcome n (place_behind (valid_word ∷ [])) (names st.sheet.features) x
      (λ e from q. byte places.valid (behind [] (rw (ew, ef))) q)
      (λ g rest q. keeps (no_name ew refl refl)))

  start_placed : w ≡ start_word → Line (start_line n st (as_one fs))
  unfolding start_line same_bytes
  start_placed ew =
      by_one (λ o. Line (start_line n st o)) fs (refuses unknown)
      (λ x ef. told_number n (place_behind (start_word ∷ [])) x (λ e. field (places.start e) (behind [] (rw (ew, ef)))) (λ q e. keeps (no_name ew refl refl)))

  move_placed : w ≡ move_word → Line (move_line n at st (as_four fs))
  unfolding move_line guarded_move same_bytes
  move_placed ew =
      by_four (λ o. Line (move_line n at st o)) fs (refuses unknown)
      (λ f a t g ef. let b : FieldAt l (move_word ∷ []) f (place_behind (move_word ∷ [])) = behind (a ∷ t ∷ g ∷ []) (rw (ew, ef)) in
      told_if (refusal because.TooManyLines n 0) (leb 256 (length st.sheet.moves)) many
      (λ few. told_number n (place_behind (move_word ∷ [])) f (λ e. field (places.from e) b)
      (λ from ff. told_by (refusal because.BadField n (place_behind (move_word ∷ f ∷ []))) (not (is_action a))
      (λ no. field (places.action ff (not-true (is_action a) no)) (behind (t ∷ g ∷ []) (rw (ew, ef))))
      (λ act. told_number n (place_behind (move_word ∷ f ∷ a ∷ [])) t (λ e. field (places.to ff (not-false (is_action a) act) e) (behind (g ∷ []) (rw (ew, ef))))
      (λ to lt. told_outcome n (place_behind (move_word ∷ f ∷ a ∷ t ∷ [])) (names st.sheet.features) g
      (λ e rest q. byte (places.move {f = f} {a = a} {t = t}) (behind [] (rw (ew, ef))) q)
      (λ guard rest q. told_if (refusal because.Repeat n (place_behind (move_word ∷ []))) (moved from a to st.sheet.moves) (field places.of_move b)
      (λ new. keeps (no_name ew refl refl))))))))

  stop_placed : w ≡ stop_word → Line (stop_line n st (as_two fs))
  unfolding stop_line same_bytes
  stop_placed ew =
      by_two (λ o. Line (stop_line n st o)) fs (refuses unknown)
      (λ q g ef. let b : FieldAt l (stop_word ∷ []) q (place_behind (stop_word ∷ [])) = behind (g ∷ []) (rw (ew, ef)) in
      told_number n (place_behind (stop_word ∷ [])) q (λ e. field (places.stop e) b)
      (λ state small. told_outcome n (place_behind (stop_word ∷ q ∷ [])) (names st.sheet.features) g
      (λ e rest f. byte (places.BeforeGuard.stop {q = q}) (behind [] (rw (ew, ef))) f)
      (λ guard rest f. told_if (refusal because.Repeat n (place_behind (stop_word ∷ []))) (stopped state st.sheet.stops) (field places.of_stop b)
      (λ new. keeps (no_name ew refl refl)))))

  kind_placed : Line (by_kind (kind_in st.section w) n at st fs)
  kind_placed =
      by_kind_lem st.section w (λ k. Line (by_kind k n at st fs)) (λ e. fts_placed) (λ e. feature_placed) (λ e. valid_placed) (λ e. start_placed)
      (λ e. stop_placed) (λ e. move_placed) (refuses unknown)

line_placed : (n at : ℕ) (st : State) (l : List ℕ)
    → Tells (Placed (names st.sheet.features) n l) (Declares (fields l) (names st.sheet.features)) (read_line n at st l)
unfolding read_line
line_placed n at st l = go (fields l) refl
  where
    go : (fs : List (List ℕ)) → fields l ≡ fs → Tells (Placed (names st.sheet.features) n l) (Declares fs (names st.sheet.features)) (by_word n at st fs)
    go [] e = refuses (nowhere refl)
    go (w ∷ fs) e = kind_placed n (at + length w + 1) st l w fs e

-- ---- all lines

-- what the lines so far declare, and one line more
declared_more : (ls : List (List ℕ)) (l : List ℕ) (ns : List (List ℕ)) → declared_in (ls ++ l ∷ []) ns ≡ declaring (fields l) (declared_in ls ns)
unfolding declared_in
declared_more [] l ns = refl
declared_more (k ∷ ls) l ns = declared_more ls l (declaring (fields k) ns)

tells_both : {A : Type 0} {R S : Refusal → Type 0} {P Q : A → Type 0} {a : Answer A} → Tells R P a → Tells S Q a → Tells R (λ x. P x × Q x) a
tells_both (keeps p) t = keeps (p, told_kept t refl)
tells_both (refuses h) t = refuses h

tells_as : {A : Type 0} {R S : Refusal → Type 0} {P : A → Type 0} {a : Answer A} → ((q : Refusal) → R q → S q) → Tells R P a → Tells S P a
tells_as f (keeps p) = keeps p
tells_as f (refuses {q = q} h) = refuses (f q h)

ended_spoken : (ls : List (List ℕ)) (n : ℕ) (st : State) → Tells (Speaks ls) (λ (r : Sheet). Unit {0}) (ended n st)
unfolding ended
ended_spoken ls n st =
    told_if (refusal because.BadLine n 0) (ltb st.section 3) (of_all refl)
    (λ late. told_if (refusal because.NoValidProduct st.valid_line 0) (none (is_valid st.sheet) (2 ^ length st.sheet.features)) (of_all refl) (λ found. keeps tt))

-- behind the lines above, whose names the state has
lines_spoken : (ls all above : List (List ℕ)) (n at : ℕ) (st : State) → Sound st → all ≡ above ++ ls → n ≡ length above + 1
    → names st.sheet.features ≡ declared_in above [] → Tells (Speaks all) (λ (r : Sheet). Unit {0}) (read_lines n at st ls)
unfolding read_lines
lines_spoken [] all above n at st sound are here known = ended_spoken all n st
lines_spoken (l ∷ ls) all above n at st sound are here known =
    told_on (tells_as spoken (tells_both (line_placed n at st l) (line_told n at st sound l)))
    (λ u h. lines_spoken ls all (above ++ l ∷ []) (n + 1) (at + length l + 1) u h.1 (are ∙ sym (append_assoc above (l ∷ []) ls))
    (omega (arith, length-append above (l ∷ [])))
    (h.0.is ∙ ap (declaring (fields l)) known ∙ sym (declared_more above l [])))
  where
    spoken : (q : Refusal) → Placed (names st.sheet.features) n l q → Speaks all q
    spoken q p = of_line above l ls are (rw known at sound.limits.names) (rw (known, here) at p)

sheet_spoken : (s : List ℕ) → Tells (Speaks (lines s)) (λ (r : Sheet). Unit {0}) (read_sheet s)
unfolding read_sheet declared_in names
sheet_spoken s =
    told_if (refusal because.SheetTooLong 0 0) (ltb 65536 (length s)) (of_all refl)
    (λ few. told_if (refusal because.NoLastLineEnd 0 0) (not (eqb (last 0 s) 10)) (of_all refl)
    (λ ends. lines_spoken (lines s) (lines s) [] 1 0 nothing nothing_sound refl refl refl))

-- ---- of whole sheets

-- what a refusal says, by its number
data Said (s : List ℕ) (q : Refusal) : Type 0 where
  said_field : (q.number ≡ 4) ⊎ (q.number ≡ 9) → FieldThere s q → Said s q
  said_byte : 5 ≤ q.number → q.number ≤ 7 → ByteThere s q → Said s q
  said_nowhere : has_place q.number ≡ false → q.place ≡ 0 → Said s q

concerned_number : {e : Reason} {before : List (List ℕ)} {x : List ℕ} → Concerned e before x → (number_of e ≡ 4) ⊎ (number_of e ≡ 9)
concerned_number (places.name h) = inl refl
concerned_number (places.start h) = inl refl
concerned_number (places.from h) = inl refl
concerned_number (places.action g h) = inl refl
concerned_number (places.to f g h) = inl refl
concerned_number (places.stop h) = inl refl
concerned_number places.of_feature = inr refl
concerned_number places.of_move = inr refl
concerned_number places.of_stop = inr refl

module _ (s : List ℕ) (above : List (List ℕ)) (line : List ℕ) (below : List (List ℕ)) (are : lines s ≡ above ++ line ∷ below) (good : GoodNames (declared_in above [])) where
  of_it : LineOf s (length above + 1)
  of_it = record { above = above; line = line; below = below; are = are; numbered = refl }

  line_said : {q : Refusal} → Placed (declared_in above []) (length above + 1) line q → Said s q
  unfolding of_it
  line_said (field {e} {before} {x} c b) = said_field (concerned_number c) (record { of = of_it; why = e; told = refl; before = before; field = x; concerned = c; begins = b })
  line_said (byte {e} {before} {x} {from} g b f) =
      let (low, high, r) = whole_faulty (declared_in above []) x f in
      let h = leftmost_faulty (declared_in above []) good x e from f in
      said_byte low high
      (record {
        of = of_it;
        why = e;
        told = refl;
        before = before;
        guarded = g;
        guard = x;
        p = place_behind before;
        begins = b;
        from = from;
        leftmost = h;
        there = let k : length x ≡ length h.before + length from = ap length h.parted ∙ length-append h.before from in omega arith;
      })
  line_said (nowhere e) = said_nowhere e refl

said : (s : List ℕ) {q : Refusal} → Speaks (lines s) q → Said s q
said s (of_all e) = said_nowhere e refl
said s (of_line above line below are good p) = line_said s above line below are good p

module _ (s : List ℕ) {q : Refusal} (e : read_sheet s ≡ refused q) where
  it_says : Said s q
  it_says = said s (told_refused (sheet_spoken s) e)

  -- 4 and 9: the field concerned begins at the place
  pub refused_field : (q.number ≡ 4) ⊎ (q.number ≡ 9) → FieldThere s q
  refused_field h = go it_says
    where
      go : Said s q → FieldThere s q
      go (said_field k f) = f
      go (said_byte l m f) = absurd (⊎_elim (λ z. omega arith) (λ z. omega arith) h)
      go (said_nowhere z p) = absurd (⊎_elim (λ k. false≢true (sym z ∙ ap has_place k)) (λ k. false≢true (sym z ∙ ap has_place k)) h)

  -- 5 to 7: the leftmost faulty byte of a field stands there
  pub refused_byte : 5 ≤ q.number → q.number ≤ 7 → ByteThere s q
  refused_byte l m = go it_says
    where
      go : Said s q → ByteThere s q
      go (said_field k f) = absurd (⊎_elim (λ z. omega arith) (λ z. omega arith) k)
      go (said_byte l m f) = f
      go (said_nowhere z p) =
          let t : has_place q.number ≡ true = rw (ne_eqb q.number 4 (λ k. omega arith), ne_eqb q.number 9 (λ k. omega arith), le-leb 5 q.number l, le-leb q.number 7 m) in
          absurd (false≢true (sym z ∙ t))

  -- "all others 0"
  pub refused_nowhere : (q.number ≡ 4 → ⊥) → (q.number ≡ 9 → ⊥) → (5 ≤ q.number → q.number ≤ 7 → ⊥) → q.place ≡ 0
  refused_nowhere four nine between = go it_says
    where
      go : Said s q → q.place ≡ 0
      go (said_field k f) = absurd (⊎_elim four nine k)
      go (said_byte l m f) = absurd (between l m)
      go (said_nowhere z p) = p

  -- a place is at most one past its line's last byte
  pub refused_there : (q.place ≡ 0) ⊎ ((l : LineOf s q.line) × (q.place ≤ length l.line + 1))
  refused_there = go it_says
    where
      go : Said s q → (q.place ≡ 0) ⊎ ((l : LineOf s q.line) × (q.place ≤ length l.line + 1))
      go (said_field k f) = inr (f.of, omega (arith, field_ends f.begins))
      go (said_byte l m f) =
          let there = f.there in
          let k : length f.guard ≡ length f.leftmost.before + length f.from = ap length f.leftmost.parted ∙ length-append f.leftmost.before f.from in
          inr (f.of, omega (arith, field_ends f.begins))
      go (said_nowhere z p) = inl p

-- ---- a place is a small number: no line is longer than its sheet

abbrev AllTo : ℕ → List (List ℕ) → Type 0
AllTo k [] = Unit {0}
AllTo k (l ∷ ls) = (length l ≤ k) × AllTo k ls

to_more : (k : ℕ) (ls : List (List ℕ)) → AllTo k ls → AllTo (suc k) ls
to_more k [] h = tt
to_more k (l ∷ ls) h = (omega (arith, h.0), to_more k ls h.1)

onto_to : (k : ℕ) (t : Bool) (b : ℕ) (ls : List (List ℕ)) → AllTo k ls → AllTo (suc k) (onto t b ls)
onto_to k true b ls h = (omega arith, to_more k ls h)
onto_to k false b [] h = (omega arith, tt)
onto_to k false b (l ∷ ls) h = (omega (arith, h.0), to_more k ls h.1)

lines_to : (s : List ℕ) → AllTo (length s) (lines s)
unfolding cut
lines_to [] = tt
lines_to (b ∷ s) = onto_to (length s) (eqb b 10) b (lines s) (lines_to s)

to_this : (k : ℕ) (above : List (List ℕ)) (l : List ℕ) (below : List (List ℕ)) → AllTo k (above ++ l ∷ below) → length l ≤ k
to_this k [] l below h = h.0
to_this k (x ∷ above) l below h = to_this k above l below h.1

line_to : (s : List ℕ) {n : ℕ} (l : LineOf s n) → length l.line ≤ length s
line_to s l = to_this (length s) l.above l.line l.below (rw l.are at (lines_to s))

-- a refusal's place
pub refused_place : (s : List ℕ) {q : Refusal} → read_sheet s ≡ refused q → q.place ≤ 65537
refused_place s {q} e =
    ⊎_elim (λ (short : length s - 65536 ≡ 0). ⊎_elim (λ z. omega arith) (λ h. omega (arith, h.1, line_to s h.0)) (refused_there s e))
    (λ long. let f = read_long s (omega arith) in let z : refusal because.SheetTooLong 0 0 ≡ q = cc in omega (arith, ap (λ (p : Refusal). p.place) z))
    (eq-zero-or-pos (length s - 65536))
