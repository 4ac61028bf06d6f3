-- Spelling isn't meaning: line for line the guards hold in the same products, so each valid product has the same ways in both sheets, and with the ways go
-- depth, moves, verdicts and rows, and what the calls promise. Each law goes from one sheet to the other, and `turned` gives the way back. Assumes nothing.
use Rattle.std.proofs.Common.{Result, Ok, Err}
use mathlib.Core.Path.{◌≡◌, refl, sym, ap, subst, ◌∙◌}
use mathlib.Core.Bool.{Bool, true, false, not, ◌||◌}
use mathlib.Core.List.{List, Memᴰ}
use mathlib.Core.Logic.{inl, inr}
use Prim.Native.Nat.{ℕ}
use lib.Dec.{eqb}
use lib.ListN.{length}
use Rattle.refusals.specs.declared.Refusal.{Refusal}
use Rattle.products.specs.Sets.{bit}
use Rattle.products.specs.declared.Order.{Order}
use Rattle.products.specs.declared.Order.TheVariants.{Plainest}
use Rattle.products.specs.Orders.{Before}
use Rattle.guards.specs.Guard.{holds, parts_hold}
use Rattle.sheet.specs.Sheet.{Move, Stop, Sheet, names, is_product}
use Rattle.sheet.specs.Reading.{kept, read_sheet}
use Rattle.sheet.proofs.Accepted.{kept_refused}
use Rattle.family.specs.Ways.{Valid, Reached, Way, Fewest, Depth}
use Rattle.family.proofs.Steps.{reached_way, way_reached}
use Rattle.verdicts.specs.declared.Verdict.{Verdict}
use Rattle.verdicts.specs.declared.Verdict.TheVariants.{Dead, False, Must, May}
use Rattle.verdicts.specs.declared.StateVerdict.{StateVerdict}
use Rattle.verdicts.specs.declared.StateVerdict.TheVariants.{Unreached, End, Hidden, Live}
use Rattle.verdicts.specs.declared.StopVerdict.{StopVerdict}
use Rattle.verdicts.specs.declared.StopVerdict.TheVariants.{Untrue, Idle, True}
use Rattle.verdicts.specs.Verdicts.{Makes, MadeIn, MissedIn, FalseOptional, JudgedAs, LeadsOut, Stuck, ReachedIn, StateAs, Counted, nobody, counts, passes, Declares, UntrueIn, StopAs, Named}
use Rattle.verdicts.proofs.Agreeing.{Agree, least_as, none_as, some_as, finds_as}
use Rattle.verdicts.proofs.Meaning.{valid_product}
use Rattle.reporting.specs.Report.{MoveRows, StateRows, StopRows, IsReport}
use Rattle.normal.specs.Behaviour.{Goes, Same}
use Rattle.normal.specs.Clean.{IsClean}
use Rattle.normal.proofs.Carry.{carry}
use Rattle.calls.specs.Promise.{Filled, TooLong, Fits, OneText, nothing, ReportPromise, clean_most, CleanPromise, BothPromise}
use Rattle.calls.proofs.Promised.{kept_one, report_promise_determined, clean_promise_determined, both_promise_determined}
use Rattle.demands.specs.Respelled.{MoveAlike, StopAlike, Paired, Respelled}
use Rattle.demands.specs.Demands.{SpellingIsntMeaning, SameAnswer, BothSameAnswer, DealersGuard}

-- ---- line for line, and the other way round

module _ {A : Type 0} {P : A → A → Type 0} where
  partner : {xs ys : List A} {x : A} → Paired P xs ys → Memᴰ x xs → (y : A) × Memᴰ y ys × P x y
  partner Paired.none i = elim i [ ]
  partner (Paired.next {y = y} a l) (Memᴰ.head e) = (y, Memᴰ.head refl, rw e a)
  partner (Paired.next a l) (Memᴰ.tail i) = let z = partner l i in (z.0, Memᴰ.tail z.1, z.2)

  pairs_turned : {Q : A → A → Type 0} {xs ys : List A} → ((x y : A) → P x y → Q y x) → Paired P xs ys → Paired Q ys xs
  pairs_turned f Paired.none = Paired.none
  pairs_turned f (Paired.next {x} {y} a l) = Paired.next (f x y a) (pairs_turned f l)

module _ {r q : Sheet} (e : Respelled r q) where
  product_back : (p : ℕ) → is_product q p ≡ true → is_product r p ≡ true
  product_back p i = rw e.features i

  move_turned : {m k : Move} → MoveAlike r m k → MoveAlike q k m
  move_turned a =
      record { line = sym a.line; from = sym a.from; action = sym a.action; to = sym a.to; guard = λ p i. sym (a.guard p (product_back p i)) }

  stop_turned : {d c : Stop} → StopAlike r d c → StopAlike q c d
  stop_turned a = record { line = sym a.line; state = sym a.state; guard = λ p i. sym (a.guard p (product_back p i)) }

  turned : Respelled q r
  turned =
      record {
        features = sym e.features;
        valid = λ p i. sym (e.valid p (product_back p i));
        start = sym e.start;
        moves = pairs_turned (λ m k. move_turned) e.moves;
        stops = pairs_turned (λ d c. stop_turned) e.stops;
      }

-- ---- one valid product: it is valid in the other sheet too, has the same ways there and makes the same moves

module _ {r q : Sheet} (e : Respelled r q) {p : ℕ} (v : Valid r p) where
  valid_too : Valid q p
  valid_too = record { is = rw (← e.features, ← e.valid p (valid_product v)) v.is }

  way_too : {k s : ℕ} → Way r p k s → Way q p k s
  way_too Way.none = rw e.start Way.none
  way_too (Way.more i w h) =
      let z = partner e.moves i in
      rw z.2.to (Way.more z.1 (rw z.2.from at (way_too w)) (sym (z.2.guard p (valid_product v)) ∙ h))

  reached_too : {s : ℕ} → Reached r p s → Reached q p s
  reached_too w = way_reached (way_too (reached_way w).1)

  from_too : {m k : Move} → MoveAlike r m k → Reached r p m.from → Reached q p k.from
  from_too a w = rw (← a.from) (reached_too w)

  makes_too : {m k : Move} → MoveAlike r m k → Makes r p m → Makes q p k
  makes_too a i = record { reached = from_too a i.reached; held = sym (a.guard p (valid_product v)) ∙ i.held }

  goes_too : {f t : ℕ} {a : List ℕ} → Goes r p f a t → Goes q p f a t
  goes_too g =
      let z = partner e.moves g.there in
      record {
        move = z.0;
        there = z.1;
        from = sym z.2.from ∙ g.from;
        action = sym z.2.action ∙ g.action;
        to = sym z.2.to ∙ g.to;
        makes = makes_too z.2 g.makes;
      }

same_too : {r q : Sheet} → Respelled r q → Same r q
same_too e =
    record {
      valid = λ p v. valid_too e v;
      valid_back = λ p v. valid_too (turned e) v;
      start = e.start;
      moves = λ p f a t v g. goes_too e v g;
      moves_back = λ p f a t v g. goes_too (turned e) (valid_too e v) g;
    }

-- ---- depth: no fewer moves, here as there

fewest_too : {r q : Sheet} {p s k : ℕ} → Respelled r q → Valid r p → Fewest r p s k → Fewest q p s k
fewest_too e v f = record { way = way_too e v f.way; fewest = λ j w. f.fewest j (way_too (turned e) (valid_too e v) w) }

depth_too : {r q : Sheet} {d : ℕ} → Respelled r q → Depth r d → Depth q d
depth_too e x =
    let (p, s, v, f) = x.attained in
    record {
      largest = λ p s k v f. x.largest p s k (valid_too (turned e) v) (fewest_too (turned e) v f);
      attained = (p, s, valid_too e v, fewest_too e v f);
    }

-- ---- moves: made and missed by the same products

module _ {r q : Sheet} (e : Respelled r q) {m k : Move} (a : MoveAlike r m k) where
  made_too : (p : ℕ) → MadeIn r m p → MadeIn q k p
  made_too p i = record { valid = valid_too e i.valid; makes = makes_too e i.valid a i.makes }

  missed_too : (p : ℕ) → MissedIn r m p → MissedIn q k p
  missed_too p i =
      let v = valid_too e i.valid in
      record { valid = v; reached = from_too e i.valid a i.reached; unmade = λ x. i.unmade (makes_too (turned e) v (move_turned e a) x) }

module _ {r q : Sheet} (e : Respelled r q) {m k : Move} (a : MoveAlike r m k) where
  made_agree : Agree (MadeIn r m) (MadeIn q k)
  made_agree = record { there = made_too e a; back = made_too (turned e) (move_turned e a) }

  missed_agree : Agree (MissedIn r m) (MissedIn q k)
  missed_agree = record { there = missed_too e a; back = missed_too (turned e) (move_turned e a) }

  false_too : FalseOptional r m → FalseOptional q k
  false_too o =
      let (p, i, h) = o.fails in
      record {
        alive = some_as made_agree o.alive;
        fails = (p, product_back (turned e) p i, sym (a.guard p i) ∙ h);
        every = λ p v w. let u = valid_too (turned e) v in makes_too e u a (o.every p u (from_too (turned e) v (move_turned e a) w));
      }

  judged_too : (R : ℕ → ℕ → Type 0) (v : Verdict) → JudgedAs R r m v → JudgedAs R q k v
  judged_too R (Dead f) (n, l) = (none_as made_agree n, finds_as missed_agree R f l)
  judged_too R (False p) (o, l) = (false_too o, least_as made_agree l)
  judged_too R (Must p) (h, l) = (λ s i. let j = product_back e s i in sym (a.guard s j) ∙ h s j, least_as made_agree l)
  judged_too R (May p s) (l, n) = (least_as made_agree l, least_as missed_agree n)

-- ---- states: reached, left and stuck in by the same products, so counted alike; and the same ones are named

module _ {r q : Sheet} (e : Respelled r q) {s : ℕ} where
  reached_in_too : (p : ℕ) → ReachedIn r s p → ReachedIn q s p
  reached_in_too p i = record { valid = valid_too e i.valid; reached = reached_too e i.valid i.reached }

  out_too : {m : Move} → LeadsOut r s m → (k : Move) × LeadsOut q s k × MoveAlike r m k
  out_too o = let z = partner e.moves o.there in (z.0, record { there = z.1; source = sym z.2.from ∙ o.source }, z.2)

  some_out : (m : Move) × LeadsOut r s m → (k : Move) × LeadsOut q s k
  some_out (m, o) = let z = out_too o in (z.0, z.1)

stuck_too : {r q : Sheet} {s : ℕ} → Respelled r q → (p : ℕ) → Stuck r s p → Stuck q s p
stuck_too e p i =
    let v = valid_too e i.valid in
    record {
      valid = v;
      reached = reached_too e i.valid i.reached;
      makes_none = λ k o x. let z = out_too (turned e) o in i.makes_none z.0 z.1 (makes_too (turned e) v z.2 x);
      undeclared = λ d j f h.
          let z = partner (turned e).stops j in
          i.undeclared z.0 z.1 (sym z.2.state ∙ f) (sym (z.2.guard p (valid_product v)) ∙ h);
    }

counted_as : {P Q : ℕ → Type 0} {n k : ℕ} → Agree P Q → Counted P n k → Counted Q n k
counted_as a nobody = nobody
counted_as a (counts {n} i c) = counts (a.there n i) (counted_as a c)
counted_as a (passes {n} i c) = passes (λ j. i (a.back n j)) (counted_as a c)

module _ {r q : Sheet} (e : Respelled r q) (s : ℕ) where
  reached_agree : Agree (ReachedIn r s) (ReachedIn q s)
  reached_agree = record { there = reached_in_too e; back = reached_in_too (turned e) }

  stuck_agree : Agree (Stuck r s) (Stuck q s)
  stuck_agree = record { there = stuck_too e; back = stuck_too (turned e) }

  state_too : (R : ℕ → ℕ → Type 0) (v : StateVerdict) → StateAs R r s v → StateAs R q s v
  state_too R Unreached n = none_as reached_agree n
  state_too R End (i, n) = (some_as reached_agree i, λ k o. let z = out_too (turned e) o in n z.0 z.1)
  state_too R (Hidden p) (o, l) = (some_out e o, least_as stuck_agree l)
  state_too R Live (i, o, n) = (some_as reached_agree i, some_out e o, none_as stuck_agree n)

  named_too : Named r s → Named q s
  named_too (inl i) = inl (i ∙ e.start)
  named_too (inr (inl (m, i, inl f))) = let z = partner e.moves i in inr (inl (z.0, z.1, inl (f ∙ z.2.from)))
  named_too (inr (inl (m, i, inr f))) = let z = partner e.moves i in inr (inl (z.0, z.1, inr (f ∙ z.2.to)))
  named_too (inr (inr (d, i, f))) = let z = partner e.stops i in inr (inr (z.0, z.1, f ∙ z.2.state))

-- ---- stop lines: true and untrue of the same products

module _ {r q : Sheet} (e : Respelled r q) {d c : Stop} (a : StopAlike r d c) where
  declares_too : (p : ℕ) → Declares r d p → Declares q c p
  declares_too p i =
      record {
        valid = valid_too e i.valid;
        reached = rw (← a.state) (reached_too e i.valid i.reached);
        held = sym (a.guard p (valid_product i.valid)) ∙ i.held;
      }

  untrue_too : (p : ℕ) → UntrueIn r d p → UntrueIn q c p
  untrue_too p i =
      let z = out_too e i.out in
      record {
        declares = declares_too p i.declares;
        move = z.0;
        out = record { there = z.1.there; source = z.1.source ∙ a.state };
        makes = makes_too e i.declares.valid z.2 i.makes;
      }

module _ {r q : Sheet} (e : Respelled r q) {d c : Stop} (a : StopAlike r d c) where
  declares_agree : Agree (Declares r d) (Declares q c)
  declares_agree = record { there = declares_too e a; back = declares_too (turned e) (stop_turned e a) }

  untrue_agree : Agree (UntrueIn r d) (UntrueIn q c)
  untrue_agree = record { there = untrue_too e a; back = untrue_too (turned e) (stop_turned e a) }

  stop_too : (R : ℕ → ℕ → Type 0) (v : StopVerdict) → StopAs R r d v → StopAs R q c v
  stop_too R (Untrue p) l = least_as untrue_agree l
  stop_too R Idle n = none_as declares_agree n
  stop_too R True (i, n) = (some_as declares_agree i, none_as untrue_agree n)

-- ---- the report: the same rows, whatever the order by which the first product is found

module _ {R : ℕ → ℕ → Type 0} {r q : Sheet} (e : Respelled r q) where
  move_rows_too : {ms ks : List Move} {x : List ℕ} → Paired (MoveAlike r) ms ks → MoveRows R r ms x → MoveRows R q ks x
  move_rows_too Paired.none MoveRows.none = MoveRows.none
  move_rows_too (Paired.next a l) (MoveRows.next v j rows) = rw a.line (MoveRows.next v (judged_too e a R v j) (move_rows_too l rows))

  state_rows_too : {n : ℕ} {x : List ℕ} → StateRows R r n x → StateRows R q n x
  state_rows_too StateRows.none = StateRows.none
  state_rows_too (StateRows.named {n} v i j c rows) =
      StateRows.named v (named_too e n i) (state_too e n R v j) (counted_as (reached_agree e n) c) (state_rows_too rows)
  state_rows_too (StateRows.other {n} o rows) = StateRows.other (λ i. o (named_too (turned e) n i)) (state_rows_too rows)

  stop_rows_too : {ds cs : List Stop} {x : List ℕ} → Paired (StopAlike r) ds cs → StopRows R r ds x → StopRows R q cs x
  stop_rows_too Paired.none StopRows.none = StopRows.none
  stop_rows_too (Paired.next a l) (StopRows.next v j rows) = rw a.line (StopRows.next v (stop_too e a R v j) (stop_rows_too l rows))

  report_too : {x : List ℕ} → IsReport R r x → IsReport R q x
  report_too i =
      record {
        moves = i.moves;
        states = i.states;
        stops = i.stops;
        depth = i.depth;
        move_rows = move_rows_too e.moves i.move_rows;
        state_rows = state_rows_too i.state_rows;
        stop_rows = stop_rows_too e.stops i.stop_rows;
        is_depth = depth_too e i.is_depth;
        is = i.is;
      }

clean_too : {r q : Sheet} {x : List ℕ} → Respelled r q → IsClean r x → IsClean q x
clean_too e i = record { form = i.form; clean = carry (same_too e) (ap names e.features) i.clean; is = i.is }

pub spelling_isnt_meaning : SpellingIsntMeaning
spelling_isnt_meaning r q e = (λ o x. (report_too e, report_too (turned e)), λ x. (clean_too e, clean_too (turned e)), same_too e)

-- ---- the calls: what one promises of a sheet, it promises of the other, and promises are determined

module _ {I J : List ℕ → Type 0} (c : (x : List ℕ) → I x → J x) where
  filled_too : {most n : ℕ} {room room' : List ℕ} → Filled I most room room' n → Filled J most room room' n
  filled_too f = record { text = f.text; is = c f.text f.is; fits = f.fits; is_length = f.is_length; laid = f.laid }

  long_too : {most line : ℕ} {d : Refusal} → TooLong I most line d → TooLong J most line d
  long_too l = record { eleven = l.eleven; text = l.text; is = c l.text l.is; longer = l.longer }

  fits_too : {most : ℕ} → Fits I most → Fits J most
  fits_too f = record { text = f.text; is = c f.text f.is; fits = f.fits }

module _ (s t : List ℕ) {r q : Sheet} (e : read_sheet s ≡ kept r) (f : read_sheet t ≡ kept q) where
  -- what is so of the sheet that s is read as is so of r
  as_read : (Is : Sheet → List ℕ → Type 0) {k : Sheet} → ((x : List ℕ) → Is r x → Is q x) → read_sheet s ≡ kept k → (x : List ℕ) → Is k x → Is q x
  as_read Is c h x i = c x (subst (λ (k : Sheet). Is k x) (kept_one s h e) i)

  one_too : (Is : Sheet → List ℕ → Type 0) (most : ℕ) → ((x : List ℕ) → Is r x → Is q x) → (room x : List ℕ) (a : Result ℕ Refusal)
      → OneText nothing Is most s room x a → OneText nothing Is most t room x a
  one_too Is most c room x (Ok n) (k, h, p) = (q, f, filled_too (as_read Is c h) p)
  one_too Is most c room x (Err d) (h, inl k) = absurd (kept_refused s e k)
  one_too Is most c room x (Err d) (h, inr (k, g, inl z)) = absurd z
  one_too Is most c room x (Err d) (h, inr (k, g, inr z)) = (h, inr (q, f, inr (long_too (as_read Is c g) z)))

  both_too : ((x : List ℕ) → IsReport (Before Plainest) r x → IsReport (Before Plainest) q x) → ((x : List ℕ) → IsClean r x → IsClean q x) → (room x clean u : List ℕ) (a : Result (ℕ × ℕ) Refusal)
      → BothPromise s room x clean u a → BothPromise t room x clean u a
  both_too c d room x clean u (Ok (n, m)) (k, h, p, l) = (q, f, filled_too (as_read (IsReport (Before Plainest)) c h) p, filled_too (as_read IsClean d h) l)
  both_too c d room x clean u (Err o) (h, i, inl k) = absurd (kept_refused s e k)
  both_too c d room x clean u (Err o) (h, i, inr (k, g, inl z)) = (h, i, inr (q, f, inl (long_too (as_read (IsReport (Before Plainest)) c g) z)))
  both_too c d room x clean u (Err o) (h, i, inr (k, g, inr (w, z))) =
      (h, i, inr (q, f, inr (fits_too (as_read (IsReport (Before Plainest)) c g) w, long_too (as_read IsClean d g) z)))

pub respelled_report : (o : Order) → SameAnswer (ReportPromise o)
respelled_report o s t room x y a b r q e f z h k =
    report_promise_determined o t room x y a b (one_too s t e f (IsReport (Before o)) (length room) (λ w. report_too z) room x a h) k

pub respelled_clean : SameAnswer CleanPromise
respelled_clean s t room x y a b r q e f z h k = clean_promise_determined t room x y a b (one_too s t e f IsClean (clean_most room) (λ w. clean_too z) room x a h) k

pub respelled_both : BothSameAnswer
respelled_both s t room clean x y u v a b r q e f z h k =
    both_promise_determined t room clean x y u v a b (both_too s t e f (λ w. report_too z) (λ w. clean_too z) room x clean u a h) k

-- ---- the dealer's guard: a product has the feature or has it not

either_way : (b : Bool) → b || not b ≡ true
either_way true = refl
either_way false = refl

pub dealers_guard : DealersGuard
unfolding holds parts_hold
dealers_guard o r m f p e l = (λ q i. rw e (either_way (eqb (bit q f) 1)), l)
