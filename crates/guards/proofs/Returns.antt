-- What each return of the readers shows, over plain lists and numbers: one law for each return. A place in the field meets the list that is left
-- there in `at_end` and `at_next`; from there the step of the reader on lists does the rest. Assumes nothing.
use Rattle.refusals.specs.declared.Reason.{Reason}
use Rattle.refusals.specs.declared.Reason.TheVariants as because
use Rattle.std.proofs.Common.{Option, Some, None, Result, Ok, Err, IsErrAnd, ◌≡◌, refl, sym, ap, ◌∙◌, true, false, List, [], ◌∷◌, ℕ, ◌+◌, ◌-◌, ◌≤◌, ◌<◌, arith, length, get_or, take, drop, length-drop, drop_of_length-le, replicate}
use Rattle.std.proofs.lemmas.Result.{err_from_is_err_and}
use Rattle.fields.specs.Bytes.{part, is_letter, run, RunEnd}
use Rattle.fields.proofs.Parts.{headed, part_none, part_rest}
use Rattle.guards.specs.declared.Fault.{Fault}
use Rattle.guards.specs.Guard.{Operator, Guard, never, always, feature, neg, chain, choice, Parts, one, more, byte_of, Means, PartsMean}
use Rattle.guards.specs.Reading.{Outcome, took, faulty, Kind, name_kind, no_kind, kind, number, known, named, after_part, parts, closed, otherwise, after_first, negated, by_kind, read_guard, alone, read_whole, fault, Follows, Reads}
use Rattle.guards.proofs.Meanings.{parts_mean_chain, mean_one}
use Rattle.guards.proofs.Steps.{level, at_nothing, at_byte, denied_deep, opened_deep, denied_less, opened_less, kind_name, kind_none, first_choice, first_chain, first_fault, colon, colon_fault, closing, closing_fault, parts_step, part_last, part_more, part_fault}

-- ---- from the code's answer to the outcome, and back

none_left : (s : List ℕ) {at : ℕ} → at ≡ length s → drop at s ≡ []
none_left s e = drop_of_length-le s (omega arith)

-- a guard was taken up to `next`, or something is refused as x says
abbrev Taken : List ℕ → ℕ → ℕ → List ℕ → Outcome → Type 0
Taken s at next set a = Follows s at (Ok next) set a

abbrev Faulted : List ℕ → Fault → Outcome → Type 0
Faulted s x a = (x.at ≤ length s) × (a ≡ faulty x.reason (drop x.at s))

-- what `set_joined` promises
abbrev Joins : ℕ → List ℕ → List ℕ → List ℕ → Type 0
Joins op a b out = (o : Operator) (ps : Parts) (g : Guard) → op ≡ byte_of o → PartsMean a o ps → Means b g → PartsMean out o (more ps g)

module _ (s : List ℕ) (at : ℕ) (a : Outcome) where
  refuses : {q : Result ℕ Fault} (to : List ℕ) {e : Reason} {place : ℕ} → q ≡ Err (fault e place) → place ≤ length s → a ≡ faulty e (drop place s) → Follows s at q to a
  refuses to z l k = rw z (l, k)

  -- the answer of a later place is the whole's, where the outcomes are equal
  later : (at' : ℕ) (r : Result ℕ Fault) (set : List ℕ) {a' : Outcome} → at ≤ at' → a ≡ a' → Follows s at' r set a' → Follows s at r set a
  later at' (Ok next) set l e (g, m, k, q, w) = (g, omega arith, k, e ∙ q, w)
  later at' (Err x) set l e (k, h) = (k, e ∙ h)

-- ---- the chain's loop: what is left to read are parts behind others, which the set so far means

-- the parts of a chain from a place on, behind those before
abbrev pub linked : List ℕ → List (List ℕ) → ℕ → ℕ → Operator → Parts → Outcome
linked s n left from o ps = parts (read_guard n left) (length (drop from s)) o ps (drop from s)

-- the parts qs are behind, and enough bytes are counted
pub record Rest (s : List ℕ) (n : List (List ℕ)) (left from at : ℕ) (set : List ℕ) (o : Operator) (ps : Parts) : Type 0 where
  pub before : Parts
  pub count : ℕ
  pub enough : length (drop at s) ≤ count
  pub same : linked s n left from o ps ≡ parts (read_guard n left) count o before (drop at s)
  pub means : PartsMean set o before

pub record Chained (s : List ℕ) (n : List (List ℕ)) (left op from : ℕ) (first : List ℕ) (at : ℕ) (set : List ℕ) : Type 0 where
  pub low : from ≤ at
  pub high : at ≤ length s
  pub rest : (o : Operator) (ps : Parts) → op ≡ byte_of o → PartsMean first o ps → Rest s n left from at set o ps

pub chained_none : (s : List ℕ) (n : List (List ℕ)) (left op from : ℕ) (first : List ℕ) → from ≤ length s → Chained s n left op from first from first
chained_none s n left op from first l =
    record {
      low = omega arith;
      high = l;
      rest = λ o ps e m. record { before = ps; count = length (drop from s); enough = omega arith; same = refl; means = m };
    }

fuel_less : (s : List ℕ) (at next k : ℕ) → length (drop at s) ≤ k → at < next → next < length s → length (drop (next + 1) s) ≤ k - 1
fuel_less s at next k h l m = omega (arith, length-drop at s, length-drop (next + 1) s)

-- ---- a fault in a guard is handed on by `?`, whatever stands in the sets

module _ (s : List ℕ) (n : List (List ℕ)) (left at : ℕ) {x : Fault} (ih : Faulted s x (read_guard n left (drop at s))) (r : Result ℕ Fault) (e : IsErrAnd r (λ y. y ≡ x)) where
  handed_on : (at' : ℕ) (a : Outcome) (f : Outcome → Outcome) → a ≡ f (read_guard n left (drop at s)) → ((e : Reason) (bs : List ℕ) → f (faulty e bs) ≡ faulty e bs) → (to : List ℕ) → Follows s at' r to a
  handed_on at' a f i u to = let p = err_from_is_err_and r e in rw (p.1, p.2) (ih.0, i ∙ ap f ih.1 ∙ u x.reason (drop x.at s))

  pub open_up : (to : List ℕ) → Follows s at r to (after_first (read_guard n left) (read_guard n left (drop at s)))
  open_up = handed_on at _ (after_first (read_guard n left)) refl (λ e bs. refl)

  pub first_up : (c : Guard) (to : List ℕ) → Follows s at r to (otherwise (read_guard n left) c (read_guard n left (drop at s)))
  first_up c = handed_on at _ (otherwise (read_guard n left) c) refl (λ e bs. refl)

  pub chain_up : (op from : ℕ) (first sofar : List ℕ) → Chained s n left op from first at sofar → (to : List ℕ) (o : Operator) (ps : Parts) → op ≡ byte_of o → PartsMean first o ps → Follows s from r to (linked s n left from o ps)
  chain_up op from first sofar i to o ps is m =
      let d = i.rest o ps is m in
      handed_on from _ (after_part (parts (read_guard n left) (d.count - 1) o) o d.before) (d.same ∙ parts_step n left o d.before d.count (drop at s) d.enough) (λ e bs. refl) to

-- ---- behind a guard that was read from `at` to `next`

module _ (s : List ℕ) (n : List (List ℕ)) (left at : ℕ) (set : List ℕ) {next : ℕ} (it : Taken s at next set (read_guard n left (drop at s))) where
  inside_of : (next ≡ length s → ⊥) → next < length s
  inside_of f = let m = it.2 in omega arith

  -- what a step makes of the guard, at the end and at a byte
  at_end : (f : Outcome → Outcome) → next ≡ length s → f (read_guard n left (drop at s)) ≡ f (took it.0 [])
  at_end f e = ap f (it.3 ∙ ap (took it.0) (none_left s e))

  at_next : (f : Outcome → Outcome) → (next ≡ length s → ⊥) → f (read_guard n left (drop at s)) ≡ f (took it.0 (get_or s next 0 ∷ drop (next + 1) s))
  at_next f e = ap f (it.3 ∙ ap (took it.0) (headed s next (inside_of e)))

  -- the answers at the end, and at a byte that does not fit
  end_fault : (at' : ℕ) (a : Outcome) (f : Outcome → Outcome) → a ≡ f (read_guard n left (drop at s)) → f (took it.0 []) ≡ faulty because.BadGuard []
      → (q : Result ℕ Fault) (to : List ℕ) → next ≡ length s → q ≡ Err (fault because.BadGuard next) → Follows s at' q to a
  end_fault at' a f i u q to e z =
      refuses s at' a to z it.2 (i ∙ at_end f e ∙ u ∙ ap (faulty because.BadGuard) (sym (none_left s e)))

  byte_fault : (at' : ℕ) (a : Outcome) (f : Outcome → Outcome) → a ≡ f (read_guard n left (drop at s))
      → (q : Result ℕ Fault) (to : List ℕ) → (e : next ≡ length s → ⊥) → f (took it.0 (get_or s next 0 ∷ drop (next + 1) s)) ≡ faulty because.BadGuard (get_or s next 0 ∷ drop (next + 1) s)
      → q ≡ Err (fault because.BadGuard next) → Follows s at' q to a
  byte_fault at' a f i q to e u z = refuses s at' a to z it.2 (i ∙ at_next f e ∙ u ∙ ap (faulty because.BadGuard) (sym (headed s next (inside_of e))))

  -- read_open
  abbrev opens : Outcome
  opens = after_first (read_guard n left) (read_guard n left (drop at s))

  pub open_end : (q : Result ℕ Fault) (to : List ℕ) → next ≡ length s → q ≡ Err (fault because.BadGuard next) → Follows s at q to opens
  open_end = end_fault at opens (after_first (read_guard n left)) refl refl

  pub open_choice : (q : Result ℕ Fault) (to : List ℕ) → (next ≡ length s → ⊥) → get_or s next 0 ≡ 63
      → ((c : Guard) → Means set c → Follows s (next + 1) q to (otherwise (read_guard n left) c (read_guard n left (drop (next + 1) s)))) → Follows s at q to opens
  open_choice q to e b w =
      later s at opens (next + 1) q to (omega (arith, it.1))
      (at_next (after_first (read_guard n left)) e ∙ first_choice (read_guard n left) it.0 (get_or s next 0) (drop (next + 1) s) b) (w it.0 it.4)

  pub open_chain : (o : Operator) (q : Result ℕ Fault) (to : List ℕ) → (next ≡ length s → ⊥) → get_or s next 0 ≡ byte_of o
      → ((o : Operator) (ps : Parts) → get_or s next 0 ≡ byte_of o → PartsMean set o ps → Follows s (next + 1) q to (linked s n left (next + 1) o ps)) → Follows s at q to opens
  open_chain o q to e b w =
      later s at opens (next + 1) q to (omega (arith, it.1))
      (at_next (after_first (read_guard n left)) e ∙ first_chain (read_guard n left) it.0 (get_or s next 0) (drop (next + 1) s) o b)
      (w o (one it.0) b (mean_one set o it.0 it.4))

  pub open_fault : (q : Result ℕ Fault) (to : List ℕ) → (next ≡ length s → ⊥) → (get_or s next 0 ≡ 63 → ⊥) → (get_or s next 0 ≡ 38 → ⊥) → (get_or s next 0 ≡ 124 → ⊥)
      → q ≡ Err (fault because.BadGuard next) → Follows s at q to opens
  open_fault q to e h0 h1 h2 =
      byte_fault at opens (after_first (read_guard n left)) refl q to e (first_fault (read_guard n left) it.0 (get_or s next 0) (drop (next + 1) s) h0 h1 h2)

  -- read_choice
  module _ (c : Guard) where
    abbrev chooses : Outcome
    chooses = otherwise (read_guard n left) c (read_guard n left (drop at s))

    pub choice_end : (q : Result ℕ Fault) (to : List ℕ) → next ≡ length s → q ≡ Err (fault because.BadGuard next) → Follows s at q to chooses
    choice_end = end_fault at chooses (otherwise (read_guard n left) c) refl refl

    pub choice_fault : (q : Result ℕ Fault) (to : List ℕ) → (next ≡ length s → ⊥) → (get_or s next 0 ≡ 58 → ⊥) → q ≡ Err (fault because.BadGuard next) → Follows s at q to chooses
    choice_fault q to e b = byte_fault at chooses (otherwise (read_guard n left) c) refl q to e (colon_fault (read_guard n left) c it.0 (get_or s next 0) (drop (next + 1) s) b)

  -- read_chain, where `at` is the place of a part
  module _ (op from : ℕ) (first sofar : List ℕ) (i : Chained s n left op from first at sofar) (o : Operator) (ps : Parts) (is : op ≡ byte_of o) (m : PartsMean first o ps) where
    abbrev rest : Rest s n left from at sofar o ps
    rest = i.rest o ps is m

    abbrev step : Outcome → Outcome
    step a = after_part (parts (read_guard n left) (rest.count - 1) o) o rest.before a

    stepped : linked s n left from o ps ≡ step (read_guard n left (drop at s))
    stepped = rest.same ∙ parts_step n left o rest.before rest.count (drop at s) rest.enough

    pub chain_end : (q : Result ℕ Fault) (to : List ℕ) → next ≡ length s → q ≡ Err (fault because.BadGuard next) → Follows s from q to (linked s n left from o ps)
    chain_end = end_fault from (linked s n left from o ps) step stepped refl

    pub chain_fault : (q : Result ℕ Fault) (to : List ℕ) → (next ≡ length s → ⊥) → (get_or s next 0 ≡ 41 → ⊥) → (get_or s next 0 ≡ op → ⊥)
        → q ≡ Err (fault because.BadGuard next) → Follows s from q to (linked s n left from o ps)
    chain_fault q to e b c =
        byte_fault from (linked s n left from o ps) step stepped q to e
        (part_fault (parts (read_guard n left) (rest.count - 1) o) o rest.before it.0 (get_or s next 0) (drop (next + 1) s) b (λ d. c (d ∙ sym is)))

    pub chain_done : (to : List ℕ) → (next ≡ length s → ⊥) → get_or s next 0 ≡ 41 → Joins op sofar set to
        → Follows s from (Ok (next + 1)) to (linked s n left from o ps)
    chain_done to e b w =
        let low = i.low in (
          chain o rest.before it.0,
          omega (arith, it.1),
          omega (arith, inside_of e),
          stepped ∙ at_next step e ∙ part_last (parts (read_guard n left) (rest.count - 1) o) o rest.before it.0 (get_or s next 0) (drop (next + 1) s) b,
          parts_mean_chain to o rest.before it.0 (w o rest.before it.0 is rest.means it.4),
        )

    more_rest : (out : List ℕ) → (next ≡ length s → ⊥) → (get_or s next 0 ≡ 41 → ⊥) → get_or s next 0 ≡ op → Joins op sofar set out
        → Rest s n left from (next + 1) out o ps
    more_rest out e b c w =
        record {
          before = more rest.before it.0;
          count = rest.count - 1;
          enough = fuel_less s at next rest.count rest.enough it.1 (inside_of e);
          same = stepped ∙ at_next step e ∙ part_more (parts (read_guard n left) (rest.count - 1) o) o rest.before it.0 (get_or s next 0) (drop (next + 1) s) b (c ∙ is);
          means = w o rest.before it.0 is rest.means it.4;
        }

  pub chain_more : (op from : ℕ) (first sofar : List ℕ) → Chained s n left op from first at sofar → (out : List ℕ) → (next ≡ length s → ⊥)
      → (get_or s next 0 ≡ 41 → ⊥) → get_or s next 0 ≡ op → Joins op sofar set out
      → Chained s n left op from first (next + 1) out
  chain_more op from first sofar i out e b c w =
      let low = i.low in
      record {
        low = omega (arith, it.1);
        high = omega (arith, inside_of e);
        rest = λ o ps is m. more_rest op from first sofar i o ps is m out e b c w;
      }

-- ---- behind the second guard of a choice, read from `next + 1`

module _ (s : List ℕ) (n : List (List ℕ)) (left at : ℕ) (set : List ℕ) {next : ℕ} (i : Taken s at next set (read_guard n left (drop at s)))
    (c : Guard) (e : next ≡ length s → ⊥) (b : get_or s next 0 ≡ 58) where
  second : chooses s n left at set i c ≡ closed c i.0 (read_guard n left (drop (next + 1) s))
  second = at_next s n left at set i (otherwise (read_guard n left) c) e ∙ colon (read_guard n left) c i.0 (get_or s next 0) (drop (next + 1) s) b

  pub second_up : {x : Fault} → Faulted s x (read_guard n left (drop (next + 1) s)) → (r : Result ℕ Fault) → IsErrAnd r (λ y. y ≡ x) → (to : List ℕ) → Follows s at r to (chooses s n left at set i c)
  second_up ih r z = handed_on s n left (next + 1) ih r z at _ (closed c i.0) second (λ e bs. refl)

  module _ (to : List ℕ) {end : ℕ} (j : Taken s (next + 1) end to (read_guard n left (drop (next + 1) s))) where
    pub choice_stop : (q : Result ℕ Fault) (out : List ℕ) → end ≡ length s → q ≡ Err (fault because.BadGuard end) → Follows s at q out (chooses s n left at set i c)
    choice_stop = end_fault s n left (next + 1) to j at (chooses s n left at set i c) (closed c i.0) second refl

    pub choice_open : (q : Result ℕ Fault) (out : List ℕ) → (end ≡ length s → ⊥) → (get_or s end 0 ≡ 41 → ⊥) → q ≡ Err (fault because.BadGuard end) → Follows s at q out (chooses s n left at set i c)
    choice_open q out d f =
        byte_fault s n left (next + 1) to j at (chooses s n left at set i c) (closed c i.0) second q out d
        (closing_fault c i.0 j.0 (get_or s end 0) (drop (end + 1) s) f)

    pub choice_done : (out : List ℕ) → (end ≡ length s → ⊥) → get_or s end 0 ≡ 41
        → ((g h : Guard) → Means set g → Means to h → Means out (choice c g h)) → Follows s at (Ok (end + 1)) out (chooses s n left at set i c)
    choice_done out d f w = (
      choice c i.0 j.0,
      omega (arith, i.1, j.1),
      omega (arith, inside_of s n left (next + 1) to j d),
      second ∙ at_next s n left (next + 1) to j (closed c i.0) d ∙ closing c i.0 j.0 (get_or s end 0) (drop (end + 1) s) f,
      w i.0 j.0 i.4 j.4,
    )

-- ---- read_guard and read_plain

-- a slice taken anew is the slice
whole : (s : List ℕ) → take (length s - 0) s ≡ s
unfolding part
whole s = part_rest s 0

-- so what is shown of the field taken anew is shown of it as it came
pub anew : (n : List (List ℕ)) (field : List ℕ) (left at : ℕ) (q : Result ℕ Fault) (to : List ℕ)
    → Follows (take (length field - 0) field) at q to (read_guard n left (drop at (take (length field - 0) field)))
    → Follows field at q to (read_guard n left (drop at field))
anew n field left at q to w = simp whole at w

pub guard_end : (s : List ℕ) (n : List (List ℕ)) (left at : ℕ) (q : Result ℕ Fault) (to : List ℕ) → at ≡ length s → q ≡ Err (fault because.BadGuard at) → Follows s at q to (read_guard n left (drop at s))
guard_end s n left at q to e z =
    let d : drop at s ≡ [] = none_left s e in
    refuses s at (read_guard n left (drop at s)) to z (omega arith) (ap (read_guard n left) d ∙ at_nothing n left ∙ ap (faulty because.BadGuard) (sym d))

module _ (s : List ℕ) (n : List (List ℕ)) (left at : ℕ) (here : at < length s) where
  abbrev begun : Outcome
  begun = read_guard n left (drop at s)

  headed_by : (b : ℕ) → get_or s at 0 ≡ b → drop at s ≡ b ∷ drop (at + 1) s
  headed_by b e = headed s at here ∙ ap (λ (x : ℕ). x ∷ drop (at + 1) s) e

  begun_by : (b : ℕ) → get_or s at 0 ≡ b → begun ≡ by_kind n (level n left) (kind b) b (drop (at + 1) s)
  begun_by b e = ap (read_guard n left) (headed_by b e) ∙ at_byte n left b (drop (at + 1) s)

  pub guard_never : (to : List ℕ) → get_or s at 0 ≡ 48 → Means to never → Follows s at (Ok (at + 1)) to begun
  guard_never to e m = (never, omega arith, omega arith, begun_by 48 e, m)

  pub guard_always : (to : List ℕ) → get_or s at 0 ≡ 49 → Means to always → Follows s at (Ok (at + 1)) to begun
  guard_always to e m = (always, omega arith, omega arith, begun_by 49 e, m)

  denies : get_or s at 0 ≡ 33 → (left ≡ 0 → ⊥) → begun ≡ negated (read_guard n (left - 1) (drop (at + 1) s))
  denies e d = begun_by 33 e ∙ denied_less n left (33 ∷ drop (at + 1) s) (drop (at + 1) s) d

  pub not_done : (set to : List ℕ) {next : ℕ} → get_or s at 0 ≡ 33 → (left ≡ 0 → ⊥) → Taken s (at + 1) next set (read_guard n (left - 1) (drop (at + 1) s)) → ((g : Guard) → Means set g → Means to (neg g)) → Follows s at (Ok next) to begun
  not_done set to e d k v = (neg k.0, omega (arith, k.1), k.2, denies e d ∙ ap negated k.3, v k.0 k.4)

  module _ (q : Result ℕ Fault) (to : List ℕ) where
    pub not_deep : get_or s at 0 ≡ 33 → left ≡ 0 → q ≡ Err (fault because.NestedTooDeep at) → Follows s at q to begun
    not_deep e d z =
        refuses s at begun to z (omega arith) (begun_by 33 e ∙ denied_deep n left (33 ∷ drop (at + 1) s) (drop (at + 1) s) d ∙ ap (faulty because.NestedTooDeep) (sym (headed_by 33 e)))

    pub open_deep : get_or s at 0 ≡ 40 → left ≡ 0 → q ≡ Err (fault because.NestedTooDeep at) → Follows s at q to begun
    open_deep e d z =
        refuses s at begun to z (omega arith) (begun_by 40 e ∙ opened_deep n left (40 ∷ drop (at + 1) s) (drop (at + 1) s) d ∙ ap (faulty because.NestedTooDeep) (sym (headed_by 40 e)))

    pub not_up : {x : Fault} → get_or s at 0 ≡ 33 → (left ≡ 0 → ⊥) → IsErrAnd q (λ y. y ≡ x) → Faulted s x (read_guard n (left - 1) (drop (at + 1) s)) → Follows s at q to begun
    not_up e d z ih = handed_on s n (left - 1) (at + 1) ih q z at begun negated (denies e d) (λ e bs. refl) to

    pub open_done : get_or s at 0 ≡ 40 → (left ≡ 0 → ⊥)
        → Follows s (at + 1) q to (after_first (read_guard n (left - 1)) (read_guard n (left - 1) (drop (at + 1) s))) → Follows s at q to begun
    open_done e d w =
        later s at begun (at + 1) q to (omega arith) (begun_by 40 e ∙ opened_less n left (40 ∷ drop (at + 1) s) (drop (at + 1) s) d) w

  module _ (h0 : get_or s at 0 ≡ 48 → ⊥) (h1 : get_or s at 0 ≡ 49 → ⊥) (h2 : get_or s at 0 ≡ 33 → ⊥) (h3 : get_or s at 0 ≡ 40 → ⊥) where
    begun_kind : (t : Kind) → kind (get_or s at 0) ≡ t → begun ≡ by_kind n (level n left) t (get_or s at 0) (drop (at + 1) s)
    begun_kind t e = begun_by (get_or s at 0) refl ∙ ap (λ (x : Kind). by_kind n (level n left) x (get_or s at 0) (drop (at + 1) s)) e

    pub guard_fault : (q : Result ℕ Fault) (to : List ℕ) → is_letter (get_or s at 0) ≡ false → q ≡ Err (fault because.BadGuard at) → Follows s at q to begun
    guard_fault q to e z =
        refuses s at begun to z (omega arith) (begun_kind no_kind (kind_none (get_or s at 0) h0 h1 h2 h3 e) ∙ ap (faulty because.BadGuard) (sym (headed s at here)))

    pub guard_named : (q : Result ℕ Fault) (to : List ℕ) → is_letter (get_or s at 0) ≡ true
        → (is_letter (get_or s at 0) ≡ true → Follows s at q to (named n (drop at s))) → Follows s at q to begun
    guard_named q to e w =
        rw
        (begun_kind name_kind (kind_name (get_or s at 0) h0 h1 h2 h3 e) ∙ ap (named n) (sym (headed s at here)))
        (w e)

-- ---- read_name

-- a run that begins with a letter has a byte
run_letter : (b : ℕ) (bs : List ℕ) → is_letter b ≡ true → run (b ∷ bs) ≡ b ∷ run bs
unfolding run
run_letter b bs e = rw e

run_some : (s : List ℕ) (at end : ℕ) → at < length s → is_letter (get_or s at 0) ≡ true → RunEnd s at end → at < end
run_some s at end l t w =
    let f : end ≤ at → ⊥ =
    λ m. let e : [] ≡ get_or s at 0 ∷ run (drop (at + 1) s) = sym (part_none s at end m) ∙ w.inside ∙ ap run (headed s at l) ∙ run_letter (get_or s at 0) (drop (at + 1) s) t in cc in
    omega arith

module _ (s : List ℕ) (n : List (List ℕ)) (at : ℕ) (here : at < length s) {end : ℕ} (w : RunEnd s at end) {f : Option ℕ} (v : f ≡ number n (take (end - at) (drop at s))) where
  looked : named n (drop at s) ≡ known f (drop at s) (drop end s)
  unfolding part
  looked = rw (← w.inside, ← w.after, v)

  pub name_unknown : (q : Result ℕ Fault) (to : List ℕ) → f ≡ None → q ≡ Err (fault because.UndeclaredName at) → Follows s at q to (named n (drop at s))
  name_unknown q to e z = refuses s at (named n (drop at s)) to z (omega arith) (looked ∙ ap (λ (x : Option ℕ). known x (drop at s) (drop end s)) e)

  pub name_known : (to : List ℕ) {i : ℕ} → is_letter (get_or s at 0) ≡ true → f ≡ Some i → Means to (feature i) → Follows s at (Ok end) to (named n (drop at s))
  name_known to {i} t e m = (feature i, run_some s at end here t w, w.high, looked ∙ ap (λ (x : Option ℕ). known x (drop at s) (drop end s)) e, m)

-- ---- read_whole: a refusal leaves the empty set

module _ (s : List ℕ) (n : List (List ℕ)) (r : Result ℕ Fault) (set : List ℕ) where
  pub whole_up : {x : Fault} → r ≡ Err x → Follows s 0 r set (read_guard n 32 s) → Reads s 0 r (replicate 16 0) (read_whole n s)
  unfolding read_whole
  whole_up h ih = let k = rw h at ih in rw h (k.0, ap alone k.1, refl)

  module _ {next : ℕ} (h : r ≡ Ok next) (ih : Follows s 0 r set (read_guard n 32 s)) where
    abbrev it : Taken s 0 next set (read_guard n 32 s)
    it = rw h at ih

    pub whole_more : (q : Result ℕ Fault) → next < length s → q ≡ Err (fault because.BadGuard next) → Reads s 0 q (replicate 16 0) (read_whole n s)
    unfolding read_whole
    whole_more q l z = rw z (it.2, at_next s n 32 0 set it alone (λ e. omega arith) ∙ ap (faulty because.BadGuard) (sym (headed s next l)), refl)

    pub whole_done : length s ≤ next → Reads s 0 (Ok next) set (read_whole n s)
    unfolding read_whole
    whole_done l =
        let e : next ≡ length s = omega (arith, it.2) in
        (it.0, it.1, it.2, at_end s n 32 0 set it alone e ∙ ap (took it.0) (sym (none_left s e)), it.4)
