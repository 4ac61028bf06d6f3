-- What is promised of the box, proved: where its names lead, when a name is refused, that answer and box are determined, what a refusal can be, and that
-- the first bytes of a longer sheet or name are enough. Assumes nothing.
use Rattle.std.proofs.Common.{Ok, Err, Result}
use mathlib.Core.Bool.{true}
use mathlib.Core.List.{List, [], ◌∷◌}
use mathlib.Core.Logic.{◌↔◌, inl, inr, ⊎_elim}
use mathlib.Core.Path.{◌≡◌, refl, sym, ap, ◌∙◌}
use Prim.Native.Nat.{ℕ, ◌≤◌}
use native.Mathlib.Omega.{arith}
use lib.ListN.{length, take, length-take}
use lib.Seq.{take_all}
use Rattle.fields.specs.Bytes.{is_action}
use Rattle.refusals.specs.declared.Reason.{Reason}
use Rattle.refusals.specs.declared.Reason.TheVariants as because
use Rattle.refusals.specs.declared.Refusal.{Refusal}
use Rattle.refusals.specs.Refusal.{refusal}
use Rattle.refusals.proofs.Numbers.{number_low, no_done_row, one_refusal}
use Rattle.values.proofs.Names.{action_names}
use Rattle.sheet.specs.Sheet.{Sheet}
use Rattle.sheet.specs.Reading.{kept, read_sheet}
use Rattle.sheet.specs.Accepted.{Accepted}
use Rattle.sheet.proofs.Accepted.{accepted, good_move, refused_number}
use Rattle.family.specs.Ways.{Reached, begin, by}
use Rattle.running.specs.declared.RunningBox.{RunningBox}
use Rattle.running.specs.Ways.{Ends, Carries, none, more}
use Rattle.running.specs.Promise.{nowhere, SetsUp, Acts}
use Rattle.running.specs.Shown.{row_of as box_row}
use Rattle.running.proofs.Determined.{same_sheet, set_up_once, act_once}
use Rattle.running.proofs.Leading.{Led, led, done_way, refused_no_way, nowhere_led}
use Rattle.demands.specs.Demands.{BoxIsWhereItsNamesLead, NameRefusedIfNoWay, NamesLeadWhereItReaches, SetUpDetermined, ActDetermined, RefusedSetUpRefuses, BoxTableRefuses, SetUpRefusals, ActRefusals, SetUpTold, ActTold, SetUpCut, ActCut}
use Rattle.demands.proofs.Refusals.{cut_same}

-- ---- where the names lead

pub box_is_where_its_names_lead : BoxIsWhereItsNamesLead
box_is_where_its_names_lead s p names b run = let (r, e, x) = led run in (r, e, x.valid, x.product, x.place)

-- a done answer is no refusal
done_refused : {q : Refusal} → ◌≡◌ {A = Result (Unit {0}) Refusal} (Ok tt) (Err q) → ⊥
done_refused e = let z : ◌≡◌ {A = ℕ} 0 1 = cc in omega arith

module _ (s : List ℕ) {p : ℕ} {names : List (List ℕ)} {b : RunningBox} {r : Sheet} (e : read_sheet s ≡ kept r) (x : Led r p names b) (name : List ℕ) where
  abbrev Way : Type 0
  Way = (q : ℕ) × Carries r p (name ∷ names) q

  abbrev NoWay : Type 0
  NoWay = (q : ℕ) → Carries r p (name ∷ names) q → ⊥

  by_ways : (a : Result (Unit {0}) Refusal) (after : RunningBox) → Acts s b name a after → ((a ≡ Ok tt) ↔ Way) × ((a ≡ Err (refusal because.NoMove 0 0)) ↔ NoWay)
  by_ways (Ok done) after h =
      let (q, w) = done_way s e x h in
      ((λ d. (q, w), λ z. refl), (λ d. absurd (done_refused d), λ n. absurd (n q w)))
  by_ways (Err t) after h =
      let (is, n) = refused_no_way s e x h in
      ((λ d. absurd (done_refused (sym d)), λ z. absurd (n z.0 z.1)), (λ d. n, λ z. ap Err is))

pub name_refused_if_no_way : NameRefusedIfNoWay
name_refused_if_no_way s p names b r name a after run e h =
    let (t, f, x) = led run in
    by_ways s e (rw (same_sheet s f e) at x) name a after h

pub names_lead_where_it_reaches : NamesLeadWhereItReaches
names_lead_where_it_reaches r p q = (λ z. there z.1, back)
  where
    there : {names : List (List ℕ)} {q : ℕ} → Carries r p names q → Reached r p q
    there none = begin
    there (more i w h) = by i (there w) h

    back : {q : ℕ} → Reached r p q → (names : List (List ℕ)) × Carries r p names q
    back begin = ([], none)
    back (by {m} i w h) = let (names, c) = back w in (m.action ∷ names, more i c h)

-- ---- answer and box

pub set_up_determined : SetUpDetermined
set_up_determined = set_up_once

pub act_determined : ActDetermined
act_determined = act_once

pub refused_set_up_refuses : RefusedSetUpRefuses
refused_set_up_refuses s p q b (z, h) t name a after k = (z, stays a (rw z at k) ∙ sym z, refused_by a (rw z at k))
  where
    stays : (a : Result (Unit {0}) Refusal) → Acts t nowhere name a after → after ≡ nowhere
    stays (Ok done) w = absurd (nowhere_led t w)
    stays (Err e) w = w.0

    refused_by : (a : Result (Unit {0}) Refusal) → Acts t nowhere name a after → (e : Refusal) × (a ≡ Err e)
    refused_by (Ok done) w = absurd (nowhere_led t w)
    refused_by (Err e) w = (e, refl)

pub box_table_refuses : BoxTableRefuses
box_table_refuses s q e =
    (λ p a b h. set_up_determined s p a (Err q) b nowhere h (refl, inl e), λ b name a after h. act_determined s b name a (Err q) after b h (refl, inl e))

-- ---- refusals

pub set_up_refusals : SetUpRefusals
set_up_refusals s p q b (z, inl e) = inl (refused_number s e)
set_up_refusals s p q b (z, inr (r, e, n)) = inr n.twelve

pub act_refusals : ActRefusals
act_refusals s b name q after (z, inl e) = inl (refused_number s e)
act_refusals s b name q after (z, inr (r, e, inl n)) = inr (inl n.twelve)
act_refusals s b name q after (z, inr (r, e, inr n)) = inr (inr n.nineteen)

-- no reason has number 0
numbered : (r : Reason) {q : Refusal} → q ≡ refusal r 0 0 → 1 ≤ q.number
numbered r e = let z = ap (λ (q : Refusal). q.number) e in omega (arith, number_low r)

rows_tell : (a c : Result (Unit {0}) Refusal) → ((q : Refusal) → a ≡ Err q → 1 ≤ q.number) → ((q : Refusal) → c ≡ Err q → 1 ≤ q.number) → box_row a ≡ box_row c → a ≡ c
rows_tell (Ok a) (Ok c) h k e = refl
rows_tell (Ok a) (Err q) h k e = absurd (no_done_row q (k q refl) (sym e))
rows_tell (Err p) (Ok c) h k e = absurd (no_done_row p (h p refl) e)
rows_tell (Err p) (Err q) h k e = ap Err (one_refusal p q e)

set_up_number : (s : List ℕ) (p : ℕ) (a : Result (Unit {0}) Refusal) (b : RunningBox) → SetsUp s p a b → (q : Refusal) → a ≡ Err q → 1 ≤ q.number
set_up_number s p a b h q e = ⊎_elim (λ n. n.0) (numbered because.InvalidProduct) (set_up_refusals s p q b (rw e at h))

act_number : (s : List ℕ) (b : RunningBox) (name : List ℕ) (a : Result (Unit {0}) Refusal) (after : RunningBox) → Acts s b name a after → (q : Refusal) → a ≡ Err q → 1 ≤ q.number
act_number s b name a after h q e =
    ⊎_elim (λ n. n.0) (λ n. ⊎_elim (numbered because.InvalidProduct) (numbered because.NoMove) n) (act_refusals s b name q after (rw e at h))

pub set_up_told : SetUpTold
set_up_told s t p m a c b d h k e = rows_tell a c (set_up_number s p a b h) (set_up_number t m c d k) e

pub act_told : ActTold
act_told s t b d name other a c x y h k e = rows_tell a c (act_number s b name a x h) (act_number t d other c y k) e

-- ---- a longer sheet, and a longer name

set_up_as : (s t : List ℕ) → read_sheet s ≡ read_sheet t → (p : ℕ) (a : Result (Unit {0}) Refusal) (b : RunningBox) → SetsUp s p a b → SetsUp t p a b
set_up_as s t e p (Ok done) b (r, f, h) = (r, sym e ∙ f, h)
set_up_as s t e p (Err q) b (z, inl f) = (z, inl (sym e ∙ f))
set_up_as s t e p (Err q) b (z, inr (r, f, h)) = (z, inr (r, sym e ∙ f, h))

pub set_up_cut : SetUpCut
set_up_cut s p a b = (set_up_as (take 65537 s) s (cut_same s) p a b, set_up_as s (take 65537 s) (sym (cut_same s)) p a b)

-- the same ends, by the one name and by the other
abbrev SameEnds : List ℕ → List ℕ → Type 0
SameEnds x y = (r : Sheet) → Accepted r → (b : RunningBox) (q : ℕ) → Ends r b x q → Ends r b y q

-- an action has at most 24 bytes
action_cut : (x name : List ℕ) → is_action x ≡ true → (x ≡ take 25 name) ↔ (x ≡ name)
action_cut x name a =
    let short = (action_names x a).2 in
    (λ e. e ∙ take_all 25 name (omega (arith, ap length e, length-take 25 name)), λ e. e ∙ sym (take_all 25 name (omega (arith, ap length e))))

act_as : (s t : List ℕ) → read_sheet s ≡ read_sheet t → (b : RunningBox) (x y : List ℕ) → SameEnds x y → SameEnds y x → (a : Result (Unit {0}) Refusal) (after : RunningBox)
    → Acts s b x a after → Acts t b y a after
act_as s t e b x y there back (Ok done) after (r, f, h) =
    let ok = accepted s f in (
      r,
      sym e ∙ f,
      record {
        valid = h.valid;
        some = (h.some.0, there r ok b h.some.0 h.some.1);
        product = h.product;
        place = record { only = λ q i. there r ok b q (h.place.only q i); every = λ q i. h.place.every q (back r ok b q i) };
      },
    )
act_as s t e b x y there back (Err q) after (z, inl f) = (z, inl (sym e ∙ f))
act_as s t e b x y there back (Err q) after (z, inr (r, f, inl n)) = (z, inr (r, sym e ∙ f, inl n))
act_as s t e b x y there back (Err q) after (z, inr (r, f, inr n)) =
    (z, inr (r, sym e ∙ f, inr (record { nineteen = n.nineteen; valid = n.valid; nothing = λ to i. n.nothing to (back r (accepted s f) b to i) })))

pub act_cut : ActCut
act_cut s b name a after =
    (act_as (take 65537 s) s (cut_same s) b (take 25 name) name whole part a after, act_as s (take 65537 s) (sym (cut_same s)) b name (take 25 name) part whole a after)
  where
    renamed : {x y : List ℕ} → ((m : List ℕ) → is_action m ≡ true → m ≡ x → m ≡ y) → SameEnds x y
    renamed f r ok b q i =
        record { move = i.move; listed = i.listed; named = f i.move.action (good_move ok.moves i.listed).action i.named; from = i.from; makes = i.makes; to = i.to }

    whole : SameEnds (take 25 name) name
    whole = renamed (λ m h. (action_cut m name h).0)

    part : SameEnds name (take 25 name)
    part = renamed (λ m h. (action_cut m name h).1)
