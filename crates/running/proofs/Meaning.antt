-- What the box's functions found, as the definitions say it: one law for each answer. Assumes nothing.
use Rattle.std.proofs.Common.{Ok, Err}
use mathlib.Core.Bool.{Bool, true, false, not}
use mathlib.Core.List.{List, [], Memᴰ}
use mathlib.Core.Logic.{⊎_elim, inl, inr}
use mathlib.Core.Path.{◌≡◌, refl, sym, ap, ◌∙◌}
use Prim.Native.Nat.{ℕ, ◌-◌, ◌^◌, ◌<◌, min, max}
use native.Mathlib.Nat.{eq-zero-or-pos}
use native.Mathlib.Omega.{arith}
use borrow.Author.Tests.{not-true, not-false}
use lib.Dec.{eqb}
use lib.ListN.{get_or}
use Rattle.products.specs.Sets.{bit, one_if, In}
use Rattle.products.proofs.Bits.{zero_bit, past_bit, some_bit}
use Rattle.products.proofs.Laws.{one_true}
use Rattle.refusals.specs.declared.Reason.TheVariants as because
use Rattle.refusals.specs.Refusal.{refusal}
use Rattle.guards.specs.Guard.{holds, Means}
use Rattle.sheet.specs.declared.Counts.{Counts}
use Rattle.sheet.specs.Sheet.{Move, Sheet, is_valid}
use Rattle.sheet.specs.Accepted.{Accepted}
use Rattle.sheet.specs.Tables.{Tables, tables, Rows, MoveRow, StandsFor, ReadInto}
use Rattle.sheet.proofs.Rows.{rows_of, rows_both, rows_in, piece_lies}
use Rattle.sheet.proofs.Accepted.{accepted, valid_small, good_move}
use Rattle.running.specs.declared.RunningBox.{RunningBox}
use Rattle.running.specs.Ways.{Ends}
use Rattle.running.specs.Promise.{nowhere, NotValid, NoMove, Begun, SetsUp, Went, Acts}
use Rattle.running.specs.Inside.{Looks, Added, Gathered, leads_at}
use Rattle.running.proofs.Gathering.{Tells, added_state}

-- a bit of a word is that of a state
state_of : {w : ℕ} (q : ℕ) → w < 2 ^ 64 → bit w q ≡ 1 → q < 64
state_of {w} q l e = ⊎_elim (λ (h : 64 - q ≡ 0). absurd (omega (arith, past_bit 64 q (omega arith) w l))) (λ (h : 0 < 64 - q). omega arith) (eq-zero-or-pos (64 - q))

module _ {s : List ℕ} {T : Tables} {c : Counts} {r : Sheet} (good : Accepted r) (so : StandsFor s T c r) where
  -- ---- whether the sheet allows the product

  module _ {p : ℕ} {x : Bool} (tells : Tells x (In T.valid p)) where
    -- 12
    not_valid : not x ≡ true → NotValid r p (refusal because.InvalidProduct 0 0)
    not_valid e = record { twelve = refl; invalid = at (is_valid r p) refl }
      where
        at : (b : Bool) → is_valid r p ≡ b → is_valid r p ≡ false
        at false h = h
        at true h = let l = (valid_small good h).2 in absurd (tells.1 (not-true x e) (record { small = l; is = so.valid p l ∙ ap one_if h }))

    is_valid_lem : not x ≡ false → is_valid r p ≡ true
    is_valid_lem e = let i = tells.0 (not-false x e) in one_true (is_valid r p) (sym (so.valid p i.small) ∙ i.is)

  -- ---- set up

  begun : {p : ℕ} → is_valid r p ≡ true → {w : ℕ} → ((q : ℕ) → q < 64 → bit w q ≡ max (bit 0 q) (one_if (eqb c.start q))) → w < 2 ^ 64
      → Begun r p (record { product = p; place = w })
  begun v {w} is l =
      let a : Added 0 (λ q. c.start ≡ q) w = added_state is in
      record {
        valid = v;
        product = refl;
        place =
            record {
              only = λ q i. ⊎_elim (λ (h : bit 0 q ≡ 1). absurd (omega (arith, zero_bit q))) (λ (h : c.start ≡ q). sym h ∙ so.start) (a.only q (state_of q l i.is) i.is);
              every = λ q h. let z = good.start in record { is = a.every q (omega arith) (so.start ∙ sym h) };
            };
      }

  -- ---- the rows, and the moves

  abbrev rows : Rows (λ i m. MoveRow s (get_or T.moves i []) m × Means (get_or T.move_guards i []) m.guard) c.moves r.moves
  rows = rows_both so.filled.moves.rows so.filled.move_guards.rows

  module _ {b : RunningBox} (v : is_valid r b.product ≡ true) {name : List ℕ} where
    to_end : (i : ℕ) {q : ℕ} {m : Move} → Memᴰ m r.moves → MoveRow s (get_or T.moves i []) m × Means (get_or T.move_guards i []) m.guard
        → leads_at s T.moves T.move_guards b name i q → Ends r b name q
    unfolding Means
    to_end i {q} {m} mem (row, means) l =
        record {
          move = m;
          listed = mem;
          named = sym (piece_lies row.lies) ∙ (rw row.is at l.named);
          from = record { is = rw row.is at l.from };
          makes = one_true (holds m.guard b.product) (sym (means b.product (valid_small good v).2) ∙ l.makes.is);
          to = rw row.is at l.to;
        }

    from_end : (i : ℕ) {q : ℕ} (e : Ends r b name q) → MoveRow s (get_or T.moves i []) e.move × Means (get_or T.move_guards i []) e.move.guard
        → leads_at s T.moves T.move_guards b name i q
    unfolding Means
    from_end i {q} e (row, means) =
        let small = (valid_small good v).2 in
        record {
          from = rw row.is e.from.is;
          makes = record { small = small; is = means b.product small ∙ ap one_if e.makes };
          named = rw row.is (piece_lies row.lies ∙ e.named);
          to = rw row.is e.to;
        }

    module _ {w : ℕ} (g : Gathered (leads_at s T.moves T.move_guards b name) (min c.moves 256) w) where
      -- each state gathered is an end
      end_of : (q : ℕ) → q < 64 → bit w q ≡ 1 → Ends r b name q
      end_of q l e =
          let z = g.only q l e in
          let y = rows_in {i = z.0} rows (omega (arith, z.1)) in
          to_end z.0 y.1 y.2 z.2

      -- and each end is gathered
      in_place : (q : ℕ) → Ends r b name q → bit w q ≡ 1
      in_place q e =
          let z = rows_of rows e.listed in
          let few = so.few in
          g.every z.0 q (omega (arith, z.1)) (omega (arith, (good_move good.moves e.listed).to, e.to)) (from_end z.0 e z.2)

      -- 19
      no_move : w ≡ 0 → NoMove r b name (refusal because.NoMove 0 0)
      no_move z = record { nineteen = refl; valid = v; nothing = λ q i. let y : bit 0 q ≡ 1 = rw z at (in_place q i) in omega (arith, zero_bit q) }

      -- gone on
      went : (w ≡ 0 → ⊥) → w < 2 ^ 64 → Went r b name (record { product = b.product; place = w })
      went n l =
          let z = some_bit 64 w l n in
          record {
            valid = v;
            some = (z.0, end_of z.0 z.1 z.2);
            product = refl;
            place = record { only = λ q i. end_of q (state_of q l i.is) i.is; every = λ q i. record { is = in_place q i } };
          }

-- ---- what the calls promise, where the reader kept the sheet

module _ (s : List ℕ) {valid : List ℕ} {moves guards : List (List ℕ)} {c : Counts} (kept : Looks s valid moves guards (Ok c)) where
  abbrev read : ReadInto s (tables kept.0 valid moves guards kept.1 kept.2) c
  read = kept.3.0

  abbrev good : Accepted read.0
  good = accepted s read.1

  module _ {p : ℕ} {x : Bool} (tells : Tells x (In valid p)) where
    pub set_up_refused : not x ≡ true → SetsUp s p (Err (refusal because.InvalidProduct 0 0)) nowhere
    set_up_refused e = (refl, inr (read.0, read.1, not_valid good read.2 tells e))

    pub set_up_done : not x ≡ false → {w : ℕ} → ((q : ℕ) → q < 64 → bit w q ≡ max (bit 0 q) (one_if (eqb c.start q))) → w < 2 ^ 64
        → SetsUp s p (Ok tt) (record { product = p; place = w })
    set_up_done e is l = (read.0, read.1, begun good read.2 (is_valid_lem good read.2 tells e) is l)

  module _ (b : RunningBox) (name : List ℕ) {x : Bool} (tells : Tells x (In valid b.product)) where
    pub act_refused : not x ≡ true → Acts s b name (Err (refusal because.InvalidProduct 0 0)) b
    act_refused e = (refl, inr (read.0, read.1, inl (not_valid good read.2 tells e)))

    module _ (e : not x ≡ false) {w : ℕ} (g : Gathered (leads_at s moves guards b name) (min c.moves 256) w) where
      pub act_stayed : w ≡ 0 → Acts s b name (Err (refusal because.NoMove 0 0)) b
      act_stayed z = (refl, inr (read.0, read.1, inr (no_move good read.2 (is_valid_lem good read.2 tells e) g z)))

      pub act_done : (w ≡ 0 → ⊥) → w < 2 ^ 64 → Acts s b name (Ok tt) (record { product = b.product; place = w })
      act_done n l = (read.0, read.1, went good read.2 (is_valid_lem good read.2 tells e) g n l)
