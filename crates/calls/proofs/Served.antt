-- From what a job leaves for the sheet that was read to what it promises for the text; and what the table refuses, every job refuses. Assumes nothing.
use Rattle.std.proofs.Common.{Result, Ok, Err}
use mathlib.Core.Path.{◌≡◌, refl}
use mathlib.Core.List.{List}
use mathlib.Core.Logic.{inl, inr}
use Prim.Native.Nat.{ℕ}
use lib.ListN.{length}
use Rattle.refusals.specs.declared.Refusal.{Refusal}
use Rattle.products.specs.Orders.{Before}
use Rattle.sheet.specs.Sheet.{Sheet}
use Rattle.sheet.specs.declared.Counts.{Counts}
use Rattle.sheet.specs.Reading.{kept, refused, read_sheet}
use Rattle.sheet.specs.Tables.{Tables, StandsFor, ReadInto}
use Rattle.sheet.proofs.Accepted.{accepted}
use Rattle.sheet.proofs.Numbered.{kept_lines}
use Rattle.reporting.specs.Report.{IsReport}
use Rattle.normal.specs.Clean.{IsClean}
use Rattle.calls.specs.declared.Job.{Job}
use Rattle.calls.specs.declared.Job.TheVariants.{Report, Clean, Both}
use Rattle.calls.specs.Promise.{OneText, nothing, clean_most, BothPromise}
use Rattle.calls.specs.Inside.{first_of, Serves, Served, Comes, Filling, BothFilling, Leaves, Left}

module _ (s : List ℕ) {r : Sheet} (read : read_sheet s ≡ kept r) where
  one_served : {room room' : List ℕ} (a : Result (ℕ × ℕ) Refusal) (Is : Sheet → List ℕ → Type 0) (most : ℕ) → Filling (Is r) most room room' a
      → OneText nothing Is most s room room' (first_of a)
  one_served (Ok (n, m)) Is most l = (r, read, l.is)
  one_served (Err q) Is most l = (l.is.0, inr (r, read, inr l.is.1))

  both_served : {room room' clean clean' : List ℕ} (a : Result (ℕ × ℕ) Refusal) → BothFilling r room room' clean clean' a → BothPromise s room room' clean clean' a
  both_served (Ok (n, m)) l = (r, read, l.is.0, l.is.1)
  both_served (Err q) l = (l.is.0, l.is.1, inr (r, read, l.is.2))

  serves : (job : Job) (room room' second second' : List ℕ) (a : Result (ℕ × ℕ) Refusal) → Leaves job r room room' second second' a → Serves job s room room' second second' a
  serves (Report o) room room' second second' a l = one_served a (IsReport (Before o)) (length room) l
  serves Clean room room' second second' a l = one_served a IsClean (clean_most room) l
  serves Both room room' second second' a l = both_served a l

served : {s : List ℕ} {r : Sheet} → read_sheet s ≡ kept r → {job : Job} {room room' second second' : List ℕ} {a : Result (ℕ × ℕ) Refusal} → Left job r room room' second second' a
    → Served job s room room' second second' a
served {s} read {job} {room} {room'} {second} {second'} {a} l = record { is = serves s read job room room' second second' a l.is }

-- the sheet that was read into the tables is accepted, and what the job leaves for it is what it promises
pub read_served : {s : List ℕ} {T : Tables} {c : Counts} → ReadInto s T c → {job : Job} {room room' second second' : List ℕ} {a : Result (ℕ × ℕ) Refusal}
    → ((r : Sheet) → StandsFor s T c r → Comes r → Left job r room room' second second' a) → Served job s room room' second second' a
read_served {s} (r, read, stands) f = served read (f r stands (record { accepted = accepted s read; lines = kept_lines s read }))

pub refused_served : {s : List ℕ} {q : Refusal} → read_sheet s ≡ refused q → {job : Job} {room second : List ℕ} → Served job s room room second second (Err q)
refused_served {s} {q} e {job} {room} {second} = record { is = refuses job }
  where
    refuses : (job : Job) → Serves job s room room second second (Err q)
    refuses (Report o) = (refl, inl e)
    refuses Clean = (refl, inl e)
    refuses Both = (refl, refl, inl e)
