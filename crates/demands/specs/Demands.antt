-- The demands as statements, each short, over `read_sheet`, the report's and the clean sheet's relations and the calls' promises, and behind them what is
-- promised of the box that runs from its sheet; proofs/ has a proof of each under the name in the comment. What the calls themselves promise stands in
-- src/lib.rt, the table of worked examples on the page Table.
-- Assumes nothing: these are definitions.
use Rattle.std.specs.Prelude.{true, List, [], ◌∷◌, ◌↔◌, ◌⊎◌, ◌≡◌, ℕ, ◌+◌, ◌≤◌, length, take, None, Result, Ok, Err, Ok}
use Rattle.refusals.specs.declared.Reason.TheVariants as because
use Rattle.refusals.specs.declared.Refusal.{Refusal}
use Rattle.refusals.specs.Refusal.{refusal}
use Rattle.products.specs.declared.Order.{Order}
use Rattle.products.specs.declared.Order.TheVariants.{Plainest, ByNumber}
use Rattle.products.specs.Sets.{Least}
use Rattle.products.specs.Orders.{Before}
use Rattle.guards.specs.Guard.{disj, feature, neg, chain, one as single}
use Rattle.sheet.specs.Sheet.{Move, Stop, Sheet, names, is_valid}
use Rattle.sheet.specs.Reading.{kept, refused, read_sheet}
use Rattle.sheet.specs.Places.{LineOf, FieldThere, ByteThere}
use Rattle.sheet.specs.Accepted.{Accepted}
use Rattle.family.specs.Ways.{Reached, Depth}
use Rattle.verdicts.specs.declared.Verdict.{Verdict}
use Rattle.verdicts.specs.declared.Verdict.TheVariants.{Must}
use Rattle.verdicts.specs.declared.StateVerdict.{StateVerdict}
use Rattle.verdicts.specs.declared.StopVerdict.{StopVerdict}
use Rattle.verdicts.specs.Verdicts.{MadeIn, JudgedAs, StateAs, StopAs}
use Rattle.reporting.specs.Report.{word, missed_of, state_word, stop_word, IsReport}
use Rattle.normal.specs.Behaviour.{Same}
use Rattle.normal.specs.Clean.{IsClean}
use Rattle.normal.specs.Faults.{Faultless}
use Rattle.calls.specs.Promise.{ReportPromise, CleanPromise, BothPromise}
use Rattle.calls.specs.Shown.{row_of, length_of, row_of_both, lengths_of}
use Rattle.running.specs.declared.RunningBox.{RunningBox}
use Rattle.running.specs.Ways.{Stands, Carries}
use Rattle.running.specs.Promise.{nowhere, SetsUp, Acts}
use Rattle.running.specs.Runs.{Run}
use Rattle.running.specs.Shown.{row_of as box_row}
use Rattle.demands.specs.Printed.{bytes}
use Rattle.demands.specs.Examples.{dish_text}
use Rattle.demands.specs.Respelled.{Respelled}

-- ---- demand 1: any bytes, any room: the work or a refusal from the table. What is so of both calls with one room is said once, of a call that promises
-- P of the sheet, the room before, the room after and the answer; P is ReportPromise of either order, or CleanPromise.

-- report_determined, clean_determined: in either order, any two answers with final rooms that meet the promise for one sheet and one room are equal.
abbrev pub Determined : (List ℕ → List ℕ → List ℕ → Result ℕ Refusal → Type 0) → Type 0
Determined P = (s room x y : List ℕ) (a b : Result ℕ Refusal) → P s room x a → P s room y b → (a ≡ b) × (x ≡ y)

-- both_determined: so are the answers and both rooms of the call with two.
abbrev pub BothDetermined : Type 0
BothDetermined =
    (s room clean x y u v : List ℕ) (a b : Result (ℕ × ℕ) Refusal) → BothPromise s room x clean u a → BothPromise s room y clean v b → (a ≡ b) × (x ≡ y) × (u ≡ v)

-- report_refusals, clean_refusals, both_refusals: the number of a refusal is 1 to 11.
abbrev pub Refusals : (List ℕ → List ℕ → List ℕ → Result ℕ Refusal → Type 0) → Type 0
Refusals P = (s room x : List ℕ) (q : Refusal) → P s room x (Err q) → (1 ≤ q.number) × (q.number ≤ 11)

abbrev pub BothRefusals : Type 0
BothRefusals = (s room x clean u : List ℕ) (q : Refusal) → BothPromise s room x clean u (Err q) → (1 ≤ q.number) × (q.number ≤ 11)

-- report_told, clean_told, both_told: the row of the table, "0, done, 0" or the refusal's, and the length, or both lengths, tell the answer.
abbrev pub Told : (List ℕ → List ℕ → List ℕ → Result ℕ Refusal → Type 0) → Type 0
Told P = (s room x t other y : List ℕ) (a b : Result ℕ Refusal) → P s room x a → P t other y b → row_of a ≡ row_of b → length_of a ≡ length_of b → a ≡ b

abbrev pub BothTold : Type 0
BothTold =
    (s room x clean u t other y second v : List ℕ) (a b : Result (ℕ × ℕ) Refusal) → BothPromise s room x clean u a → BothPromise t other y second v b
    → row_of_both a ≡ row_of_both b → lengths_of a ≡ lengths_of b → a ≡ b

-- table_refuses: what the table refuses, every call refuses so, in every room.
abbrev pub TableRefuses : Type 0
TableRefuses =
    (s : List ℕ) (q : Refusal) → read_sheet s ≡ refused q
    → ((o : Order) (room x : List ℕ) (a : Result ℕ Refusal) → ReportPromise o s room x a → (a ≡ Err q) × (x ≡ room))
    × ((room x : List ℕ) (a : Result ℕ Refusal) → CleanPromise s room x a → (a ≡ Err q) × (x ≡ room))
    × ((room x clean u : List ℕ) (a : Result (ℕ × ℕ) Refusal) → BothPromise s room x clean u a → (a ≡ Err q) × (x ≡ room) × (u ≡ clean))

-- refusals_given: each of 1 to 10 is given, to some sheet.
abbrev pub RefusalsGiven : Type 0
RefusalsGiven = (e : ℕ) → 1 ≤ e → e ≤ 10 → (s : List ℕ) × (q : Refusal) × (q.number ≡ e) × (read_sheet s ≡ refused q)

-- place_of_byte: "the place of the faulty byte, counted from 1 in its line". Of 5, 6 and 7 the leftmost faulty byte of a guard stands there, or its end.
abbrev pub PlaceOfByte : Type 0
PlaceOfByte = (s : List ℕ) (q : Refusal) → read_sheet s ≡ refused q → 5 ≤ q.number → q.number ≤ 7 → ByteThere s q

-- place_of_field: "Refusals 4 and 9 give where the field concerned begins, empty or not (for 9 on a move, of its from field)".
abbrev pub PlaceOfField : Type 0
PlaceOfField = (s : List ℕ) (q : Refusal) → read_sheet s ≡ refused q → (q.number ≡ 4) ⊎ (q.number ≡ 9) → FieldThere s q

-- no_place: "all others 0", of the sheet's own refusals. Those of the calls say it themselves: `refusal 11 0 0`, and so on.
abbrev pub NoPlace : Type 0
NoPlace =
    (s : List ℕ) (q : Refusal) → read_sheet s ≡ refused q → (q.number ≡ 4 → ⊥) → (q.number ≡ 9 → ⊥) → (5 ≤ q.number → q.number ≤ 7 → ⊥) → q.place ≡ 0

-- place_within: a place is at most one past its line's last byte, and so at most 65,537.
abbrev pub PlaceWithin : Type 0
PlaceWithin =
    (s : List ℕ) (q : Refusal) → read_sheet s ≡ refused q
    → ((q.place ≡ 0) ⊎ ((l : LineOf s q.line) × (q.place ≤ length l.line + 1))) × (q.place ≤ 65537)

-- place_determined: what is told of a place leaves one. A line has one place for 5 to 7, and one each for 4 and 9.
abbrev pub PlaceDetermined : Type 0
PlaceDetermined =
    (s : List ℕ) (q r : Refusal) → q.line ≡ r.line
    → (ByteThere s q → ByteThere s r → q.place ≡ r.place) × (q.number ≡ r.number → FieldThere s q → FieldThere s r → q.place ≡ r.place)

-- eleven_given: so is 11, to every accepted sheet, in a room without a byte.
abbrev pub ElevenGiven : Type 0
ElevenGiven =
    (s x clean u : List ℕ) (r : Sheet) → read_sheet s ≡ kept r
    → ((o : Order) (a : Result ℕ Refusal) → ReportPromise o s [] x a → a ≡ Err (refusal because.RoomTooShort 0 0))
    × ((a : Result ℕ Refusal) → CleanPromise s [] x a → a ≡ Err (refusal because.RoomTooShort 0 0))
    × ((a : Result (ℕ × ℕ) Refusal) → BothPromise s [] x clean u a → a ≡ Err (refusal because.RoomTooShort 1 0))

-- room_enough: no report has more than 9,545 bytes; in a room of so many neither `report` nor `report_by_number` refuses anything but what the
-- table refuses.
abbrev pub RoomEnough : Type 0
RoomEnough = (o : Order) (s room x : List ℕ) (q : Refusal) → 9545 ≤ length room → ReportPromise o s room x (Err q) → read_sheet s ≡ refused q

-- report_cut, clean_cut, both_cut: of a longer input the first 65,537 bytes are enough, as the programs keep them.
abbrev pub Cut : (List ℕ → List ℕ → List ℕ → Result ℕ Refusal → Type 0) → Type 0
Cut P = (s room x : List ℕ) (a : Result ℕ Refusal) → P (take 65537 s) room x a ↔ P s room x a

abbrev pub BothCut : Type 0
BothCut = (s room x clean u : List ℕ) (a : Result (ℕ × ℕ) Refusal) → BothPromise (take 65537 s) room x clean u a ↔ BothPromise s room x clean u a

-- both_as_single: "Both texts equal those of the single calls, the report in the default order", with the same lengths and rooms, where both single calls are
-- done. Where one of them gives 11 to an accepted sheet, this one gives 11 with line 1 for the report, else with line 2 for the clean sheet, and "neither room
-- changes".
abbrev pub BothAsSingle : Type 0
BothAsSingle =
    (s room x y clean u v : List ℕ) (c : Result (ℕ × ℕ) Refusal) → BothPromise s room y clean v c
    → ((m n : ℕ) → ReportPromise Plainest s room x (Ok m) → CleanPromise s clean u (Ok n) → (c ≡ Ok (m, n)) × (y ≡ x) × (v ≡ u))
    × ((r : Sheet) (q : Refusal) → read_sheet s ≡ kept r → ReportPromise Plainest s room x (Err q) → (c ≡ Err (refusal because.RoomTooShort 1 0)) × (y ≡ room) × (v ≡ clean))
    × ((m : ℕ) (q : Refusal) → ReportPromise Plainest s room x (Ok m) → CleanPromise s clean u (Err q) → (c ≡ Err (refusal because.RoomTooShort 2 0)) × (y ≡ room) × (v ≡ clean))

-- ---- demand 2: the verdicts of the published definitions, and the same moves in the clean sheet. "Demand 2 reads "smallest" in the order chosen": what is
-- said of a report is said for either order

-- order_total, order_apart, order_goes_on: of any two products one stands before the other; no two products stand before each other; and what stands
-- before one that stands before a third stands before that.
abbrev pub OrderTotal : Type 0
OrderTotal = (o : Order) (p q : ℕ) → Before o p q ⊎ Before o q p

abbrev pub OrderApart : Type 0
OrderApart = (o : Order) (p q : ℕ) → Before o p q → Before o q p → p ≡ q

abbrev pub OrderGoesOn : Type 0
OrderGoesOn = (o : Order) (p q r : ℕ) → Before o p q → Before o q r → Before o p r

-- orders_differ: the third feature alone, product 4, is plainer than the first two together, product 3, which has the smaller number.
abbrev pub OrdersDiffer : Type 0
OrdersDiffer = Before Plainest 4 3 × Before ByNumber 3 4

-- report_exists, clean_exists: every accepted sheet has a report and a clean sheet.
abbrev pub ReportExists : Type 0
ReportExists = (o : Order) (s : List ℕ) (r : Sheet) → read_sheet s ≡ kept r → (x : List ℕ) × IsReport (Before o) r x

abbrev pub CleanExists : Type 0
CleanExists = (s : List ℕ) (r : Sheet) → read_sheet s ≡ kept r → (x : List ℕ) × IsClean r x

-- verdicts: where a report is done with n, the sheet is accepted and the first n bytes of the room are its report: each row carries the verdict,
-- products, count and depth of the definitions, over every valid product.
abbrev pub Verdicts : Type 0
Verdicts =
    (o : Order) (s room x : List ℕ) (n : ℕ) → ReportPromise o s room x (Ok n)
    → (r : Sheet) × (read_sheet s ≡ kept r) × Accepted r × IsReport (Before o) r (take n x)

-- order_changes_no_verdict: the order changes which products are named, and no verdict, nor whether a product is named: of a move line missed, the one
-- field of which the verdict does not tell that. Counts and depth do not speak of the order.
abbrev pub OrderChangesNoVerdict : Type 0
OrderChangesNoVerdict =
    (o n : Order) (r : Sheet)
    → ((m : Move) (v w : Verdict) → JudgedAs (Before o) r m v → JudgedAs (Before n) r m w → (word v ≡ word w) × (missed_of v ≡ None → missed_of w ≡ None))
    × ((q : ℕ) (v w : StateVerdict) → StateAs (Before o) r q v → StateAs (Before n) r q w → state_word v ≡ state_word w)
    × ((d : Stop) (v w : StopVerdict) → StopAs (Before o) r d v → StopAs (Before n) r d w → stop_word v ≡ stop_word w)

-- spelling_isnt_meaning: "Spelling isn't meaning", for guards are functions: two sheets that differ in nothing but how their guards are spelled have the same
-- report and the same clean sheet, and behave alike.
abbrev pub SpellingIsntMeaning : Type 0
SpellingIsntMeaning =
    (r q : Sheet) → Respelled r q → ((o : Order) (x : List ℕ) → IsReport (Before o) r x ↔ IsReport (Before o) q x) × ((x : List ℕ) → IsClean r x ↔ IsClean q x) × Same r q

-- respelled_report, respelled_clean, respelled_both: so a call on either of them, in a room of one content, gives the same answer and leaves the same bytes.
abbrev pub SameAnswer : (List ℕ → List ℕ → List ℕ → Result ℕ Refusal → Type 0) → Type 0
SameAnswer P =
    (s t room x y : List ℕ) (a b : Result ℕ Refusal) (r q : Sheet) → read_sheet s ≡ kept r → read_sheet t ≡ kept q → Respelled r q
    → P s room x a → P t room y b → (a ≡ b) × (x ≡ y)

abbrev pub BothSameAnswer : Type 0
BothSameAnswer =
    (s t room clean x y u v : List ℕ) (a b : Result (ℕ × ℕ) Refusal) (r q : Sheet) → read_sheet s ≡ kept r → read_sheet t ≡ kept q → Respelled r q
    → BothPromise s room x clean u a → BothPromise t room y clean v b → (a ≡ b) × (x ≡ y) × (u ≡ v)

-- dealers_guard: "A dealer wrote `(boat|!boat)` and got `false`". A move with such a guard, of whatever feature, is `must` if a valid product makes it.
abbrev pub DealersGuard : Type 0
DealersGuard =
    (o : Order) (r : Sheet) (m : Move) (f p : ℕ) → m.guard ≡ chain disj (single (feature f)) (neg (feature f)) → Least (Before o) (MadeIn r m) p
    → JudgedAs (Before o) r m (Must p)

-- depth_is_small: "The depth is never more than 63."
abbrev pub DepthIsSmall : Type 0
DepthIsSmall = (s : List ℕ) (r : Sheet) (d : ℕ) → read_sheet s ≡ kept r → Depth r d → d ≤ 63

-- clean_keeps_the_moves: a clean sheet that fits is accepted when read; same feature lines, same valid products, same start, and every valid product
-- makes exactly the same triples as in the sheet that it came from.
abbrev pub CleanKeepsTheMoves : Type 0
CleanKeepsTheMoves =
    (s x : List ℕ) (r : Sheet) → read_sheet s ≡ kept r → IsClean r x → length x ≤ 65536
    → (c : Sheet) × (read_sheet x ≡ kept c) × (names c.features ≡ names r.features) × Same r c

-- cleaned_keeps_the_moves: the same of a run of `clean`, and of the bytes that it laid.
abbrev pub CleanedKeepsTheMoves : Type 0
CleanedKeepsTheMoves =
    (s room x : List ℕ) (n : ℕ) → CleanPromise s room x (Ok n)
    → (r : Sheet) × (c : Sheet) × (read_sheet s ≡ kept r) × (read_sheet (take n x) ≡ kept c) × (names c.features ≡ names r.features) × Same r c

-- ---- demand 3: the clean sheet is a normal form

-- clean_is_a_normal_form: two accepted sheets with the same feature lines have equal clean sheets, if these fit, exactly when they have the same valid
-- products, the same start and, for each valid product, the same made moves.
abbrev pub CleanIsANormalForm : Type 0
CleanIsANormalForm =
    (s t x y : List ℕ) (r q : Sheet) → read_sheet s ≡ kept r → read_sheet t ≡ kept q → names r.features ≡ names q.features
    → IsClean r x → IsClean q y → length x ≤ 65536 → length y ≤ 65536 → (x ≡ y) ↔ Same r q

-- clean_is_clean: read again, a clean sheet has no dead and no false move, no hidden state and no untrue stop line, and its clean sheet is itself.
abbrev pub CleanIsClean : Type 0
CleanIsClean =
    (s x : List ℕ) (r : Sheet) → read_sheet s ≡ kept r → IsClean r x → length x ≤ 65536
    → (c : Sheet) × (read_sheet x ≡ kept c) × Faultless c × IsClean c x × ((y : List ℕ) → IsClean c y → y ≡ x)

-- two_runs: two runs of `clean` on sheets with the same feature lines lay the same bytes exactly when the sheets behave alike.
abbrev pub TwoRuns : Type 0
TwoRuns =
    (s t u v x y : List ℕ) (m n : ℕ) (r q : Sheet) → CleanPromise s u x (Ok m) → CleanPromise t v y (Ok n)
    → read_sheet s ≡ kept r → read_sheet t ≡ kept q → names r.features ≡ names q.features → (take m x ≡ take n y) ↔ Same r q

-- clean_again_same: `clean` on what `clean` laid is done, with the same bytes, in every room of that length or more.
abbrev pub CleanAgainSame : Type 0
CleanAgainSame =
    (s u x v y : List ℕ) (m : ℕ) (a : Result ℕ Refusal) → CleanPromise s u x (Ok m) → CleanPromise (take m x) v y a → m ≤ length v
    → (a ≡ Ok m) × (take m y ≡ take m x)

-- clean_reported: a report on what `clean` laid is a report of a sheet without faults.
abbrev pub CleanReported : Type 0
CleanReported =
    (o : Order) (s u x v y : List ℕ) (m n : ℕ) → CleanPromise s u x (Ok m) → ReportPromise o (take m x) v y (Ok n)
    → (c : Sheet) × (read_sheet (take m x) ≡ kept c) × IsReport (Before o) c (take n y) × Faultless c

-- ---- "The box that runs from its sheet". `Acts` is what an action promises of a box that is given by value, and of one that is lent

-- box_is_where_its_names_lead: "As long as the same sheet is lent, the place is exactly the ends of the ways that carry the names accepted so far."
abbrev pub BoxIsWhereItsNamesLead : Type 0
BoxIsWhereItsNamesLead =
    (s : List ℕ) (p : ℕ) (names : List (List ℕ)) (b : RunningBox) → Run s p names b
    → (r : Sheet) × (read_sheet s ≡ kept r) × (is_valid r p ≡ true) × (b.product ≡ p) × Stands b (Carries r p names)

-- name_refused_if_no_way: after any such calls a name is accepted exactly if a way carries it behind the names accepted so far, and refused by 19, line 0,
-- exactly if none does. So it is refused by nothing else.
abbrev pub NameRefusedIfNoWay : Type 0
NameRefusedIfNoWay =
    (s : List ℕ) (p : ℕ) (names : List (List ℕ)) (b : RunningBox) (r : Sheet) (name : List ℕ) (a : Result (Unit {0}) Refusal) (after : RunningBox)
    → Run s p names b → read_sheet s ≡ kept r → Acts s b name a after
    → ((a ≡ (Ok tt)) ↔ ((q : ℕ) × Carries r p (name ∷ names) q))
    × ((a ≡ Err (refusal because.NoMove 0 0)) ↔ ((q : ℕ) → Carries r p (name ∷ names) q → ⊥))

-- names_lead_where_it_reaches: the ways that carry names lead to the states that the product reaches, and to no others.
abbrev pub NamesLeadWhereItReaches : Type 0
NamesLeadWhereItReaches = (r : Sheet) (p q : ℕ) → ((names : List (List ℕ)) × Carries r p names q) ↔ Reached r p q

-- boat_folds, boat_stays_folded: as the harbour saw it. With document 01's sheet the box of product 2, the boat without a gauge, takes raise and stow. It
-- stands in state 2 then and nowhere else; every name is refused by 19, and leaves it there.
abbrev pub folded : List (List ℕ)
folded = bytes "stow" ∷ bytes "raise" ∷ []

abbrev pub BoatFolds : Type 0
BoatFolds = (b : RunningBox) × Run dish_text 2 folded b

abbrev pub BoatStaysFolded : Type 0
BoatStaysFolded =
    (b : RunningBox) → Run dish_text 2 folded b → Stands b (λ q. q ≡ 2) × ((name : List ℕ) → Acts dish_text b name (Err (refusal because.NoMove 0 0)) b)

-- twelve_given: with the same sheet the set-up of product 0, neither gauge nor boat, is refused by 12.
abbrev pub TwelveGiven : Type 0
TwelveGiven = SetsUp dish_text 0 (Err (refusal because.InvalidProduct 0 0)) nowhere

-- set_up_determined, act_determined: any two answers, with the boxes after them, that meet one promise are equal.
abbrev pub SetUpDetermined : Type 0
SetUpDetermined = (s : List ℕ) (p : ℕ) (a c : Result (Unit {0}) Refusal) (b d : RunningBox) → SetsUp s p a b → SetsUp s p c d → (a ≡ c) × (b ≡ d)

abbrev pub ActDetermined : Type 0
ActDetermined =
    (s : List ℕ) (b : RunningBox) (name : List ℕ) (a c : Result (Unit {0}) Refusal) (d f : RunningBox) → Acts s b name a d → Acts s b name c f → (a ≡ c) × (d ≡ f)

-- refused_set_up_refuses: the box of a refused set-up is refused every action, by whatever sheet, and stays as it is.
abbrev pub RefusedSetUpRefuses : Type 0
RefusedSetUpRefuses =
    (s : List ℕ) (p : ℕ) (q : Refusal) (b : RunningBox) → SetsUp s p (Err q) b
    → (t name : List ℕ) (a : Result (Unit {0}) Refusal) (after : RunningBox) → Acts t b name a after → (b ≡ nowhere) × (after ≡ b) × ((e : Refusal) × (a ≡ Err e))

-- box_table_refuses: what the table refuses, both calls refuse so.
abbrev pub BoxTableRefuses : Type 0
BoxTableRefuses =
    (s : List ℕ) (q : Refusal) → read_sheet s ≡ refused q
    → ((p : ℕ) (a : Result (Unit {0}) Refusal) (b : RunningBox) → SetsUp s p a b → (a ≡ Err q) × (b ≡ nowhere))
    × ((b : RunningBox) (name : List ℕ) (a : Result (Unit {0}) Refusal) (after : RunningBox) → Acts s b name a after → (a ≡ Err q) × (after ≡ b))

-- set_up_refusals, act_refusals: the number of a refusal is 1 to 10; or it is 12 or, of an action, 19, each with line and place 0.
abbrev pub SetUpRefusals : Type 0
SetUpRefusals = (s : List ℕ) (p : ℕ) (q : Refusal) (b : RunningBox) → SetsUp s p (Err q) b → ((1 ≤ q.number) × (q.number ≤ 10)) ⊎ (q ≡ refusal because.InvalidProduct 0 0)

abbrev pub ActRefusals : Type 0
ActRefusals =
    (s : List ℕ) (b : RunningBox) (name : List ℕ) (q : Refusal) (after : RunningBox) → Acts s b name (Err q) after
    → ((1 ≤ q.number) × (q.number ≤ 10)) ⊎ ((q ≡ refusal because.InvalidProduct 0 0) ⊎ (q ≡ refusal because.NoMove 0 0))

-- set_up_told, act_told: the row of the table, "0, done, 0" or the refusal's, tells the answer.
abbrev pub SetUpTold : Type 0
SetUpTold = (s t : List ℕ) (p m : ℕ) (a c : Result (Unit {0}) Refusal) (b d : RunningBox) → SetsUp s p a b → SetsUp t m c d → box_row a ≡ box_row c → a ≡ c

abbrev pub ActTold : Type 0
ActTold =
    (s t : List ℕ) (b d : RunningBox) (name other : List ℕ) (a c : Result (Unit {0}) Refusal) (x y : RunningBox) → Acts s b name a x → Acts t d other c y → box_row a ≡ box_row c → a ≡ c

-- set_up_cut, act_cut: of a longer sheet the first 65,537 bytes are enough, and of a longer name the first 25, as the program keeps them.
abbrev pub SetUpCut : Type 0
SetUpCut = (s : List ℕ) (p : ℕ) (a : Result (Unit {0}) Refusal) (b : RunningBox) → SetsUp (take 65537 s) p a b ↔ SetsUp s p a b

abbrev pub ActCut : Type 0
ActCut = (s : List ℕ) (b : RunningBox) (name : List ℕ) (a : Result (Unit {0}) Refusal) (after : RunningBox) → Acts (take 65537 s) b (take 25 name) a after ↔ Acts s b name a after
