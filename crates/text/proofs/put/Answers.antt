-- `put`: the byte is stored, or the place is past the room's end; either way the room is `set`, which ignores such places. Assumes nothing.
use mathlib.Core.Path.{◌≡◌, sym, ap, ◌∙◌}
use Prim.Native.Nat.{◌≤◌}
use native.Mathlib.Omega.{arith}
use lib.ListN.{length, set, length-set}
use lib.Seq.{set_out}
use borrow.Author.Rules.{rules}
use Rattle.text.specs.Text.{limit}
use Rattle.text.proofs.Laws.{wrote_one}
use Rattle.text.proofs.put.Goals as goal
use Rattle.text.proofs.put.Goals.{Joined-at-room, then-at-room, else-at-room}

stored : (c : Joined-at-room) → c.if-at-room.room ≡ set c.args.room.now c.args.at c.args.b
stored c =
    elim c.if-at-room.branch [
      | then-at-room w ↦ w.room-is
      | else-at-room w ↦ w.room-is ∙ sym (set_out c.args.room.now c.args.at c.args.b (omega arith))
    ]

long : (c : Joined-at-room) → length c.if-at-room.room ≡ length c.args.room.now
long c = ap length (stored c) ∙ simp length-set

short : (c : Joined-at-room) → length c.args.room.now ≤ limit
short c = search rules

pub shape_of-room-then-at-lt-LIMIT : goal.shape_of-room-then-at-lt-LIMIT
shape_of-room-then-at-lt-LIMIT c = long (goal.at.shape_of-room-then-at-lt-LIMIT c).Joined-at-room

pub returns-then-at-lt-LIMIT : goal.returns-then-at-lt-LIMIT
returns-then-at-lt-LIMIT c = wrote_one (stored (goal.at.returns-then-at-lt-LIMIT c).Joined-at-room) (short (goal.at.returns-then-at-lt-LIMIT c).Joined-at-room) (omega arith)

pub shape_of-room : goal.shape_of-room
shape_of-room c = long (goal.at.shape_of-room c).Joined-at-room

pub returns : goal.returns
returns c = wrote_one (stored (goal.at.returns c).Joined-at-room) (short (goal.at.returns c).Joined-at-room) (omega arith)
