-- A refusal's line is short: at most 54 bytes for a number of 8 bits, a line and a place of 64, so that a small room takes it whole. Assumes nothing.
use Rattle.std.proofs.Common.{◌≡◌, ℕ, ◌+◌, ◌^◌, ◌≤◌, ◌<◌, List, length, take, arith, length-append}
use Rattle.text.specs.Text.{Wrote, decimal}
use Rattle.text.proofs.Laws.{decimal_places, wrote_text, wrote_end}
use Rattle.refusals.specs.declared.Refusal.{Refusal}
use Rattle.refusals.specs.Refusal.{refusal_text}

-- the line's length
refusal_length : (q : Refusal) → length (refusal_text q) ≡ 8 + (length (decimal q.number) + (1 + (length (decimal q.line) + (1 + (length (decimal q.place) + 1)))))
unfolding refusal_text
refusal_length q = simp length-append (omega arith)

-- a refusal's line has at most 54 bytes
pub refusal_short : (q : Refusal) → q.number < 2 ^ 8 → q.line < 2 ^ 64 → q.place < 2 ^ 64 → length (refusal_text q) ≤ 54
refusal_short q h g f =
    let i = decimal_places q.number 2 (omega arith) in
    let j = decimal_places q.line 19 (omega arith) in
    let k = decimal_places q.place 19 (omega arith) in
    let l = refusal_length q in
    omega arith

-- so a room of 54 bytes takes it whole: what stands before the answer is the line
pub refusal_whole : {l l' : List ℕ} (q : Refusal) {r : ℕ} → Wrote l 0 (refusal_text q) l' r → q.number < 2 ^ 8 → q.line < 2 ^ 64 → q.place < 2 ^ 64 → 54 ≤ length l → take r l' ≡ refusal_text q
refusal_whole q w h g f b =
    let s = refusal_short q h g f in
    rw (wrote_end w (omega arith)) (wrote_text w (omega arith))
