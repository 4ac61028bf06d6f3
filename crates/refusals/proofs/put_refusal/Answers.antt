-- `put_refusal`: its seven parts, one after another, are the line. Assumes nothing.
use Rattle.text.proofs.Laws.{wrote_then}
use Rattle.refusals.specs.Refusal.{refusal_text}
use Rattle.refusals.proofs.put_refusal.Goals as goal

pub returns : goal.returns
unfolding refusal_text
returns c =
    wrote_then c.put_bytes-a.ensures
    (wrote_then c.put_number-b.ensures
    (wrote_then c.put-c.ensures
    (wrote_then c.put_number-d.ensures
    (wrote_then c.put-e.ensures
    (wrote_then c.put_number-f.ensures
    c.put.ensures)))))
