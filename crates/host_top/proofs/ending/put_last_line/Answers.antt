use Rattle.host_top.proofs.TextLemmas.{puts_then}
use Rattle.host_top.proofs.ending.put_last_line.Goals as goal

pub returns-in-Script : goal.returns-in-Script
returns-in-Script g c = rw c.in-Script.is (puts_then (puts_then c.put-in-Script.ensures c.put_number.ensures) c.put-in-Script-2.ensures)

pub returns-in-Entry : goal.returns-in-Entry
returns-in-Entry g c = rw c.in-Entry.is (puts_then (puts_then c.put-in-Entry.ensures c.put_number-in-Entry.ensures) c.put-in-Entry-2.ensures)

pub returns-in-FrameLimit : goal.returns-in-FrameLimit
returns-in-FrameLimit g c = rw c.in-FrameLimit.is c.put-in-FrameLimit.ensures
