use Rattle.std.proofs.Common.{◌≡◌, drop, take}
use Rattle.host_top.specs.Ipv4Word.{put_front, pieces}
use Rattle.host_top.proofs.ipv4_word.split_at_point.Given as goal

abbrev pub invariant-loop-place : goal.invariant-loop-place
invariant-loop-place l = pieces l.word ≡ put_front (take l.place l.word) (pieces (drop l.place l.word))
