-- The words so far and the words of the rest are all words; each pair of bytes adds less than 65536.
use Rattle.std.proofs.Common.{◌≡◌, ◌+◌, ◌*◌, ◌≤◌, length}
use Rattle.wire_base.specs.Checksum.{word_sum}
use Rattle.wire_base.proofs.checksum.sum_words.Given as goal

abbrev pub invariant-loop-rest : goal.invariant-loop-rest
invariant-loop-rest l = record {
  summed : l.sum + word_sum l.rest ≡ word_sum l.bytes;
  small : 2 * l.sum + 65535 * length l.rest ≤ 65535 * length l.bytes;
}

abbrev pub decreases-loop-rest : goal.decreases-loop-rest
decreases-loop-rest l = length l.rest

abbrev pub invariant-loop-rest-2 : goal.invariant-loop-rest-2
invariant-loop-rest-2 l = record {
  summed : l.sum + word_sum l.rest ≡ word_sum l.bytes;
  small : 2 * l.sum + 65535 * length l.rest ≤ 65535 * length l.bytes;
}

abbrev pub decreases-loop-rest-2 : goal.decreases-loop-rest-2
decreases-loop-rest-2 l = length l.rest
