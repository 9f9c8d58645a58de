-- The checksum is one word of the header, and so brings the sum of all to zero.
use Rattle.std.proofs.Common.{arith}
use Rattle.net_wire.proofs.DatagramLemmas.{word_sum-ipv4_bytes}
use Rattle.net_wire.proofs.ipv4.Ipv4Repr.header.Goals as goal

pub returns : goal.returns
returns c = record {
  checksum = c.checksum_of.result;
  within = c.checksum_of.ensures.within;
  bytes = c.header_with-2.ensures;
  sums = grind (arith, word_sum-ipv4_bytes);
}
