use Rattle.std.proofs.Common.{arith}
use Rattle.ipsec_wire.specs.AhRepr.{header_value}
use Rattle.ipsec_wire.proofs.AhLemmas.{length-header_bytes}
use Rattle.ipsec_wire.proofs.ah.Repr.buffer_len.Goals as goal

pub returns-clause-len : goal.returns-clause-len
returns-clause-len c = omega (arith, length-header_bytes (header_value c.args.self.now))
