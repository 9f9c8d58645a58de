use Rattle.std.proofs.Common.{drop}
use Rattle.ipsec_wire.specs.Esp.{header_bytes}
use Rattle.ipsec_wire.specs.EspRepr.{header_value}
use Rattle.ipsec_wire.proofs.EspLemmas.{reads_back}
use Rattle.ipsec_wire.proofs.ByteLemmas.{joined}
use Rattle.ipsec_wire.proofs.esp.Repr.emit.Goals as goal

pub returns-clause-read : goal.returns-clause-read
returns-clause-read c =
    rw (joined 8 c.write.new.into (header_bytes (header_value c.args.self.now))
    (drop 8 c.args.packet.now.buffer.now) c.write.ensures.front c.write.ensures.rest)
    (reads_back (header_value c.args.self.now) _ c.write.ensures.index c.write.ensures.sequence)
