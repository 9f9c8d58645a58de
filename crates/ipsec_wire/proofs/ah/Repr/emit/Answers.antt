use Rattle.ipsec_wire.specs.AhRepr.{header_value}
use Rattle.ipsec_wire.proofs.AhLemmas.{is_whole, reads_back}
use Rattle.ipsec_wire.proofs.ByteLemmas.{joined}
use Rattle.ipsec_wire.proofs.ah.Repr.emit.Goals as goal

pub returns-clause-whole : goal.returns-clause-whole
returns-clause-whole c =
    rw (joined _ c.write.new.into _ _ c.write.ensures.front c.write.ensures.rest)
    (is_whole (header_value c.args.self.now) _ c.write.ensures.writable)

pub returns-clause-read : goal.returns-clause-read
returns-clause-read c =
    rw (joined _ c.write.new.into _ _ c.write.ensures.front c.write.ensures.rest)
    (reads_back (header_value c.args.self.now) _ c.write.ensures.writable)
