-- What a frame brings, without where its bytes lie.
use Rattle.std.specs.Prelude.{Result, Ok, Err}
use Rattle.net_wire.specs.ArrivalValues.{datagram_value}
use Rattle.net_wire.specs.declared.arrival.Datagram.{Datagram}
use Rattle.frame_verdict.specs.declared.verdict.Reason.TheVariants as reason
use Rattle.frame_verdict.specs.declared.verdict.Verdict.{Verdict}
use Rattle.frame_verdict.specs.declared.verdict.Verdict.TheVariants.{Ignored}
use Rattle.frame_verdict.specs.Brought.{Brought}

abbrev pub brought_value : Result Datagram Verdict → Brought
brought_value (Ok datagram) = Ok (datagram_value datagram)
brought_value (Err verdict) = Err verdict

-- what becomes of a frame without a datagram, and that its sum is wrong where it has one
abbrev pub otherwise : Brought → Verdict
otherwise (Ok datagram) = Ignored reason.UdpSum
otherwise (Err verdict) = verdict
