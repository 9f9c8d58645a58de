-- The text of what a lease server did.
use Rattle.std.specs.Prelude.{ℕ, List, ◌++◌, codes}
use Rattle.std.specs.Fmt.{decimal}
use Rattle.std.specs.List.{flat_map, enumerate_from}
use Rattle.lease_server.specs.declared.reply.Reply.{Reply}
use Rattle.lease_server.specs.declared.reply.Reply.TheVariants.{Offer, Ack, Nak, Silent}
use Rattle.lease_server.specs.declared.reply.Silence.{Silence}
use Rattle.lease_server.specs.declared.reply.Silence.TheVariants.{Unwanted, Other, Foreign, Full, Released, Stale}
use Rattle.phy_layers.specs.PcapBytes.{epoch_micros}
use Rattle.server_run.specs.declared.report.Answered.{Answered}
use Rattle.server_run.specs.declared.report.Answered.TheVariants.{Dhcp, Arp, Nothing}
use Rattle.server_run.specs.declared.report.ServeRow.{ServeRow}
use Rattle.host_top.specs.AddressText.{address_text}
use Rattle.host_top.specs.ReportText.{time_text}

-- why nothing is sent
abbrev pub silence_word : Silence → List ℕ
silence_word Unwanted = codes "unwanted"
silence_word Other = codes "other"
silence_word Foreign = codes "foreign"
silence_word Full = codes "full"
silence_word Released = codes "released"
silence_word Stale = codes "stale"

abbrev pub reply_text : Reply → List ℕ
reply_text (Offer address) = codes "offer " ++ address_text address
reply_text (Ack address) = codes "ack " ++ address_text address
reply_text Nak = codes "nak"
reply_text (Silent why) = codes "silent " ++ silence_word why

-- how an event was answered
abbrev pub answered_text : Answered → List ℕ
answered_text (Dhcp reply) = reply_text reply
answered_text Arp = codes "arp"
answered_text Nothing = codes "none"

-- the line of a row: its number, its time, and how its event was answered
abbrev pub served_text : ℕ × ServeRow → List ℕ
served_text numbered =
    decimal numbered.0 ++ codes " " ++ time_text (epoch_micros numbered.1.at) ++ codes " "
    ++ answered_text numbered.1.answered ++ codes "\n"

-- a report: its rows, which are counted from 0
unfoldable pub serve_bytes : List ServeRow → List ℕ
serve_bytes rows = flat_map served_text (enumerate_from 0 rows)
