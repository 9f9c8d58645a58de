-- What is read of a DNS message without where its parts lie in memory.
use Rattle.net_wire.specs.declared.dns.question.Question.{Question}
use Rattle.net_wire.specs.declared.dns.record.Record.{Record}
use Rattle.net_wire.specs.declared.dns.record.RecordData.{RecordData}
use Rattle.net_wire.specs.declared.dns.record.RecordData.TheVariants as content
use Rattle.net_wire.specs.DnsMessage.{QuestionValue, RecordValue, BodyValue, IsA, IsAaaa, IsCname, IsOther}

abbrev pub question_value : Question → QuestionValue
question_value question = record { name = question.name.now; type_ = question.type_ }

abbrev pub body_value : RecordData → BodyValue
body_value (content.A address) = IsA address
body_value (content.Aaaa address) = IsAaaa address
body_value (content.Cname name) = IsCname name.now
body_value (content.Other type_ bytes) = IsOther type_ bytes.now

abbrev pub record_value : Record → RecordValue
record_value found = record { name = found.name.now; ttl = found.ttl; body = body_value found.body }
