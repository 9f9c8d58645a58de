-- What is read of an answer without where its names lie in memory.
use Rattle.std.specs.Prelude.{Option, Some, None, option_map}
use Rattle.net_wire.specs.DnsLabels.{labels_left}
use Rattle.net_wire.specs.DnsName.{name_of}
use Rattle.dns_client.specs.declared.answer.Answer.{Answer}
use Rattle.dns_client.specs.declared.answer.AnswerData.{AnswerData}
use Rattle.dns_client.specs.declared.answer.AnswerData.TheVariants as read
use Rattle.dns_client.specs.AnswerChain.{Name, Content, HasAddress, HasAlias, HasNeither, AnswerValue, answer_by}

-- a fact of a name, if there is one
abbrev pub IfName : Option Name → (Name → Type 0) → Type 0
IfName None P = ⊥
IfName (Some name) P = P name

abbrev pub content_value : AnswerData → Option Content
content_value (read.Address number address) = Some (HasAddress number address)
content_value (read.Alias labels) = option_map HasAlias (name_of (labels_left labels))
content_value read.Neither = Some HasNeither

-- an answer, if its names are whole
abbrev pub answer_value : Answer → Option AnswerValue
answer_value answer = answer_by (name_of (labels_left answer.owner)) (content_value answer.content)
