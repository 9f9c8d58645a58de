-- What a look of the code decides.
use Rattle.std.specs.Prelude.{◌≡◌, Option, Some, None, IsSome, ⊤}
use Rattle.net_wire.specs.declared.address.IpAddress.{IpAddress}
use Rattle.dns_client.specs.declared.look.Choice as declared
use Rattle.dns_client.specs.declared.look.Choice.TheVariants as variant
use Rattle.dns_client.specs.declared.query.DnsQuery.{DnsQuery}
use Rattle.dns_client.specs.declared.query.QueryState.{QueryState}
use Rattle.dns_client.specs.declared.query.QueryState.TheVariants.{Pending, Answered, Failed}
use Rattle.dns_client.specs.Looks.{Choice, Pass, Keep, Fail, Ask}
use Rattle.dns_client.specs.Turns.{IsShort}
use Rattle.dns_client.specs.Waiting.{RequestValue}

-- the request of a query that waits
abbrev pub request_in : QueryState → Option RequestValue
request_in (Pending waiting) = Some waiting.request
request_in (Answered addresses) = None
request_in Failed = None

abbrev pub request_of : Option DnsQuery → Option RequestValue
request_of None = None
request_of (Some query) = request_in query.state

abbrev pub choice_value : RequestValue → declared.Choice → Choice
choice_value request variant.Pass = Pass
choice_value request (variant.Keep turn) = Keep turn
choice_value request variant.Fail = Fail
choice_value request (variant.Ask from to before after) = Ask request from to before after

-- a choice at a slot: without a request it is to pass
abbrev pub choice_in : Option RequestValue → declared.Choice → Choice
choice_in None choice = Pass
choice_in (Some request) choice = choice_value request choice

-- the turns of a choice are in their bounds
abbrev pub IsShortChoice : declared.Choice → Type 0
IsShortChoice variant.Pass = ⊤
IsShortChoice (variant.Keep turn) = IsShort turn
IsShortChoice variant.Fail = ⊤
IsShortChoice (variant.Ask from to before after) = IsShort before × IsShort after

-- there is a request to fail or to ask, and asking has the source that the emitter gives
abbrev pub IsAsked : (IpAddress → Option IpAddress) → Option RequestValue → declared.Choice → Type 0
IsAsked source request variant.Pass = ⊤
IsAsked source request (variant.Keep turn) = ⊤
IsAsked source request variant.Fail = IsSome request
IsAsked source request (variant.Ask from to before after) = (source to ≡ Some from) × IsSome request
