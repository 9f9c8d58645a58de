-- What is heard, without where its lists lie in memory.
use Rattle.dhcp_client.specs.declared.heard.Granted as declared_granted
use Rattle.dhcp_client.specs.declared.heard.Heard as declared_heard
use Rattle.dhcp_client.specs.declared.heard.Heard.TheVariants as variant
use Rattle.dhcp_client.specs.declared.heard.LeaseSpans.{LeaseSpans}
use Rattle.dhcp_client.specs.Times.{Spans, spans_with}
use Rattle.dhcp_client.specs.Heard.{Granted, Heard, Nothing, AnOffer, AnAck, ARefusal}

abbrev pub spans_value : LeaseSpans → Spans
spans_value times = spans_with times.renew times.rebind times.end

abbrev pub granted_value : declared_granted.Granted → Granted
granted_value granted = record {
  address = granted.address;
  router = granted.router;
  dns_servers = granted.dns_servers.items;
  times = spans_value granted.times;
}

abbrev pub heard_value : declared_heard.Heard → Heard
heard_value variant.Nothing = Nothing
heard_value (variant.Offer server address) = AnOffer server address
heard_value (variant.Ack granted) = AnAck (granted_value granted)
heard_value variant.Refusal = ARefusal
