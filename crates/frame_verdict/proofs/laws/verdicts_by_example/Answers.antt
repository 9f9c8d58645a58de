use Rattle.std.proofs.Common.{refl}
use Rattle.std.specs.Fmt.{digits}
use Rattle.net_wire.specs.Datagram.{pseudo_header}
use Rattle.net_wire.specs.DhcpOptions.{items_within}
use Rattle.net_wire.specs.DnsName.{labels_within, name_len_within}
use Rattle.net_wire.specs.Pretty.{hex_pair, ipv4_address_text}
use Rattle.dns_client.specs.AnswerChain.{answers_at}
use Rattle.frame_verdict.specs.VerdictText.{hardware_text, verdict_text}
use Rattle.frame_verdict.proofs.laws.verdicts_by_example.Goals as goal

pub returns-clause-frames : goal.returns-clause-frames
unfolding pseudo_header
returns-clause-frames c = record {
  short = refl;
  station = refl;
  arp = refl;
  told = refl;
  ether_type = refl;
  cut = refl;
  header_sum = refl;
  fragment = refl;
  source = refl;
  protocol = refl;
  udp = refl;
  udp_sum = refl;
  port = refl;
  server = refl;
  by_mdns = refl;
}

pub returns-clause-messages : goal.returns-clause-messages
unfolding items_within pseudo_header
returns-clause-messages c = record {
  message = refl;
  wrong_op = refl;
  client = refl;
  client_first = refl;
  id = refl;
  kind = refl;
  values = refl;
  offer_late = refl;
  ack_early = refl;
  nak_early = refl;
  nak_unheard = refl;
  offer = refl;
  ack = refl;
  ack_over = refl;
  nak = refl;
}

pub returns-clause-responses : goal.returns-clause-responses
unfolding items_within pseudo_header labels_within name_len_within answers_at
returns-clause-responses c = record {
  response = refl;
  again = refl;
  other_port = refl;
}

pub returns-clause-words : goal.returns-clause-words
unfolding digits hex_pair ipv4_address_text hardware_text verdict_text
returns-clause-words c = record {
  ignored = refl;
  arp = refl;
  offer = refl;
  ack = refl;
  nak = refl;
  response = refl;
}
