use Rattle.std.proofs.Common.{refl}
use Rattle.net_wire.specs.DnsName.{name_len_within, labels_within}
use Rattle.dns_client.specs.AnswerChain.{answers_at}
use Rattle.dns_client.proofs.laws.responses_by_example.Goals as goal

pub returns : goal.returns
unfolding name_len_within labels_within answers_at
returns c = record {
  decided = refl;
  other_server = refl;
  other_source_port = refl;
  other_port = refl;
  before_message = refl;
  other_name = refl;
  cut_short = refl;
  first_alone = refl;
  gone = refl;
  gone_elsewhere = refl;
  server_failure = refl;
  any_station = refl;
  not_by_mdns = refl;
}
