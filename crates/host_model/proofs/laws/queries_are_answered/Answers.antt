use Rattle.std.proofs.Common.{refl}
use Rattle.net_wire.specs.DnsName.{labels_within, name_len_within}
use Rattle.dns_client.specs.AnswerChain.{answers_at}
use Rattle.host_model.proofs.laws.queries_are_answered.Goals as goal

pub returns-clause-answers : goal.returns-clause-answers
unfolding name_len_within labels_within answers_at
returns-clause-answers c = record {
  answers = refl;
  before_message = refl;
  before_known_hop = refl;
  other_server = refl;
  no_server = refl;
  no_longer_listed = refl;
  other_source_port = refl;
  by_mdns = refl;
  to_other_port = refl;
  with_other_id = refl;
  of_other_name = refl;
  cut_short = refl;
  no_response = refl;
  earlier_server = refl;
  last_server = refl;
}

pub returns-clause-reaches : goal.returns-clause-reaches
unfolding name_len_within labels_within answers_at
returns-clause-reaches c = record {
  gone = refl;
  gone_elsewhere = refl;
  first = refl;
  first_undecided = refl;
  no_address = refl;
}
