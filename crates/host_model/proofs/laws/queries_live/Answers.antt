use Rattle.std.proofs.Common.{refl}
use Rattle.net_wire.specs.Datagram.{pseudo_header}
use Rattle.net_wire.specs.DhcpOptions.{items_within}
use Rattle.net_wire.specs.DnsName.{labels_within, name_len_within}
use Rattle.dns_client.specs.AnswerChain.{answers_at}
use Rattle.host_model.proofs.laws.queries_live.Goals as goal

pub returns-clause-answers : goal.returns-clause-answers
unfolding items_within pseudo_header labels_within name_len_within answers_at
returns-clause-answers c = record {
  asks = refl;
  sends = refl;
  answers = refl;
  once = refl;
  not_before = refl;
  sends_again = refl;
}

pub returns-clause-ends : goal.returns-clause-ends
unfolding items_within
returns-clause-ends c = record {
  sends = refl;
  waits = refl;
  fails = refl;
  refused_first = refl;
  counts_refused = refl;
  at_reset = refl;
  behind_reset = refl;
}

pub returns-clause-refuses : goal.returns-clause-refuses
unfolding items_within
returns-clause-refuses c = record { refused = refl; asks = refl }

pub returns-clause-counts : goal.returns-clause-counts
unfolding items_within
returns-clause-counts c = record { first = refl; next = refl; last = refl; other = refl; lines_are = refl }
