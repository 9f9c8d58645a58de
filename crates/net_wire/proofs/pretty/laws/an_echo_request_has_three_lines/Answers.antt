use Rattle.net_wire.proofs.PrettyLemmas as lemmas
use Rattle.net_wire.proofs.pretty.laws.an_echo_request_has_three_lines.Goals as goal

pub returns : goal.returns
returns c = lemmas.echo
