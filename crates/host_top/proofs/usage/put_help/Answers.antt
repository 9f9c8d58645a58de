use Rattle.host_top.proofs.TextLemmas.{puts_then}
use Rattle.host_top.proofs.usage.put_help.Goals as goal

pub returns : goal.returns
returns g c = puts_then c.put_usage.ensures (puts_then c.put_words.ensures c.put_files.ensures)
