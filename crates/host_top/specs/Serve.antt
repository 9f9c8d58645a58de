-- The words that name a lease server, and what it leaves.
use Rattle.std.specs.Prelude.{◌≡◌, ℕ, ◌≤◌, List, [], None, Result, Ok, Err, OnOk, IfErr, length}
use Rattle.lease_server.specs.Values.{Values, refused}
use Rattle.host_top.specs.declared.serve_command.ServeCommand.{ServeCommand}
use Rattle.net_host.specs.Outside.{Outside, IsQuiet}
use Rattle.server_run.specs.declared.report.ServeRow.{ServeRow}
use Rattle.server_run.specs.declared.serve_error.ServeError.{ServeError}
use Rattle.server_run.specs.declared.serve_error.ServeError.TheVariants as error
use Rattle.server_run.specs.Served.{Finished, Leaves, HasCause}
use Rattle.host_top.specs.declared.ending.Ending.{Ending}
use Rattle.host_top.specs.declared.ending.Ending.TheVariants.{Done, Script, Limit, Read, Capture, NoMemory}
use Rattle.host_top.specs.Ipv4Word.{IsIpv4Word}
use Rattle.host_top.specs.RunWords.{IsCountWord}
use Rattle.host_top.specs.Word.{IsNumberWord, IsU32Word, IsAddressWord, argument_at}

-- one to four decimal digits, at most 1000
pub record IsRangeWord (word : List ℕ) (count : ℕ) : Type 0 where
  pub writes : IsNumberWord 10 4 word count
  pub limit : count ≤ 1000

-- one or two decimal digits, at most 30
pub record IsPrefixWord (word : List ℕ) (prefix_len : ℕ) : Type 0 where
  pub writes : IsNumberWord 10 2 word prefix_len
  pub limit : prefix_len ≤ 30

-- what the server is told: neither a router nor name servers
abbrev pub values_named : ServeCommand → Values
values_named serve = record {
  hardware = serve.hardware;
  address = serve.address;
  prefix_len = serve.prefix_len;
  first = serve.first;
  count = serve.count;
  lease_secs = serve.lease_secs;
  router = None;
  dns_servers = [];
}

-- the words are the server's two addresses, the range's first one and their number, a prefix, a lease and the most
-- events
pub record SpellsServe (words : List (List ℕ)) (serve : ServeCommand) : Type 0 where
  pub seven : length words ≡ 7
  pub hardware : IsAddressWord (argument_at words 0) serve.hardware
  pub address : IsIpv4Word (argument_at words 1) serve.address
  pub first : IsIpv4Word (argument_at words 2) serve.first
  pub count : IsRangeWord (argument_at words 3) serve.count
  pub prefix : IsPrefixWord (argument_at words 4) serve.prefix_len
  pub lease : IsU32Word (argument_at words 5) serve.lease_secs
  pub max : IsCountWord (argument_at words 6) serve.max_events

-- and no server refuses what they say
pub record WritesServe (words : List (List ℕ)) (serve : ServeCommand) : Type 0 where
  pub spells : SpellsServe words serve
  pub accepted : refused (values_named serve) ≡ None

-- what it relies on
pub record IsServable (serve : ServeCommand) : Type 0 where
  pub accepted : refused (values_named serve) ≡ None
  pub some : 1 ≤ serve.max_events
  pub limit : serve.max_events ≤ 10000

-- how it ended, by its answer
abbrev pub ending_served : Result (Unit {0}) ServeError → Ending
ending_served (Ok _) = Done
ending_served (Err (error.Script offset)) = Script offset
ending_served (Err error.Limit) = Limit
ending_served (Err error.Read) = Read
ending_served (Err error.Sink) = Capture
ending_served (Err error.NoMemory) = NoMemory

-- what it left when it ended so, and why
pub record ServesAs (serve : ServeCommand) (before after : Outside) (rows : List ServeRow) (ending : Ending) : Type 0 where
  pub answer : Result (Unit {0}) ServeError
  pub ends : ending ≡ ending_served answer
  pub finished : OnOk answer (Finished (values_named serve) serve.max_events before after rows)
  pub quiet : OnOk answer (IsQuiet before after)
  pub leaves : IfErr answer (Leaves (values_named serve) serve.max_events before after rows)
  pub cause : IfErr answer (HasCause serve.max_events before after)
