-- The message is plain, and its fields are as wide as their types say.
use Rattle.std.proofs.Common.{rules, arith}
use Rattle.net_wire.specs.DhcpMessage.{message_of}
use Rattle.server_run.proofs.SizeLemmas.{is_writable}
use Rattle.server_run.proofs.frames.writable.Goals as goal

pub returns-clause-writable : goal.returns-clause-writable
returns-clause-writable c = is_writable (message_of c.args.message) c.requires record {
  client_ip = search rules;
  your_ip = search rules;
  server_ip = search rules;
  relay_agent_ip = search rules;
  client_hardware_address = search rules;
  client_identifier = search rules;
  server_identifier = search rules;
  router = search rules;
  subnet_mask = search rules;
  requested_ip = search rules;
  dns_servers = omega (arith, c.servers_len-servers.ensures.value, c.servers_len-servers.ensures.within);
}
