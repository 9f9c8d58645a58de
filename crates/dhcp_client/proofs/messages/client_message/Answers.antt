use Rattle.std.proofs.Common.{rules}
use Rattle.dhcp_client.proofs.MessageLemmas.{message_is_writable}
use Rattle.dhcp_client.proofs.messages.client_message.Goals as goal

pub returns-clause-writable : goal.returns-clause-writable
returns-clause-writable c =
    message_is_writable c.args.naming.message_type c.args.naming.client_ip c.args.naming.server_identifier c.args.naming.requested_ip
    c.args.naming.hardware_addr c.args.naming.ip_mtu c.args.naming.transaction_id _ _ (search rules) (search rules)
    c.requires.request_list c.requires.options c.requires.size
