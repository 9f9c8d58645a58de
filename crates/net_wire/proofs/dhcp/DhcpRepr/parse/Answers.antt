-- The options that were found are the last ones of their kinds.
use Rattle.std.proofs.Common.{ℕ, List, ap, sym, ◌∙◌, refl, take}
use Rattle.std.specs.Option.{option_map}
use Rattle.net_wire.specs.DhcpRead.{address_in, identifier_in, number16_in, number32_in, unicast_in}
use Rattle.net_wire.proofs.DhcpMessageLemmas.{no_type, other_op, is_message}
use Rattle.net_wire.proofs.dhcp.DhcpRepr.parse.Goals as goal

pub returns-in_default : goal.returns-in_default
returns-in_default c =
    sym (no_type c.args.bytes.now _ _ (sym c.has_header.ensures.value ∙ c.if-not-has_header.false) c.split_at.ensures.back
    c.last_options-found.ensures.message_type (sym c.byte_of.ensures ∙ c.in_default.is))

pub returns-then-bytes-op : goal.returns-then-bytes-op
returns-then-bytes-op c =
    sym (other_op c.args.bytes.now _ _ c.in-Some.number c.op.result (sym c.has_header.ensures.value ∙ c.if-not-has_header.false)
    c.split_at.ensures.back c.last_options-found.ensures.message_type (sym c.byte_of.ensures ∙ c.in-Some.is) c.op.ensures c.if-bytes-op.true)

pub returns : goal.returns
returns c =
    let found = c.last_options-found.ensures in
    rw (
      is_message c.args.bytes.now _ _ c.in-Some.number c.op.result (sym c.has_header.ensures.value ∙ c.if-not-has_header.false)
          c.split_at.ensures.back found.message_type (sym c.byte_of.ensures ∙ c.in-Some.is) c.op.ensures c.if-bytes-op.false,
      c.type_of.ensures,
      c.read_be32.ensures,
      c.read_be16.ensures,
      c.read_array.ensures,
      c.read_array-2.ensures,
      c.read_array-3.ensures,
      c.read_array-4.ensures,
      c.read_array-5.ensures,
      c.read_flag.ensures,
      c.address_of.ensures ∙ ap address_in found.router,
      c.address_of-2.ensures ∙ ap address_in found.subnet_mask,
      c.address_of-3.ensures ∙ ap address_in found.requested_ip,
      c.identifier_of.ensures ∙ ap identifier_in found.client_identifier,
      c.address_of-4.ensures ∙ ap address_in found.server_identifier,
      found.parameter_request_list,
      c.servers_of.ensures ∙ ap (option_map (λ (servers : List ℕ). take 3 (unicast_in servers))) found.dns_servers,
      c.number16_of.ensures ∙ ap number16_in found.max_size,
      c.number32_of.ensures ∙ ap number32_in found.lease_duration,
      c.number32_of-2.ensures ∙ ap number32_in found.renew_duration,
      c.number32_of-3.ensures ∙ ap number32_in found.rebind_duration,
    ) refl
