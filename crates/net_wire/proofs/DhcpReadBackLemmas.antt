-- A message that was written is read again.
use Rattle.std.proofs.Common.{◌≡◌, ℕ, List, [], ◌∷◌, ◌++◌, map, ap, sym, ◌∙◌, refl, arith, append_assoc, Option, Some, None, true}
use Rattle.std.specs.List.{AllByRecursion}
use Rattle.std.specs.Prelude.{option_map, take}
use Rattle.net_wire.specs.DhcpBytes.{bytes_option, header_bytes, message_bytes, options_bytes, op_of, type_number, additional_bytes}
use Rattle.net_wire.specs.DhcpMessage.{Message}
use Rattle.net_wire.specs.DhcpOptions.{Item, items_of, last_from, last_of}
use Rattle.net_wire.specs.DhcpRead.{address_in, identifier_in, message_with, number16_in, number32_in, type_of_number, unicast_in}
use Rattle.net_wire.specs.DhcpReadBack.{IsReadable, ReadsWritten, is_known}
use Rattle.net_wire.proofs.DhcpFieldsLemmas.{Field, IsRightField, counting, counts_fields, field, fields_bytes, fields_read, option_item, options_passed, options_read, or_before, with_items}
use Rattle.net_wire.proofs.DhcpHeaderLemmas.{IsRead, header_read, is_read_header}
use Rattle.net_wire.proofs.DhcpMessageLemmas.{is_message}
use Rattle.net_wire.proofs.DhcpValuesLemmas as values

abbrev fields_of : Message → List Field
fields_of m =
    field 53 (Some (type_number m.message_type ∷ [])) ∷ field 61 (values.identifier_value m.client_identifier)
    ∷ field 54 (values.address_value m.server_identifier) ∷ field 3 (values.address_value m.router)
    ∷ field 1 (values.address_value m.subnet_mask) ∷ field 50 (values.address_value m.requested_ip)
    ∷ field 57 (values.number16_value m.max_size) ∷ field 51 (values.number32_value m.lease_duration)
    ∷ field 58 (values.number32_value m.renew_duration) ∷ field 59 (values.number32_value m.rebind_duration)
    ∷ field 55 m.parameter_request_list ∷ field 6 (values.addresses_value m.dns_servers) ∷ []

right_fields : (m : Message) → IsReadable m → AllByRecursion IsRightField (fields_of m)
right_fields m is = (
  (omega arith, omega arith, refl),
  (
    (omega arith, omega arith, values.identifier_right m.client_identifier is.client_identifier),
    (
      (omega arith, omega arith, values.address_right 54 m.server_identifier (λ a b c d. refl) is.server_identifier),
      (
        (omega arith, omega arith, values.address_right 3 m.router (λ a b c d. refl) is.router),
        (
          (omega arith, omega arith, values.address_right 1 m.subnet_mask (λ a b c d. refl) is.subnet_mask),
          (
            (omega arith, omega arith, values.address_right 50 m.requested_ip (λ a b c d. refl) is.requested_ip),
            (
              (omega arith, omega arith, values.number16_right m.max_size),
              (
                (omega arith, omega arith, values.number32_right 51 m.lease_duration (λ a b c d. refl)),
                (
                  (omega arith, omega arith, values.number32_right 58 m.renew_duration (λ a b c d. refl)),
                  (
                    (omega arith, omega arith, values.number32_right 59 m.rebind_duration (λ a b c d. refl)),
                    (
                      (omega arith, omega arith, values.list_right m.parameter_request_list is.parameter_request_list),
                      ((omega arith, omega arith, values.servers_right m.dns_servers is.dns_servers), tt),
                    ),
                  ),
                ),
              ),
            ),
          ),
        ),
      ),
    ),
  ),
)

-- the options one behind another, grouped from the right
abbrev joined : List ℕ → List (List ℕ) → List ℕ
joined front [] = front
joined front (piece ∷ pieces) = joined (front ++ piece) pieces

abbrev from_right : List (List ℕ) → List ℕ → List ℕ
from_right [] last = last
from_right (piece ∷ pieces) last = piece ++ from_right pieces last

joined_is : (front : List ℕ) (pieces : List (List ℕ)) (last : List ℕ) → joined front pieces ++ last ≡ front ++ from_right pieces last
joined_is front [] last = refl
joined_is front (piece ∷ pieces) last = joined_is (front ++ piece) pieces last ∙ append_assoc front piece (from_right pieces last)

regrouped : (a b c d e f g h i j k l extra last : List ℕ)
    → a ++ b ++ c ++ d ++ e ++ f ++ g ++ h ++ i ++ j ++ k ++ l ++ extra ++ last
    ≡ a ++ (b ++ (c ++ (d ++ (e ++ (f ++ (g ++ (h ++ (i ++ (j ++ (k ++ (l ++ (extra ++ last))))))))))))
regrouped a b c d e f g h i j k l extra last =
    let pieces = b ∷ c ∷ d ∷ e ∷ f ∷ g ∷ h ∷ i ∷ j ∷ k ∷ l ∷ [] in
    append_assoc (joined a pieces) extra last ∙ joined_is a pieces (extra ++ last)

options_are : (m : Message) → options_bytes m ≡ fields_bytes (fields_of m) (additional_bytes m.additional_options ++ 255 ∷ [])
unfolding options_bytes
options_are m =
    rw (
      values.identifier_is 61 m.client_identifier,
      values.address_is 54 m.server_identifier,
      values.address_is 3 m.router,
      values.address_is 1 m.subnet_mask,
      values.address_is 50 m.requested_ip,
      values.number16_is 57 m.max_size,
      values.number32_is 51 m.lease_duration,
      values.number32_is 58 m.renew_duration,
      values.number32_is 59 m.rebind_duration,
      values.addresses_is 6 m.dns_servers,
    )
    (regrouped (bytes_option 53 (Some (type_number m.message_type ∷ []))) (bytes_option 61 (values.identifier_value m.client_identifier))
    (bytes_option 54 (values.address_value m.server_identifier)) (bytes_option 3 (values.address_value m.router))
    (bytes_option 1 (values.address_value m.subnet_mask)) (bytes_option 50 (values.address_value m.requested_ip))
    (bytes_option 57 (values.number16_value m.max_size)) (bytes_option 51 (values.number32_value m.lease_duration))
    (bytes_option 58 (values.number32_value m.renew_duration)) (bytes_option 59 (values.number32_value m.rebind_duration))
    (bytes_option 55 m.parameter_request_list) (bytes_option 6 (values.addresses_value m.dns_servers))
    (additional_bytes m.additional_options) (255 ∷ []))

written_items : (m : Message) → IsReadable m → items_of (options_bytes m) ≡ with_items (fields_of m) (map option_item m.additional_options)
written_items m is =
    ap items_of (options_are m)
    ∙ fields_read (fields_of m) (additional_bytes m.additional_options ++ 255 ∷ []) (map option_item m.additional_options)
    (right_fields m is) (options_read m.additional_options is.additional_options)

last_is : (m : Message) → IsReadable m → (wanted : ℕ) → is_known wanted ≡ true
    → last_of wanted (items_of (options_bytes m)) ≡ counting wanted None (fields_of m)
last_is m is wanted known =
    ap (λ items. last_from wanted None items) (written_items m is)
    ∙ counts_fields wanted None (fields_of m) (map option_item m.additional_options) (right_fields m is)
    ∙ options_passed wanted (counting wanted None (fields_of m)) m.additional_options known is.additional_options

plain : (value : Option (List ℕ)) → or_before value None ≡ value
plain None = refl
plain (Some bytes) = refl

-- what is read of the options
record AreRead (m : Message) (items : List Item) : Type 0 where
  client_identifier : identifier_in (last_of 61 items) ≡ m.client_identifier
  server_identifier : address_in (last_of 54 items) ≡ m.server_identifier
  router : address_in (last_of 3 items) ≡ m.router
  subnet_mask : address_in (last_of 1 items) ≡ m.subnet_mask
  requested_ip : address_in (last_of 50 items) ≡ m.requested_ip
  max_size : number16_in (last_of 57 items) ≡ m.max_size
  lease_duration : number32_in (last_of 51 items) ≡ m.lease_duration
  renew_duration : number32_in (last_of 58 items) ≡ m.renew_duration
  rebind_duration : number32_in (last_of 59 items) ≡ m.rebind_duration
  parameter_request_list : last_of 55 items ≡ m.parameter_request_list
  dns_servers : option_map (λ servers. take 3 (unicast_in servers)) (last_of 6 items) ≡ m.dns_servers

options_are_read : (m : Message) → IsReadable m → AreRead m (items_of (options_bytes m))
options_are_read m is = record {
  client_identifier = ap identifier_in (last_is m is 61 refl ∙ plain (values.identifier_value m.client_identifier))
      ∙ values.identifier_read m.client_identifier is.client_identifier;
  server_identifier = ap address_in (last_is m is 54 refl ∙ plain (values.address_value m.server_identifier))
      ∙ values.address_read m.server_identifier is.server_identifier;
  router = ap address_in (last_is m is 3 refl ∙ plain (values.address_value m.router)) ∙ values.address_read m.router is.router;
  subnet_mask = ap address_in (last_is m is 1 refl ∙ plain (values.address_value m.subnet_mask))
      ∙ values.address_read m.subnet_mask is.subnet_mask;
  requested_ip = ap address_in (last_is m is 50 refl ∙ plain (values.address_value m.requested_ip))
      ∙ values.address_read m.requested_ip is.requested_ip;
  max_size = ap number16_in (last_is m is 57 refl ∙ plain (values.number16_value m.max_size))
      ∙ values.number16_read m.max_size is.max_size;
  lease_duration = ap number32_in (last_is m is 51 refl ∙ plain (values.number32_value m.lease_duration))
      ∙ values.number32_read m.lease_duration is.lease_duration;
  renew_duration = ap number32_in (last_is m is 58 refl ∙ plain (values.number32_value m.renew_duration))
      ∙ values.number32_read m.renew_duration is.renew_duration;
  rebind_duration = ap number32_in (last_is m is 59 refl ∙ plain (values.number32_value m.rebind_duration))
      ∙ values.number32_read m.rebind_duration is.rebind_duration;
  parameter_request_list = last_is m is 55 refl ∙ plain m.parameter_request_list;
  dns_servers = ap (λ value. option_map (λ servers. take 3 (unicast_in servers)) value)
      (last_is m is 6 refl ∙ plain (values.addresses_value m.dns_servers)) ∙ values.servers_read m.dns_servers is.dns_servers;
}

message_same : (m : Message) (bytes options : List ℕ) (items : List Item) → IsRead m bytes options → AreRead m items
    → type_of_number (type_number m.message_type) ≡ m.message_type
    → message_with bytes items (type_number m.message_type) ≡ record m { additional_options = [] }
message_same m bytes options items h o type =
    rw (
      type,
      h.transaction_id,
      h.secs,
      h.broadcast,
      h.client_ip,
      h.your_ip,
      h.server_ip,
      h.relay_agent_ip,
      h.client_hardware_address,
      o.client_identifier,
      o.server_identifier,
      o.router,
      o.subnet_mask,
      o.requested_ip,
      o.max_size,
      o.lease_duration,
      o.renew_duration,
      o.rebind_duration,
      o.parameter_request_list,
      o.dns_servers,
    ) refl

pub reads_written : ReadsWritten
unfolding message_bytes
reads_written m is =
    let options = options_bytes m in
    let bytes = header_bytes m ++ options in
    let number = type_number m.message_type in
    let h = header_read m options is in
    is_message bytes options (Some (number ∷ [])) number (op_of number) (is_read_header m bytes options h) (sym h.behind)
    (sym (last_is m is 53 refl)) refl refl h.op
    ∙ ap (λ message. Some message) (message_same m bytes options (items_of options) h (options_are_read m is) is.message_type)
