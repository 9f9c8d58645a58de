-- How long the messages of a server are, and that they can be written.
use Rattle.std.proofs.Common.{◌≡◌, ℕ, ◌+◌, ◌<◌, ◌≤◌, List, [], ◌∷◌, ◌++◌, length, Option, Some, None, IfSome, sym, subst, arith, length-append}
use Rattle.std.specs.List.{AllByRecursion}
use Rattle.net_wire.specs.declared.address.EthernetAddress.{EthernetAddress}
use Rattle.net_wire.specs.declared.address.Ipv4Address.{Ipv4Address}
use Rattle.net_wire.specs.DhcpBytes.{message_bytes, header_bytes, options_bytes, additional_bytes, address_option, addresses_option, option_bytes, identifier_option, number16_option, number32_option, type_number, bytes_option, IsWritable, IsWritableOption}
use Rattle.net_wire.specs.DhcpMessage.{Message, OptionValue}
use Rattle.net_wire.specs.DhcpReadBack.{HasFour}
use Rattle.server_run.specs.Serving.{IsPlain}

-- as wide as the fields of a message are
pub record HasWidths (message : Message) : Type 0 where
  pub client_ip : HasFour message.client_ip
  pub your_ip : HasFour message.your_ip
  pub server_ip : HasFour message.server_ip
  pub relay_agent_ip : HasFour message.relay_agent_ip
  pub client_hardware_address : length message.client_hardware_address.0 ≡ 6
  pub client_identifier : IfSome message.client_identifier (λ client. length client.0 ≡ 6)
  pub server_identifier : IfSome message.server_identifier HasFour
  pub router : IfSome message.router HasFour
  pub subnet_mask : IfSome message.subnet_mask HasFour
  pub requested_ip : IfSome message.requested_ip HasFour
  pub dns_servers : length (addresses_option 6 message.dns_servers) ≤ 14

short_address : (kind : ℕ) (address : Option Ipv4Address) → IfSome address HasFour → length (address_option kind address) ≤ 6
short_address kind None four = omega arith
short_address kind (Some address) four = omega (arith, four)

short_identifier : (kind : ℕ) (address : Option EthernetAddress) → IfSome address (λ client. length client.0 ≡ 6)
    → length (identifier_option kind address) ≤ 9
short_identifier kind None six = omega arith
short_identifier kind (Some address) six = omega (arith, six)

short_number16 : (kind : ℕ) (number : Option ℕ) → length (number16_option kind number) ≤ 4
short_number16 kind None = omega arith
short_number16 kind (Some number) = omega arith

short_number32 : (kind : ℕ) (number : Option ℕ) → length (number32_option kind number) ≤ 6
short_number32 kind None = omega arith
short_number32 kind (Some number) = omega arith

length-header : (m : Message) → HasWidths m → length (header_bytes m) ≡ 240
unfolding header_bytes
length-header m wide =
    simp length-append (omega (arith, wide.client_ip, wide.your_ip, wide.server_ip, wide.relay_agent_ip, wide.client_hardware_address))

length-parts : (a b c d e f g h i j k l m n : List ℕ)
    → length (a ++ b ++ c ++ d ++ e ++ f ++ g ++ h ++ i ++ j ++ k ++ l ++ m ++ n)
    ≡ length a + length b + length c + length d + length e + length f + length g + length h + length i + length j
    + length k + length l + length m + length n
length-parts a b c d e f g h i j k l m n = simp length-append

no_list : (kind : ℕ) (list : Option (List ℕ)) → list ≡ None → length (bytes_option kind list) ≤ 0
no_list kind list none =
    let P : Option (List ℕ) → Type 0 = λ l. length (bytes_option kind l) ≤ 0 in
    subst P (sym none) (omega arith)

no_options : (options : List OptionValue) → options ≡ [] → length (additional_bytes options) ≤ 0
no_options options none =
    let P : List OptionValue → Type 0 = λ l. length (additional_bytes l) ≤ 0 in
    subst P (sym none) (omega arith)

short_options : (m : Message) → IsPlain m → HasWidths m → length (options_bytes m) ≤ 100
unfolding options_bytes
short_options m plain wide =
    let parts = length-parts (option_bytes 53 (type_number m.message_type ∷ [])) (identifier_option 61 m.client_identifier)
    (address_option 54 m.server_identifier) (address_option 3 m.router) (address_option 1 m.subnet_mask)
    (address_option 50 m.requested_ip) (number16_option 57 m.max_size) (number32_option 51 m.lease_duration)
    (number32_option 58 m.renew_duration) (number32_option 59 m.rebind_duration) (bytes_option 55 m.parameter_request_list)
    (addresses_option 6 m.dns_servers) (additional_bytes m.additional_options) (255 ∷ []) in
    omega (
      arith,
      parts,
      short_identifier 61 m.client_identifier wide.client_identifier,
      short_address 54 m.server_identifier wide.server_identifier,
      short_address 3 m.router wide.router,
      short_address 1 m.subnet_mask wide.subnet_mask,
      short_address 50 m.requested_ip wide.requested_ip,
      short_number16 57 m.max_size,
      short_number32 51 m.lease_duration,
      short_number32 58 m.renew_duration,
      short_number32 59 m.rebind_duration,
      no_list 55 m.parameter_request_list plain.request_list,
      wide.dns_servers,
      no_options m.additional_options plain.options,
    )

pub short_message : (m : Message) → IsPlain m → HasWidths m → length (message_bytes m) ≤ 340
unfolding message_bytes
short_message m plain wide =
    omega (arith, length-append (header_bytes m) (options_bytes m), length-header m wide, short_options m plain wide)

pub is_writable : (m : Message) → IsPlain m → HasWidths m → IsWritable m
is_writable m plain wide =
    let P : Option (List ℕ) → Type 0 = λ list. IfSome list (λ l. (0 < length l) × (length l ≤ 255)) in
    let Q : List OptionValue → Type 0 = AllByRecursion IsWritableOption in
    record {
      request_list = subst P (sym plain.request_list) tt;
      options = subst Q (sym plain.options) tt;
      size = omega (arith, short_message m plain wide);
    }
