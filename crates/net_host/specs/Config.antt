-- What a host is told once: which values are refused, and what holds of those that are not.
use Rattle.std.specs.Prelude.{◌≡◌, ℕ, ◌+◌, ◌≤◌, ◌==◌, ◌||◌, nat_lt, Bool, false, Option, None}
use Rattle.std.specs.Prelude.{List, [], ◌∷◌, length, replicate}
use Rattle.std.specs.List.{find, list_any}
use Rattle.net_wire.specs.declared.address.EthernetAddress.{EthernetAddress}
use Rattle.net_wire.specs.declared.address.Ipv4Address.{Ipv4Address}
use Rattle.net_wire.specs.Arrival.{is_group}
use Rattle.net_wire.specs.DhcpBytes.{message_bytes}
use Rattle.net_wire.specs.DhcpMessage.{OptionValue}
use Rattle.dhcp_client.specs.declared.retry.RetryConfig.{RetryConfig}
use Rattle.dhcp_client.specs.Config.{AreSettingsWritable, IsRequestList, default_settings}
use Rattle.dhcp_client.specs.Messages.{request_message, unspecified}
use Rattle.host_model.specs.Settings.{Settings}
use Rattle.net_host.specs.declared.config.HostConfigError.{HostConfigError}
use Rattle.net_host.specs.declared.config.HostConfigError.TheVariants.{Hardware, Mtu, DiscoverTimeout}
use Rattle.net_host.specs.declared.config.HostConfigError.TheVariants.{RequestTimeout, RequestRetries}
use Rattle.net_host.specs.declared.config.HostConfigError.TheVariants.{LeastRenew, GreatestRenew, ServerPort}
use Rattle.net_host.specs.declared.config.HostConfigError.TheVariants.{ClientPort, Parameters, Options, Size}

-- in microseconds
abbrev pub second : ℕ
second = 1000000

abbrev pub day : ℕ
day = 86400000000

abbrev pub is_outside : ℕ → ℕ → ℕ → Bool
is_outside least greatest value = nat_lt value least || nat_lt greatest value

-- none (RFC 768), that of DNS (RFC 1035, section 4.2.1), and that of multicast DNS (RFC 6762, section 3)
abbrev pub is_foreign_port : ℕ → Bool
is_foreign_port port = port == 0 || port == 53 || port == 5353

-- padding or the end (RFC 2132, sections 3.1 and 3.2), or bytes that its length of one byte cannot count
abbrev pub is_unwritable : OptionValue → Bool
is_unwritable option = is_outside 1 254 option.kind || nat_lt 255 (length option.bytes)

-- The IPv4 datagram of a request, the longest message of the client: it alone names a server and an address
-- (RFC 2131, table 5). Its addresses and its id have the same room whatever they are. The headers of IPv4
-- (RFC 791, section 3.1) and UDP (RFC 768) have 20 and 8 bytes.
abbrev pub request_len : Settings → ℕ
request_len settings =
    20 + 8 + length (message_bytes (request_message unspecified unspecified (record { 0 = replicate 6 0 })
    settings.ip_mtu settings.client.parameters settings.client.options 0))

-- Whether the value that an error names is refused. Each host takes in datagrams of 576 bytes (RFC 1122,
-- section 3.3.2), and an Ethernet frame carries 1500 (RFC 894).
abbrev pub is_refused : Settings → HostConfigError → Bool
is_refused settings Hardware = is_group settings.hardware.0
is_refused settings Mtu = is_outside 576 1500 settings.ip_mtu
is_refused settings DiscoverTimeout = is_outside second day settings.client.retry.discover_timeout
is_refused settings RequestTimeout = is_outside second day settings.client.retry.initial_request_timeout
is_refused settings RequestRetries = is_outside 1 32 settings.client.retry.request_retries
is_refused settings LeastRenew = is_outside second day settings.client.retry.min_renew_timeout
is_refused settings GreatestRenew = nat_lt settings.client.retry.max_renew_timeout second
is_refused settings ServerPort = is_foreign_port settings.client.server_port
is_refused settings ClientPort = is_foreign_port settings.client.client_port
is_refused settings Parameters = is_outside 1 255 (length settings.client.parameters)
is_refused settings Options = list_any is_unwritable settings.client.options
is_refused settings Size = nat_lt settings.ip_mtu (request_len settings)

-- in the order in which they are tried
abbrev pub all_errors : List HostConfigError
all_errors = Hardware ∷ Mtu ∷ DiscoverTimeout ∷ RequestTimeout ∷ RequestRetries ∷ LeastRenew ∷ GreatestRenew
    ∷ ServerPort ∷ ClientPort ∷ Parameters ∷ Options ∷ Size ∷ []

-- the first value that is refused
unfoldable pub refusal_of : Settings → Option HostConfigError
refusal_of settings = find (is_refused settings) all_errors

-- a value from the least to the greatest
pub record IsWithin (least greatest value : ℕ) : Type 0 where
  pub low : least ≤ value
  pub high : value ≤ greatest

-- timeouts of a second to a day, but the greatest one is only not below a second, and 1 to 32 requests
pub record IsFair (retry : RetryConfig) : Type 0 where
  pub discover : IsWithin second day retry.discover_timeout
  pub request : IsWithin second day retry.initial_request_timeout
  pub retries : IsWithin 1 32 retry.request_retries
  pub least : IsWithin second day retry.min_renew_timeout
  pub greatest : second ≤ retry.max_renew_timeout

-- what a host and its DHCP client rely on
pub record CanRun (settings : Settings) : Type 0 where
  pub station : is_group settings.hardware.0 ≡ false
  pub mtu : IsWithin 576 1500 settings.ip_mtu
  pub retry : IsFair settings.client.retry
  pub server_port : is_foreign_port settings.client.server_port ≡ false
  pub client_port : is_foreign_port settings.client.client_port ≡ false
  pub parameters : IsRequestList settings.client.parameters
  pub writable : AreSettingsWritable settings.client settings.ip_mtu
  pub fits : request_len settings ≤ settings.ip_mtu

-- the default values but for the hardware address, the MTU, the cap on leases and the rule for refusals
abbrev pub default_host : EthernetAddress → ℕ → Option ℕ → Bool → Settings
default_host hardware ip_mtu max_lease ignore_naks = record {
  hardware = hardware;
  ip_mtu = ip_mtu;
  client = record default_settings { max_lease = max_lease; ignore_naks = ignore_naks };
}

-- They are accepted with the address of any station and any MTU of the range.
abbrev pub DefaultsAreAccepted : Type 0
DefaultsAreAccepted = (hardware : EthernetAddress) (ip_mtu : ℕ) (max_lease : Option ℕ) (ignore_naks : Bool)
    → is_group hardware.0 ≡ false → 576 ≤ ip_mtu → ip_mtu ≤ 1500
    → refusal_of (default_host hardware ip_mtu max_lease ignore_naks) ≡ None

-- whatever it names, a request has that length
abbrev pub RequestsHaveOneLength : Type 0
RequestsHaveOneLength = (settings : Settings) (server requested : Ipv4Address) (id : ℕ)
    → length server.0 ≡ 4 → length requested.0 ≡ 4 → length settings.hardware.0 ≡ 6
    → 20 + 8 + length (message_bytes (request_message server requested settings.hardware settings.ip_mtu
    settings.client.parameters settings.client.options id)) ≡ request_len settings
