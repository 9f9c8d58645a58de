-- What a client is told, without where its lists lie in memory.
use Rattle.std.specs.Prelude.{ℕ, Bool, false, List, [], ◌∷◌, Option, None, map, length, ◌+◌, ◌<◌, ◌≤◌}
use Rattle.std.specs.List.{AllByRecursion}
use Rattle.net_wire.specs.DhcpMessage.{OptionValue, option_value}
use Rattle.net_wire.specs.DhcpBytes.{IsWritableOption, additional_bytes}
use Rattle.dhcp_client.specs.declared.config.ClientConfig.{ClientConfig}
use Rattle.dhcp_client.specs.declared.retry.RetryConfig.{RetryConfig}
use Rattle.dhcp_client.specs.Retry.{default_retry}

-- timeouts; ports; the greatest lease in microseconds; whether refusals are ignored; what is asked of servers
-- (RFC 2132, section 9.8); the caller's options
pub record ClientSettings : Type 0 where
  pub retry : RetryConfig
  pub server_port : ℕ
  pub client_port : ℕ
  pub max_lease : Option ℕ
  pub ignore_naks : Bool
  pub parameters : List ℕ
  pub options : List OptionValue

abbrev pub client_settings : ClientConfig → ClientSettings
client_settings config = record {
  retry = config.retry;
  server_port = config.server_port;
  client_port = config.client_port;
  max_lease = config.max_lease;
  ignore_naks = config.ignore_naks;
  parameters = config.parameters.now;
  options = map option_value config.options.now;
}

-- the ports 67 and 68 (RFC 2131, section 4.1); the subnet mask, the router and the name servers are asked for
abbrev pub default_settings : ClientSettings
default_settings = record {
  retry = default_retry;
  server_port = 67;
  client_port = 68;
  max_lease = None;
  ignore_naks = false;
  parameters = 1 ∷ 3 ∷ 6 ∷ [];
  options = [];
}

-- the list has one byte or more, and a length of one byte
abbrev pub IsRequestList : List ℕ → Type 0
IsRequestList parameters = (0 < length parameters) × (length parameters ≤ 255)

-- a client's messages can be written: the longest is a request, of 271 bytes, the request list and the
-- caller's options
pub record AreSettingsWritable (settings : ClientSettings) (ip_mtu : ℕ) : Type 0 where
  pub mtu : 68 ≤ ip_mtu
  pub options : AllByRecursion IsWritableOption settings.options
  pub size : 271 + length settings.parameters + length (additional_bytes settings.options) ≤ 65507
