-- Closed examples of which values of a configuration are refused, and which refusal comes first.
use Rattle.std.specs.Prelude.{◌≡◌, ℕ, List, [], ◌∷◌, ◌++◌, Some, None, map, false, replicate}
use Rattle.net_wire.specs.DhcpMessage.{OptionValue}
use Rattle.dhcp_client.specs.declared.retry.RetryConfig.{RetryConfig}
use Rattle.dhcp_client.specs.Config.{ClientSettings, default_settings}
use Rattle.dhcp_client.specs.Retry.{default_retry}
use Rattle.host_model.specs.Settings.{Settings}
use Rattle.net_host.specs.declared.config.HostConfigError.{HostConfigError}
use Rattle.net_host.specs.declared.config.HostConfigError.TheVariants.{Hardware, Mtu, DiscoverTimeout}
use Rattle.net_host.specs.declared.config.HostConfigError.TheVariants.{RequestTimeout, RequestRetries}
use Rattle.net_host.specs.declared.config.HostConfigError.TheVariants.{LeastRenew, GreatestRenew, ServerPort}
use Rattle.net_host.specs.declared.config.HostConfigError.TheVariants.{ClientPort, Parameters, Options, Size}
use Rattle.net_host.specs.Config.{all_errors, default_host, refusal_of}

-- the default values but for one part
abbrev pub with_link : ℕ → ℕ → Settings
with_link first_byte ip_mtu = default_host (record { 0 = first_byte ∷ replicate 5 2 }) ip_mtu None false

abbrev pub with_client : ClientSettings → Settings
with_client client = record (with_link 2 576) { client = client }

abbrev pub with_retry : RetryConfig → Settings
with_retry retry = with_client (record default_settings { retry = retry })

abbrev pub with_ports : ℕ → ℕ → Settings
with_ports server client =
    with_client (record default_settings { server_port = server; client_port = client })

-- a request list of so many kinds, and options
abbrev pub with_lists : ℕ → List OptionValue → Settings
with_lists kinds options =
    with_client (record default_settings { parameters = replicate kinds 1; options = options })

abbrev pub option_of : ℕ → ℕ → OptionValue
option_of kind len = record { kind = kind; bytes = replicate len 0 }

-- the first settings are accepted, and the second ones refused by this error
abbrev pub IsEdge : HostConfigError → Settings → Settings → Type 0
IsEdge error inside outside = (refusal_of inside ≡ None) × (refusal_of outside ≡ Some error)

pub record LinkEdges : Type 0 where
  pub hardware : IsEdge Hardware (with_link 2 1500) (with_link 3 1500)
  pub least_mtu : IsEdge Mtu (with_link 2 576) (with_link 2 575)
  pub greatest_mtu : IsEdge Mtu (with_link 2 1500) (with_link 2 1501)

-- in microseconds
pub record LeastTimeouts : Type 0 where
  pub discover : IsEdge DiscoverTimeout
      (with_retry (record default_retry { discover_timeout = 1000000 }))
      (with_retry (record default_retry { discover_timeout = 999999 }))
  pub request : IsEdge RequestTimeout
      (with_retry (record default_retry { initial_request_timeout = 1000000 }))
      (with_retry (record default_retry { initial_request_timeout = 999999 }))
  pub least : IsEdge LeastRenew
      (with_retry (record default_retry { min_renew_timeout = 1000000 }))
      (with_retry (record default_retry { min_renew_timeout = 999999 }))
  pub greatest : IsEdge GreatestRenew
      (with_retry (record default_retry { max_renew_timeout = 1000000 }))
      (with_retry (record default_retry { max_renew_timeout = 999999 }))

pub record GreatestTimeouts : Type 0 where
  pub discover : IsEdge DiscoverTimeout
      (with_retry (record default_retry { discover_timeout = 86400000000 }))
      (with_retry (record default_retry { discover_timeout = 86400000001 }))
  pub request : IsEdge RequestTimeout
      (with_retry (record default_retry { initial_request_timeout = 86400000000 }))
      (with_retry (record default_retry { initial_request_timeout = 86400000001 }))
  pub least : IsEdge LeastRenew
      (with_retry (record default_retry { min_renew_timeout = 86400000000 }))
      (with_retry (record default_retry { min_renew_timeout = 86400000001 }))

pub record RetriesEdges : Type 0 where
  pub least : IsEdge RequestRetries (with_retry (record default_retry { request_retries = 1 }))
      (with_retry (record default_retry { request_retries = 0 }))
  pub greatest : IsEdge RequestRetries (with_retry (record default_retry { request_retries = 32 }))
      (with_retry (record default_retry { request_retries = 33 }))

pub record PortEdges : Type 0 where
  pub no_server : IsEdge ServerPort (with_ports 1 68) (with_ports 0 68)
  pub dns_server : IsEdge ServerPort (with_ports 54 68) (with_ports 53 68)
  pub mdns_server : IsEdge ServerPort (with_ports 5352 68) (with_ports 5353 68)
  pub no_client : IsEdge ClientPort (with_ports 67 1) (with_ports 67 0)
  pub dns_client : IsEdge ClientPort (with_ports 67 52) (with_ports 67 53)
  pub mdns_client : IsEdge ClientPort (with_ports 67 5354) (with_ports 67 5353)

-- A request whose list has 255 kinds and whose one option has 20 bytes fits: 28 + 271 + 255 + 2 + 20 = 576.
pub record ListEdges : Type 0 where
  pub no_kind : IsEdge Parameters (with_lists 1 []) (with_lists 0 [])
  pub kinds : IsEdge Parameters (with_lists 255 []) (with_lists 256 [])
  pub padding : IsEdge Options (with_lists 1 (option_of 1 0 ∷ [])) (with_lists 1 (option_of 0 0 ∷ []))
  pub end : IsEdge Options (with_lists 1 (option_of 254 0 ∷ [])) (with_lists 1 (option_of 255 0 ∷ []))
  pub long : IsEdge Options (with_lists 1 (option_of 1 255 ∷ [])) (with_lists 1 (option_of 1 256 ∷ []))
  pub size : IsEdge Size (with_lists 255 (option_of 1 20 ∷ [])) (with_lists 255 (option_of 1 21 ∷ []))

-- settings all of whose values are refused; then one value more is mended each time, in the errors' order
abbrev pub wrong_retry : RetryConfig
wrong_retry = record {
  discover_timeout = 0;
  initial_request_timeout = 0;
  request_retries = 0;
  min_renew_timeout = 0;
  max_renew_timeout = 0;
}

abbrev pub retries_mended : List RetryConfig
retries_mended =
    wrong_retry
    ∷ record wrong_retry { discover_timeout = 1000000 }
    ∷ record wrong_retry { discover_timeout = 1000000; initial_request_timeout = 1000000 }
    ∷ record default_retry { min_renew_timeout = 0; max_renew_timeout = 0 }
    ∷ record default_retry { max_renew_timeout = 0 }
    ∷ []

abbrev pub lists_wrong : RetryConfig → ℕ → ℕ → ℕ → ℕ → ClientSettings
lists_wrong retry server_port client_port kinds kind = record {
  retry = retry;
  server_port = server_port;
  client_port = client_port;
  max_lease = None;
  ignore_naks = false;
  parameters = replicate kinds 1;
  options = option_of kind 255 ∷ option_of 1 255 ∷ [];
}

abbrev pub mended : List Settings
mended =
    record (with_link 3 0) { client = lists_wrong wrong_retry 0 0 0 0 }
    ∷ record (with_link 2 0) { client = lists_wrong wrong_retry 0 0 0 0 }
    ∷ map (λ retry. with_client (lists_wrong retry 0 0 0 0)) retries_mended
    ++ with_client (lists_wrong default_retry 0 0 0 0)
    ∷ with_client (lists_wrong default_retry 67 0 0 0)
    ∷ with_client (lists_wrong default_retry 67 68 0 0)
    ∷ with_client (lists_wrong default_retry 67 68 1 0)
    ∷ with_client (lists_wrong default_retry 67 68 1 1)
    ∷ []

-- of all that are refused the first one is told
abbrev pub TellsFirst : Type 0
TellsFirst = map refusal_of mended ≡ map (λ error. Some error) all_errors
