-- When the values of a configuration are refused, and what holds where none is.
use Rattle.std.proofs.Common.{◌≡◌, ℕ, zero, suc, ◌+◌, ◌-◌, ◌<◌, ◌≤◌, nat_lt, Bool, true, false, cond, ⊎_elim}
use Rattle.std.proofs.Common.{List, [], ◌∷◌, length, replicate, get_or, Option, None, Some, sym, ◌∙◌, refl, arith}
use Rattle.std.specs.List.{AllByRecursion, find, list_any}
use Rattle.std.proofs.lemmas.Bool.{cases_lt, or_parts, or_from, lt-ltb, le-ltb, ltb-false}
use Rattle.net_wire.specs.declared.address.EthernetAddress.{EthernetAddress}
use Rattle.net_wire.specs.declared.address.Ipv4Address.{Ipv4Address}
use Rattle.net_wire.specs.declared.dhcp.DhcpMessageType.TheVariants.{Request}
use Rattle.net_wire.specs.Arrival.{is_group}
use Rattle.net_wire.specs.DhcpBytes.{additional_bytes, message_bytes, IsWritableOption}
use Rattle.net_wire.specs.DhcpMessage.{OptionValue}
use Rattle.dhcp_client.specs.Messages.{request_message, unspecified}
use Rattle.dhcp_client.proofs.MessageLemmas.{length-message}
use Rattle.host_model.specs.Settings.{Settings}
use Rattle.net_host.specs.Config.{request_len, is_outside, is_unwritable, is_refused, all_errors, refusal_of}
use Rattle.net_host.specs.Config.{IsWithin, CanRun, default_host}
use Rattle.net_host.specs.declared.config.HostConfigError.TheVariants.{Size}

-- how many bytes the datagram of a request has
any_hardware : EthernetAddress
any_hardware = record { 0 = replicate 6 0 }

pub request_len_is : (settings : Settings)
    → request_len settings
    ≡ 299 + length settings.client.parameters + length (additional_bytes settings.client.options)
unfolding any_hardware
request_len_is settings =
    omega (
      arith,
      length-message Request unspecified (Some unspecified) (Some unspecified) any_hardware settings.ip_mtu 0
          settings.client.parameters settings.client.options refl refl,
    )

pub requests_alike : (settings : Settings) (server requested : Ipv4Address) (id : ℕ)
    → length server.0 ≡ 4 → length requested.0 ≡ 4 → length settings.hardware.0 ≡ 6
    → 20 + 8 + length (message_bytes (request_message server requested settings.hardware settings.ip_mtu
    settings.client.parameters settings.client.options id)) ≡ request_len settings
requests_alike settings server requested id four also_four six =
    omega (
      arith,
      request_len_is settings,
      four,
      also_four,
      length-message Request unspecified (Some server) (Some requested)
          settings.hardware settings.ip_mtu id settings.client.parameters settings.client.options six refl,
    )

-- its first bytes alone are longer than the MTU; or its options are longer than what is left behind them
pub too_long_early : (settings : Settings) (mtu len : ℕ) → mtu ≡ settings.ip_mtu
    → len ≡ 299 + length settings.client.parameters → mtu < len
    → nat_lt mtu len ≡ nat_lt settings.ip_mtu (request_len settings)
too_long_early settings mtu len is_mtu is_len long =
    let longer : settings.ip_mtu < request_len settings =
    omega (arith, request_len_is settings, is_mtu, is_len, long) in
    lt-ltb mtu len long ∙ sym (lt-ltb settings.ip_mtu (request_len settings) longer)

pub too_long_late : (settings : Settings) (mtu len : ℕ) → mtu ≡ settings.ip_mtu
    → len ≡ 299 + length settings.client.parameters → len ≤ mtu
    → nat_lt (mtu - len) (length (additional_bytes settings.client.options))
    ≡ nat_lt settings.ip_mtu (request_len settings)
too_long_late settings mtu len is_mtu is_len fits =
    let rest = length (additional_bytes settings.client.options) in
    let size = request_len_is settings in
    ⊎_elim
    (λ (less : mtu - len < rest). lt-ltb (mtu - len) rest less
    ∙ sym (lt-ltb settings.ip_mtu (request_len settings) (omega (arith, size, is_mtu, is_len, fits, less))))
    (λ (enough : rest ≤ mtu - len). le-ltb (mtu - len) rest enough
    ∙ sym (le-ltb settings.ip_mtu (request_len settings) (omega (arith, size, is_mtu, is_len, fits, enough))))
    (cases_lt (mtu - len) rest)

-- none was found: no element of the list passes
cond_none : {X : Type 0} (b : Bool) (x : X) (o : Option X) → cond b (Some x) o ≡ None
    → (b ≡ false) × (o ≡ None)
cond_none true x o none = absurd (cc none)
cond_none false x o none = (refl, none)

none_at : {X : Type 0} (test : X → Bool) (xs : List X) (i : ℕ) (d : X)
    → find test xs ≡ None → i < length xs → test (get_or xs i d) ≡ false
none_at test [] i d none below = absurd (omega (arith, below))
none_at test (x ∷ xs) zero d none below = (cond_none (test x) x (find test xs) none).0
none_at test (x ∷ xs) (suc i) d none below =
    none_at test xs i d (cond_none (test x) x (find test xs) none).1 (omega (arith, below))

within : (least greatest value : ℕ) → is_outside least greatest value ≡ false → IsWithin least greatest value
within least greatest value inside =
    let parts = or_parts (nat_lt value least) (nat_lt greatest value) inside in
    record { low = ltb-false value least parts.0; high = ltb-false greatest value parts.1 }

options_writable : (options : List OptionValue) → list_any is_unwritable options ≡ false
    → AllByRecursion IsWritableOption options
options_writable [] none = tt
options_writable (option ∷ options) none =
    let parts = or_parts (is_unwritable option) (list_any is_unwritable options) none in
    let good = or_parts (is_outside 1 254 option.kind) (nat_lt 255 (length option.bytes)) parts.0 in
    let kind = within 1 254 option.kind good.0 in
    let length_fits = ltb-false 255 (length option.bytes) good.1 in
    ((omega (arith, kind.low), omega (arith, kind.high), length_fits), options_writable options parts.1)

-- what a host relies on holds where no value is refused
pub accepted : (settings : Settings) → refusal_of settings ≡ None → CanRun settings
unfolding refusal_of
accepted settings none =
    let free : (i : ℕ) → i < 12 → is_refused settings (get_or all_errors i Size) ≡ false =
    λ i below. none_at (is_refused settings) all_errors i Size none below in
    let mtu = within 576 1500 settings.ip_mtu (free 1 (omega arith)) in
    let parameters = within 1 255 (length settings.client.parameters) (free 9 (omega arith)) in
    let fits = ltb-false settings.ip_mtu (request_len settings) (free 11 (omega arith)) in
    record {
      station = free 0 (omega arith);
      mtu = mtu;
      retry = record {
        discover = within _ _ _ (free 2 (omega arith));
        request = within _ _ _ (free 3 (omega arith));
        retries = within _ _ _ (free 4 (omega arith));
        least = within _ _ _ (free 5 (omega arith));
        greatest = ltb-false settings.client.retry.max_renew_timeout 1000000 (free 6 (omega arith));
      };
      server_port = free 7 (omega arith);
      client_port = free 8 (omega arith);
      parameters = (omega (arith, parameters.low), parameters.high);
      writable = record {
        mtu = omega (arith, mtu.low);
        options = options_writable settings.client.options (free 10 (omega arith));
        size = omega (arith, request_len_is settings, fits, mtu.high);
      };
      fits = fits;
    }

-- the default values are accepted
pub defaults_accepted : (hardware : EthernetAddress) (ip_mtu : ℕ) (max_lease : Option ℕ) (ignore_naks : Bool)
    → is_group hardware.0 ≡ false → 576 ≤ ip_mtu → ip_mtu ≤ 1500
    → refusal_of (default_host hardware ip_mtu max_lease ignore_naks) ≡ None
unfolding refusal_of
defaults_accepted hardware ip_mtu max_lease ignore_naks station least greatest =
    let settings = default_host hardware ip_mtu max_lease ignore_naks in
    let mtu = or_from (nat_lt ip_mtu 576) (nat_lt 1500 ip_mtu)
    (le-ltb ip_mtu 576 least) (le-ltb 1500 ip_mtu greatest) in
    let size = le-ltb ip_mtu (request_len settings) (omega (arith, request_len_is settings)) in
    rw (station, mtu, size) refl
