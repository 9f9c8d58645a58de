-- What the values of a configuration, and the fields of one, stand for.
use Rattle.std.specs.Prelude.{map}
use Rattle.net_wire.specs.DhcpMessage.{option_value}
use Rattle.dhcp_client.specs.Config.{client_settings}
use Rattle.host_model.specs.Settings.{Settings}
use Rattle.net_host.specs.declared.config.HostConfig.TheInside.{Inside}
use Rattle.net_host.specs.declared.config.HostValues.TheInside as values
use Rattle.net_host.specs.Config.{CanRun}

-- the values without where they lie
abbrev pub settings_told : values.Inside → Settings
settings_told values = record {
  hardware = values.hardware;
  ip_mtu = values.ip_mtu;
  client = record {
    retry = values.retry;
    server_port = values.server_port;
    client_port = values.client_port;
    max_lease = values.max_lease;
    ignore_naks = values.ignore_naks;
    parameters = values.parameters.now;
    options = map option_value values.options.now;
  };
}

abbrev pub settings_inside : Inside → Settings
settings_inside config =
    record { hardware = config.hardware; ip_mtu = config.ip_mtu; client = client_settings config.client }

abbrev pub CanRunInside : Inside → Type 0
CanRunInside config = CanRun (settings_inside config)
