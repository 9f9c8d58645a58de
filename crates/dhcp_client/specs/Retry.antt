-- The timeouts of a client to which none were given.
use Rattle.std.specs.Prelude.{◌-◌, ◌^◌}
use Rattle.dhcp_client.specs.declared.retry.RetryConfig.{RetryConfig}

-- 10 s, 5 s, 5 requests, 60 s and the longest time
abbrev pub default_retry : RetryConfig
default_retry = record {
  discover_timeout = 10000000;
  initial_request_timeout = 5000000;
  request_retries = 5;
  min_renew_timeout = 60000000;
  max_renew_timeout = 2 ^ 64 - 1;
}
