-- The request with its options is longer than the MTU.
use Rattle.std.proofs.Common.{rules, ◌≡◌, ◌+◌, length, nat_lt, ◌∙◌, subst, refl}
use Rattle.host_model.specs.Settings.{Settings}
use Rattle.net_host.specs.Config.{request_len}
use Rattle.net_host.specs.HostConfig.{settings_told}
use Rattle.net_host.proofs.SettingsLemmas.{too_long_early, too_long_late}
use Rattle.net_host.proofs.config.is_too_long.Goals as goal

pub returns-then-len-mtu : goal.returns-then-len-mtu
returns-then-len-mtu c =
    let len = 299 + length c.values.inside.parameters.now in
    let P : Settings → Type 0 = λ s. nat_lt c.from-mtu.result len ≡ nat_lt s.ip_mtu (request_len s) in
    subst P c.values.view_is
    (too_long_early (settings_told c.values.inside) c.from-mtu.result len (search rules) refl c.if-len-mtu.true)

pub returns-else-len-mtu : goal.returns-else-len-mtu
returns-else-len-mtu c =
    let P : Settings → Type 0 = λ s. c.overfill.result ≡ nat_lt s.ip_mtu (request_len s) in
    subst P c.values.view_is
    (c.overfill.ensures ∙ too_long_late (settings_told c.values.inside) _ _ (search rules) refl c.if-len-mtu.false)
