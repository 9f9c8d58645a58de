use Rattle.host_top.proofs.SettingLemmas.{old_mtu, old_lease, old_naks, mtu_more, lease_more, naks_more}
use Rattle.host_top.proofs.setting.RunSettings.with.Goals as goal

pub returns-in_default-clause-refuses : goal.returns-in_default-clause-refuses
returns-in_default-clause-refuses c = rw c.in-Mtu.is (λ settings. old_mtu settings c.args.self c.in-Mtu.bytes c.if-is_none.ensures)

pub returns-in_default-2-clause-refuses : goal.returns-in_default-2-clause-refuses
returns-in_default-2-clause-refuses c = rw c.in-Lease.is (λ settings. old_lease settings c.args.self c.in-Lease.secs c.if-is_none-2.ensures)

pub returns-in_default-3-clause-refuses : goal.returns-in_default-3-clause-refuses
returns-in_default-3-clause-refuses c =
    rw c.in-IgnoreNaks.is (λ settings. old_naks settings c.args.self c.in-IgnoreNaks.ignored c.if-is_none-3.ensures)

pub returns-in-Mtu-clause-found : goal.returns-in-Mtu-clause-found
returns-in-Mtu-clause-found c = rw c.in-Mtu.is (λ settings. mtu_more settings c.args.self c.in-Mtu.bytes c.if-is_none.ensures)

pub returns-in-Lease-clause-found : goal.returns-in-Lease-clause-found
returns-in-Lease-clause-found c = rw c.in-Lease.is (λ settings. lease_more settings c.args.self c.in-Lease.secs c.if-is_none-2.ensures)

pub returns-in-IgnoreNaks-clause-found : goal.returns-in-IgnoreNaks-clause-found
returns-in-IgnoreNaks-clause-found c =
    rw c.in-IgnoreNaks.is (λ settings. naks_more settings c.args.self c.in-IgnoreNaks.ignored c.if-is_none-3.ensures)
