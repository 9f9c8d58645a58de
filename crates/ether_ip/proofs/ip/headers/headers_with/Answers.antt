use Rattle.std.proofs.Common.{◌≡◌, ◌≤◌, false, length, take, refl, arith}
use Rattle.std.specs.Prelude.{◌==◌}
use Rattle.std.proofs.lemmas.Bool.Decides.{nat_tests}
use Rattle.std.proofs.lemmas.List.{take_all}
use Rattle.ether_ip.specs.Version.{ip_version}
use Rattle.ether_ip.proofs.IpLemmas.{same_ipv6_len}
use Rattle.ether_ip.proofs.ip.headers.headers_with.Goals as goal

-- the header of version 6 is all of the bytes
pub returns-in-Ok-from_slice : goal.returns-in-Ok-from_slice
returns-in-Ok-from_slice c =
    let isnt = c.if-header-eq4.false in
    let same = same_ipv6_len c.args.header.now c.requires.0 isnt in
    let len = c.requires.1 in
    let fits : length c.args.header.now ≤ 40 = omega arith in
    let whole : take 40 c.args.header.now ≡ c.args.header.now = take_all 40 c.args.header.now fits in
    let other : (ip_version c.args.header.now == 4) ≡ false = grind (arith, nat_tests) in
    rw (c.to_header-in-Ok-from_slice.ensures.value, c.to_header-in-Ok-from_slice-2.ensures.value, c.in-Ok-from_slice.ensures.1, whole, other) refl
