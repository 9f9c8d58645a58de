use Rattle.std.proofs.Common.{◌≡◌, [], refl}
use Rattle.std.specs.Option.{option_copied}
use Rattle.dns_client.specs.TextName.{parts_behind}
use Rattle.dns_client.proofs.NameLemmas.{plain_name-closed}
use Rattle.dns_client.proofs.name.name_bytes.Goals as goal

pub returns-in-Ok-close-clause-plain : goal.returns-in-Ok-close-clause-plain
returns-in-Ok-close-clause-plain c =
    let ended : parts_behind (option_copied c.loop-rest.rest) ≡ [] = rw c.in_default.is refl in
    plain_name-closed c.loop-rest.bytes.items _ _ _ ended c.loop-rest.invariant.scanned c.loop-rest.invariant.written
    c.in-Ok-close.ensures.value.0 c.in-Ok-close.ensures.value.1
