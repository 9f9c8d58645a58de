-- How long an extension header is, by its second byte.
use Rattle.std.proofs.Common.{◌≡◌, ℕ, ◌+◌, ◌*◌, ◌-◌, List, length, take, get_or, arith}
use Rattle.std.proofs.lemmas.List.{get_or-take}
use Rattle.ether_link.specs.Form.{IsHeader}
use Rattle.ether_ip.specs.Auth.{auth_slice_form}
use Rattle.ether_ip.specs.RawExt.{IsRawExt}

-- of hop-by-hop options, routing and destination options
pub raw_ext_len : (bytes : List ℕ) → IsRawExt bytes → length bytes ≡ 8 + 8 * get_or bytes 1 0
raw_ext_len bytes header =
    let same : get_or (take 8 bytes) 1 0 ≡ get_or bytes 1 0 = get_or-take 8 bytes 1 0 (omega arith) in
    omega arith

-- of the authentication header
pub auth_len : (bytes : List ℕ) → IsHeader auth_slice_form bytes → length bytes ≡ 12 + (4 * (get_or bytes 1 0 + 2) - 12)
auth_len bytes header =
    let same : get_or (take 12 bytes) 1 0 ≡ get_or bytes 1 0 = get_or-take 12 bytes 1 0 (omega arith) in
    let len : 12 + (4 * (get_or (take 12 bytes) 1 0 + 2) - 12) ≡ length bytes = header.1 in
    omega arith
