-- What an accepted security tag says of its short length.
use Rattle.std.proofs.Common.{◌≡◌, ℕ, true, List, take, get_or, arith}
use Rattle.std.proofs.lemmas.List.{get_or-take}
use Rattle.std.specs.Prelude.{◌≢◌}
use Rattle.ether_link.specs.Form.{IsHeader}
use Rattle.ether_link.specs.Macsec.{macsec_slice_form, is_unmodified, short_len}
use Rattle.ether_link.proofs.FormLemmas.{no_late}

-- an unmodified payload does not have one byte
pub no_short_len_of_one : (bytes : List ℕ) → IsHeader macsec_slice_form bytes → is_unmodified bytes ≡ true → short_len bytes ≢ 1
no_short_len_of_one bytes header unmodified one =
    let at_0 : get_or (take 6 bytes) 0 0 ≡ get_or bytes 0 0 = get_or-take 6 bytes 0 0 (omega arith) in
    let at_1 : get_or (take 6 bytes) 1 0 ≡ get_or bytes 1 0 = get_or-take 6 bytes 1 0 (omega arith) in
    let late = no_late macsec_slice_form bytes header.0 in
    let of_bytes = rw (at_0, at_1) at late in
    let refused = rw (unmodified, one) at of_bytes in
    absurd (cc)
