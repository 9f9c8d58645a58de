-- What the reader of all headers of a packet knows, over plain values.
use Rattle.std.proofs.Common.{◌≡◌, ℕ, Bool, List, length, take, Option, None, sym, subst}
use Rattle.std.proofs.lemmas.List.{length-take-le}
use Rattle.ether_link.specs.Form.{header_len, refusal}
use Rattle.ether_link.specs.Layout.{window_end}
use Rattle.ether_link.specs.declared.layout.PartKind.{PartKind}
use Rattle.ether_link.specs.declared.layout.Stop.{Stop}
use Rattle.ether_link.proofs.FormLemmas.{has_header}
use Rattle.ether_ip.specs.Ip.{ip_slice_form}
use Rattle.ether_ip.specs.IpWindow.{ip_announced}
use Rattle.ether_ip.specs.IpHeaders.{ip_header, extension_in, number_in, is_fragment_in}
use Rattle.ether_ip.specs.HeldWalk.{IsHeldEnd}
use Rattle.ether_ip.specs.declared.err.ipv6_exts.HeaderSliceError.{HeaderSliceError}
use Rattle.ether_ip.specs.declared.ip.ext_places.ExtensionPlaces.{ExtensionPlaces}

-- the extension headers behind the IP header, by what that header says
pub extensions_behind : (packet : List ℕ) (len : ℕ) (first : Option PartKind) (number : ℕ) (fragment : Bool) (end : ℕ)
    (held : ExtensionPlaces) (at next : ℕ) (is_fragment : Bool) (stop : Option (Stop HeaderSliceError))
    → refusal ip_slice_form packet ≡ None → len ≡ header_len ip_slice_form packet
    → first ≡ extension_in (take len packet) → number ≡ number_in (take len packet) → fragment ≡ is_fragment_in (take len packet)
    → end ≡ window_end 0 (length packet) (ip_announced (take len packet))
    → IsHeldEnd packet first number fragment len end held at next is_fragment stop
    → IsHeldEnd packet (extension_in (ip_header packet)) (number_in (ip_header packet)) (is_fragment_in (ip_header packet))
    (length (ip_header packet)) (window_end 0 (length packet) (ip_announced (ip_header packet))) held at next is_fragment stop
extensions_behind packet len first number fragment end held at next is_fragment stop accepted len_is first_is number_is fragment_is end_is extensions =
    let there = has_header ip_slice_form packet accepted in
    let whole : length (ip_header packet) ≡ header_len ip_slice_form packet = length-take-le (header_len ip_slice_form packet) packet there in
    let here = rw (first_is, number_is, fragment_is, end_is, len_is) at extensions in
    subst (λ (from : ℕ). IsHeldEnd packet (extension_in (ip_header packet)) (number_in (ip_header packet)) (is_fragment_in (ip_header packet))
    from (window_end 0 (length packet) (ip_announced (ip_header packet))) held at next is_fragment stop) (sym whole) here
