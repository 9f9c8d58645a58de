-- An IP header of either version, as a reader tries it that does not know the version (RFC 791, section
-- 3.1; RFC 8200, section 3).
use Rattle.std.specs.Prelude.{◌*◌, ◌-◌, ◌==◌, nat_lt, if◌then◌else◌, Some, None}
use Rattle.ether_link.specs.Form.{Form, never_refused, never_alone}
use Rattle.ether_link.specs.declared.len_source.LenSource.TheVariants.{Slice}
use Rattle.ether_link.specs.declared.err.layers.Layer.TheVariants.{IpHeader, Ipv4Header as Ipv4Layer, Ipv6Header as Ipv6Layer}
use Rattle.ether_link.specs.declared.err.length.LenError.{LenError}
use Rattle.ether_ip.specs.Version.{ip_version, ihl}
use Rattle.ether_ip.specs.declared.err.ip.HeaderError.{HeaderError}
use Rattle.ether_ip.specs.declared.err.ip.HeaderError.TheVariants.{UnsupportedIpVersion, Ipv4HeaderLengthSmallerThanHeader}
use Rattle.ether_ip.specs.declared.err.ip.LaxHeaderSliceError.{LaxHeaderSliceError}
use Rattle.ether_ip.specs.declared.err.ip.LaxHeaderSliceError.TheVariants.{Len, Content}

-- the first byte says the version, and for version 4 the length
abbrev pub ip_form : {E : Type 0} → (LenError → E) → (HeaderError → E) → Form E
ip_form wrong_len wrong = record {
  least = 1;
  layer = IpHeader;
  early = λ head. if ip_version head == 4
      then (if nat_lt (ihl head) 5 then Some (wrong (Ipv4HeaderLengthSmallerThanHeader (ihl head))) else None)
      else (if ip_version head == 6 then None else Some (wrong (UnsupportedIpVersion (ip_version head))));
  more = λ head. if ip_version head == 4 then 4 * ihl head - 1 else 39;
  whole = λ head. if ip_version head == 4 then Ipv4Layer else Ipv6Layer;
  source = Slice;
  late = never_refused;
  alone = never_alone;
  wrong_len = wrong_len;
}

abbrev pub ip_slice_form : Form LaxHeaderSliceError
ip_slice_form = ip_form Len Content
