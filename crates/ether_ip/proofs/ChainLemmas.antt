-- Readers of extension headers refuse what the headers' own readers refuse.
use Rattle.std.proofs.Common.{◌≡◌, ℕ, Bool, true, false, cond, List, get_or, Some, None, refl}
use Rattle.std.specs.Prelude.{◌==◌, option_map}
use Rattle.ether_link.specs.Form.{refusal, no_map, IsMapped}
use Rattle.ether_link.specs.declared.err.layers.Layer.{Layer}
use Rattle.ether_link.specs.declared.err.length.LenError.{LenError}
use Rattle.ether_link.specs.declared.layout.PartKind.TheVariants.{Ipv6Auth}
use Rattle.ether_link.proofs.MapLemmas.{accepts-mapped, refuses-mapped}
use Rattle.ether_ip.specs.Auth.{auth_slice_form}
use Rattle.ether_ip.specs.Fragment.{fragment_form}
use Rattle.ether_ip.specs.RawExt.{raw_ext_form}
use Rattle.ether_ip.specs.ExtensionGrammar.{extension_form_of}
use Rattle.ether_ip.specs.Chain.{chain_errors}
use Rattle.ether_ip.specs.declared.err.ip_auth.HeaderError.TheVariants.{ZeroPayloadLen}
use Rattle.ether_ip.specs.declared.err.ip_auth.HeaderSliceError as auth
use Rattle.ether_ip.specs.declared.err.ipv6_exts.HeaderError.TheVariants.{IpAuth}
use Rattle.ether_ip.specs.declared.err.ipv6_exts.HeaderSliceError.{HeaderSliceError}
use Rattle.ether_ip.specs.declared.err.ipv6_exts.HeaderSliceError.TheVariants.{Len, Content}

-- the refusal of an authentication header, as one of the chain
abbrev pub of_auth : auth.HeaderSliceError → HeaderSliceError
of_auth (auth.TheVariants.Len error) = Len error
of_auth (auth.TheVariants.Content error) = Content (IpAuth error)

raw_ext_mapped : (layer : Layer) → IsMapped Len (raw_ext_form layer no_map) (raw_ext_form layer Len)
raw_ext_mapped layer = record {
  least = refl;
  layer = refl;
  early = λ head. refl;
  more = λ head. refl;
  whole = λ head. refl;
  source = refl;
  late = λ head. refl;
  alone = λ head. refl;
  wrong_len = λ error. refl;
}

fragment_mapped : IsMapped Len (fragment_form no_map) (fragment_form Len)
fragment_mapped = record {
  least = refl;
  layer = refl;
  early = λ head. refl;
  more = λ head. refl;
  whole = λ head. refl;
  source = refl;
  late = λ head. refl;
  alone = λ head. refl;
  wrong_len = λ error. refl;
}

zero_length : (b : Bool) → cond b (Some (Content (IpAuth ZeroPayloadLen))) None ≡ option_map of_auth (cond b (Some (auth.TheVariants.Content ZeroPayloadLen)) None)
zero_length true = refl
zero_length false = refl

auth_mapped : IsMapped of_auth auth_slice_form (extension_form_of chain_errors Ipv6Auth)
auth_mapped = record {
  least = refl;
  layer = refl;
  early = λ head. zero_length (get_or head 1 0 == 0);
  more = λ head. refl;
  whole = λ head. refl;
  source = refl;
  late = λ head. refl;
  alone = λ head. refl;
  wrong_len = λ error. refl;
}

pub raw_ext_accepts : (layer : Layer) (bytes : List ℕ) → refusal (raw_ext_form layer no_map) bytes ≡ None → refusal (raw_ext_form layer Len) bytes ≡ None
raw_ext_accepts layer bytes is = accepts-mapped Len (raw_ext_form layer no_map) (raw_ext_form layer Len) (raw_ext_mapped layer) bytes is

pub raw_ext_refuses : (layer : Layer) (bytes : List ℕ) (why : LenError) → refusal (raw_ext_form layer no_map) bytes ≡ Some why → refusal (raw_ext_form layer Len) bytes ≡ Some (Len why)
raw_ext_refuses layer bytes why is = refuses-mapped Len (raw_ext_form layer no_map) (raw_ext_form layer Len) (raw_ext_mapped layer) bytes why is

pub fragment_accepts : (bytes : List ℕ) → refusal (fragment_form no_map) bytes ≡ None → refusal (fragment_form Len) bytes ≡ None
fragment_accepts bytes is = accepts-mapped Len (fragment_form no_map) (fragment_form Len) fragment_mapped bytes is

pub fragment_refuses : (bytes : List ℕ) (why : LenError) → refusal (fragment_form no_map) bytes ≡ Some why → refusal (fragment_form Len) bytes ≡ Some (Len why)
fragment_refuses bytes why is = refuses-mapped Len (fragment_form no_map) (fragment_form Len) fragment_mapped bytes why is

pub auth_accepts : (bytes : List ℕ) → refusal auth_slice_form bytes ≡ None → refusal (extension_form_of chain_errors Ipv6Auth) bytes ≡ None
auth_accepts bytes is = accepts-mapped of_auth auth_slice_form (extension_form_of chain_errors Ipv6Auth) auth_mapped bytes is

pub auth_refuses : (bytes : List ℕ) (why : auth.HeaderSliceError) → refusal auth_slice_form bytes ≡ Some why → refusal (extension_form_of chain_errors Ipv6Auth) bytes ≡ Some (of_auth why)
auth_refuses bytes why is = refuses-mapped of_auth auth_slice_form (extension_form_of chain_errors Ipv6Auth) auth_mapped bytes why is
