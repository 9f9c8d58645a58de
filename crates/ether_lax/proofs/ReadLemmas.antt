-- What readers of parts of packets know.
use Rattle.std.proofs.Common.{◌≡◌, ℕ, ◌≤◌, List, length, take, Option, Some, None, refl, sym, ap, ◌∙◌, arith}
use Rattle.std.specs.Prelude.{option_map}
use Rattle.std.proofs.lemmas.List.{length-take-le, take_all}
use Rattle.ether_link.specs.Form.{Form, header_len, refusal, no_map, IsMapped}
use Rattle.ether_link.specs.Arp.{arp_form}
use Rattle.ether_link.specs.Macsec.{macsec_slice_form}
use Rattle.ether_link.specs.declared.layout.PartKind.{PartKind}
use Rattle.ether_link.specs.declared.layout.PartKind.TheVariants as kind
use Rattle.ether_link.proofs.FormLemmas.{has_header}
use Rattle.ether_link.proofs.MapLemmas.{refusal-mapped}
use Rattle.ether_ip.specs.Chain.{chain_errors}
use Rattle.ether_ip.specs.ExtensionGrammar.{extension_form_of}
use Rattle.ether_ip.specs.Ip.{ip_slice_form}
use Rattle.ether_ip.specs.PacketGrammar.{packet_grammar}
use Rattle.ether_ip.proofs.IpLemmas.{header_has_room}
use Rattle.ether_lax.specs.Steps.{IsHeaderOf}
use Rattle.ether_lax.proofs.MapLemmas.{of_macsec, macsec_mapped, of_ip, ip_mapped}

-- all bytes are the first of them
pub all_there : (bytes : List ℕ) → take (length bytes) bytes ≡ bytes
all_there bytes = take_all (length bytes) bytes (omega arith)

-- the header of an accepted part has its length
pub taken_len : {E : Type 0} (form : Form E) (bytes : List ℕ) → refusal form bytes ≡ None → length (take (header_len form bytes) bytes) ≡ header_len form bytes
taken_len form bytes accepted = length-take-le (header_len form bytes) bytes (has_header form bytes accepted)

pub macsec_len : (bytes : List ℕ) → refusal macsec_slice_form bytes ≡ None
    → length (take (header_len macsec_slice_form bytes) bytes) ≡ header_len macsec_slice_form bytes
macsec_len bytes accepted = taken_len macsec_slice_form bytes accepted

pub arp_len : (bytes : List ℕ) → refusal (arp_form no_map) bytes ≡ None
    → length (take (header_len (arp_form no_map) bytes) bytes) ≡ header_len (arp_form no_map) bytes
arp_len bytes accepted = taken_len (arp_form no_map) bytes accepted

pub chain_len : (part : PartKind) (bytes : List ℕ) → refusal (extension_form_of chain_errors part) bytes ≡ None
    → length (take (header_len (extension_form_of chain_errors part) bytes) bytes) ≡ header_len (extension_form_of chain_errors part) bytes
chain_len part bytes accepted = taken_len (extension_form_of chain_errors part) bytes accepted

none_before : {E F : Type 0} (f : E → F) (x : Option E) → option_map f x ≡ None → x ≡ None
none_before f None is = refl
none_before f (Some x) is = absurd (cc)

-- what is accepted as a part of a packet is accepted by its own reader
unmapped : {E F : Type 0} (f : E → F) (form : Form E) (other : Form F) → IsMapped f form other → (bytes : List ℕ)
    → refusal other bytes ≡ None → refusal form bytes ≡ None
unmapped f form other mapped bytes accepted = none_before f (refusal form bytes) (sym (refusal-mapped f form other mapped bytes) ∙ accepted)

pub macsec_unmapped : (bytes : List ℕ) → IsHeaderOf kind.Macsec bytes → refusal macsec_slice_form bytes ≡ None
macsec_unmapped bytes header = unmapped of_macsec macsec_slice_form (packet_grammar.form_of kind.Macsec) macsec_mapped bytes header.0

pub macsec_whole : (bytes : List ℕ) → IsHeaderOf kind.Macsec bytes → take (header_len macsec_slice_form bytes) bytes ≡ bytes
macsec_whole bytes header =
    let whole : header_len macsec_slice_form bytes ≡ length bytes = header.1 in
    rw whole (all_there bytes)

pub ip_header_has_room : (bytes : List ℕ) → IsHeaderOf kind.Ip bytes → 20 ≤ length bytes
ip_header_has_room bytes header =
    let accepted = unmapped of_ip ip_slice_form (packet_grammar.form_of kind.Ip) ip_mapped bytes header.0 in
    let room = header_has_room bytes accepted in
    let whole : header_len ip_slice_form bytes ≡ length bytes = header.1 in
    omega arith
