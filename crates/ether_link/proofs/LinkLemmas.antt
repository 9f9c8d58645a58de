-- The parts of the link layer are in order.
use Rattle.std.proofs.Common.{◌≡◌, ℕ, ◌+◌, ◌<◌, ◌≤◌, List, length, Option, Some, None, arith}
use Rattle.std.specs.Prelude.{option_map}
use Rattle.std.proofs.lemmas.List.{length-take-le}
use Rattle.ether_link.specs.Form.{header_len, refusal}
use Rattle.ether_link.specs.Layout.{Grammar, IsOrderly, header}
use Rattle.ether_link.specs.Macsec.{expected_len}
use Rattle.ether_link.specs.LinkGrammar.{LinkErrors, link_grammar}
use Rattle.ether_link.specs.declared.layout.PartKind.{PartKind}
use Rattle.ether_link.specs.declared.layout.PartKind.TheVariants.{Ethernet2, LinuxSll, Vlan, Macsec, Arp}
use Rattle.ether_link.proofs.FormLemmas.{has_header}

-- a length that is announced behind a header
announced_behind : (there said : ℕ) (expected : Option ℕ) → option_map (λ payload. there + payload) expected ≡ Some said → there ≤ said
announced_behind there said None is = absurd (cc)
announced_behind there said (Some payload) is = let e : there + payload ≡ said = cc in omega arith

module _ {E : Type 0} (errors : LinkErrors E) (above : Grammar E) (orderly : IsOrderly above) where
  positive : (kind : PartKind) (bytes : List ℕ) → refusal ((link_grammar errors above).form_of kind) bytes ≡ None
      → 0 < header_len ((link_grammar errors above).form_of kind) bytes
  positive Ethernet2 bytes accepted = omega arith
  positive LinuxSll bytes accepted = omega arith
  positive Vlan bytes accepted = omega arith
  positive Macsec bytes accepted = omega arith
  positive Arp bytes accepted = omega arith
  positive kind bytes accepted = orderly.positive kind bytes accepted

  covers : (kind : PartKind) (bytes : List ℕ) (said : ℕ) → refusal ((link_grammar errors above).form_of kind) bytes ≡ None
      → (link_grammar errors above).announced kind (header (link_grammar errors above) kind bytes) ≡ Some said
      → header_len ((link_grammar errors above).form_of kind) bytes ≤ said
  covers Ethernet2 bytes said accepted is = absurd (cc)
  covers LinuxSll bytes said accepted is = absurd (cc)
  covers Vlan bytes said accepted is = absurd (cc)
  covers Macsec bytes said accepted is =
      let form = (link_grammar errors above).form_of Macsec in
      let len = length-take-le (header_len ((link_grammar errors above).form_of Macsec) bytes) bytes (has_header ((link_grammar errors above).form_of Macsec) bytes accepted) in
      let fits = announced_behind _ said (expected_len (header (link_grammar errors above) Macsec bytes)) is in
      omega arith
  covers Arp bytes said accepted is =
      let len = length-take-le (header_len ((link_grammar errors above).form_of Arp) bytes) bytes (has_header ((link_grammar errors above).form_of Arp) bytes accepted) in
      let e : length (header (link_grammar errors above) Arp bytes) ≡ said = cc in
      omega arith
  covers kind bytes said accepted is = orderly.covers kind bytes said accepted is

  pub orderly_link : IsOrderly (link_grammar errors above)
  orderly_link = record { positive = positive; covers = covers }
