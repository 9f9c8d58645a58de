-- How the parts of the link layer follow one another (IEEE 802.1Q, section 9; IEEE 802.1AE, section 9; RFC
-- 7042, appendix B).
use Rattle.std.specs.Prelude.{ℕ, ◌+◌, ◌==◌, nat_lt, Bool, false, ◌||◌, if◌then◌else◌, List, length, Option, Some, None, option_map, option_and_then}
use Rattle.wire_base.specs.Bytes.{be16_at}
use Rattle.ether_link.specs.Form.{Form}
use Rattle.ether_link.specs.Layout.{Grammar}
use Rattle.ether_link.specs.Ethernet2.{ethernet2_form}
use Rattle.ether_link.specs.LinuxSll.{linux_sll_form, protocol_type_of}
use Rattle.ether_link.specs.Vlan.{vlan_form}
use Rattle.ether_link.specs.Macsec.{macsec_form, expected_len, macsec_next_ether_type}
use Rattle.ether_link.specs.Arp.{arp_form}
use Rattle.ether_link.specs.declared.err.length.LenError.{LenError}
use Rattle.ether_link.specs.declared.err.macsec.HeaderError as macsec
use Rattle.ether_link.specs.declared.err.linux_sll.HeaderError as linux_sll
use Rattle.ether_link.specs.declared.link.linux_sll.LinuxSllProtocolType.{LinuxSllProtocolType}
use Rattle.ether_link.specs.declared.link.linux_sll.LinuxSllProtocolType.TheVariants.{EtherType}
use Rattle.ether_link.specs.declared.layout.Turn.{Turn}
use Rattle.ether_link.specs.declared.layout.PartKind.{PartKind}
use Rattle.ether_link.specs.declared.layout.PartKind.TheVariants.{Ethernet2, LinuxSll, Vlan, Macsec, Arp, Ip}

-- the errors of the parts of the link layer
pub record LinkErrors (E : Type 0) : Type 0 where
  pub wrong_len : LenError → E
  pub macsec : macsec.HeaderError → E
  pub linux_sll : linux_sll.HeaderError → E

-- the turn of a part behind some link extensions
abbrev pub link_turn : PartKind → ℕ → Option Turn
link_turn kind held = Some (record { kind = kind; link_exts = held; fragmented = false })

-- at most three link extensions are read
abbrev pub extension_turn : PartKind → ℕ → Option Turn
extension_turn kind held = if nat_lt held 3 then link_turn kind held else None

abbrev pub is_vlan : ℕ → Bool
is_vlan number = (number == 0x8100) || (number == 0x88a8) || (number == 0x9100)

abbrev pub is_ip : ℕ → Bool
is_ip number = (number == 0x0800) || (number == 0x86dd)

-- the part that an ether type names
abbrev pub by_ether_type : ℕ → ℕ → Option Turn
by_ether_type held number =
    if is_vlan number then extension_turn Vlan held
    else (if number == 0x88e5 then extension_turn Macsec held
    else (if number == 0x0806 then link_turn Arp held
    else (if is_ip number then link_turn Ip held else None)))

-- the part that the protocol field of a cooked packet names
abbrev pub by_protocol_type : Option LinuxSllProtocolType → Option Turn
by_protocol_type (Some (EtherType number)) = by_ether_type 0 number.0
by_protocol_type other = None

module _ {E : Type 0} (errors : LinkErrors E) (above : Grammar E) where
  abbrev pub link_form_of : PartKind → Form E
  link_form_of Ethernet2 = ethernet2_form errors.wrong_len
  link_form_of LinuxSll = linux_sll_form errors.wrong_len errors.linux_sll
  link_form_of Vlan = vlan_form errors.wrong_len
  link_form_of Macsec = macsec_form errors.wrong_len errors.macsec
  link_form_of Arp = arp_form errors.wrong_len
  link_form_of kind = above.form_of kind

  abbrev pub link_announced : PartKind → List ℕ → Option ℕ
  link_announced Ethernet2 header = None
  link_announced LinuxSll header = None
  link_announced Vlan header = None
  link_announced Macsec header = option_map (λ payload. length header + payload) (expected_len header)
  link_announced Arp header = Some (length header)
  link_announced kind header = above.announced kind header

  abbrev pub link_next_of : PartKind → Turn → List ℕ → Option Turn
  link_next_of Ethernet2 turn header = by_ether_type 0 (be16_at header 12)
  link_next_of LinuxSll turn header =
      by_protocol_type (protocol_type_of (be16_at header 2) (be16_at header 14))
  link_next_of Vlan turn header = by_ether_type (turn.link_exts + 1) (be16_at header 2)
  link_next_of Macsec turn header =
      option_and_then (λ ether_type. by_ether_type (turn.link_exts + 1) ether_type.0)
      (macsec_next_ether_type header)
  link_next_of Arp turn header = None
  link_next_of kind turn header = above.next turn header

  -- the parts of the link layer, and above them those of another grammar
  abbrev pub link_grammar : Grammar E
  link_grammar = record {
    form_of = link_form_of;
    announced = link_announced;
    next = λ turn. link_next_of turn.kind turn;
  }
