-- The frames that an event leaves in the emitter are those that it names.
use Rattle.std.proofs.Common.{◌≡◌, List, [], ◌∷◌, ◌++◌, Bool, true, false, cond, Option, Some, None, ap, ◌∙◌, refl, append-nil}
use Rattle.net_wire.specs.declared.address.EthernetAddress.{EthernetAddress}
use Rattle.net_wire.specs.declared.address.Ipv4Address.{Ipv4Address}
use Rattle.net_wire.specs.declared.arp.ArpRepr.{ArpRepr}
use Rattle.host_model.specs.declared.held.Held.{Held}
use Rattle.host_model.specs.Frames.{Listed, asks_for, replies, reply_to, requests, sent_or_asked}
use Rattle.host_model.specs.Frames as listed
use Rattle.host_model.specs.History.{Transmission}
use Rattle.host_model.specs.Neighbor.{hop_address}
use Rattle.host_model.specs.Settings.{Settings}
use Rattle.net_host.specs.declared.emitter.Emitter.{Emitter}
use Rattle.net_host.specs.declared.report.Mark.TheVariants.{Dhcp}
use Rattle.net_host.specs.declared.report.Sent.{Sent}
use Rattle.net_host.specs.Emitter.{reply_sent, request_sent, hop_of_refused, refused_hop}
use Rattle.net_host.specs.Listed.{AreListed, IsListed, sent_with}
use Rattle.net_host.proofs.Leaving.{Leaves, LeavesOne}

-- lists behind one another
pub listed_append : (settings : Settings) (one other : List Listed) (sent more : List Sent)
    → AreListed settings one sent → AreListed settings other more → AreListed settings (one ++ other) (sent ++ more)
listed_append settings [] other [] more are others = others
listed_append settings [] other (first ∷ sent) more are others = absurd are
listed_append settings (first ∷ one) other [] more are others = absurd are
listed_append settings (first ∷ one) other (frame ∷ sent) more are others =
    (are.0, listed_append settings one other sent more are.1 others)

-- a reply
by_asked : (settings : Settings) (asks : Bool) (one : Listed) (sent : Sent) → IsListed settings one sent
    → AreListed settings (cond asks (one ∷ []) []) (cond asks (sent ∷ []) [])
by_asked settings true one sent is = (is, tt)
by_asked settings false one sent is = tt

-- what an ARP packet, where one came, is replied to with
abbrev pub replied : EthernetAddress → Option Held → Option ArpRepr → List Sent
replied hardware held None = []
replied hardware held (Some arp) = reply_sent hardware held arp

pub replies_listed : (settings : Settings) (held : Option Held) (told : Option ArpRepr)
    → AreListed settings (replies settings.hardware held told) (replied settings.hardware held told)
replies_listed settings None None = tt
replies_listed settings None (Some arp) = tt
replies_listed settings (Some held) None = tt
replies_listed settings (Some held) (Some arp) =
    by_asked settings (asks_for held arp) (listed.ArpReply arp.source_hardware_addr (reply_to settings.hardware held arp)) _ refl

-- a request
pub requests_listed : (settings : Settings) (held : Option Held) (address : Option Ipv4Address)
    → AreListed settings (requests settings.hardware held address) (request_sent settings.hardware held address)
requests_listed settings None address = tt
requests_listed settings (Some held) None = tt
requests_listed settings (Some held) (Some address) = (refl, tt)

-- the frames that were there, and then those listed
pub record Grows (settings : Settings) (before : List Sent) (named : List Listed) (after : List Sent) : Type 0 where
  pub more : List Sent
  pub grown : after ≡ before ++ more
  pub are : AreListed settings named more

-- what is asked for behind the messages
abbrev pub asked : Emitter → List Sent
asked out = request_sent out.hardware out.held (refused_hop out)

none_asked : (hardware : EthernetAddress) (held : Option Held) → request_sent hardware held None ≡ []
none_asked hardware None = refl
none_asked hardware (Some held) = refl

asks_none : (out : Emitter) → out.refused ≡ None → asked out ≡ []
asks_none out none =
    ap (λ refused. request_sent out.hardware out.held (hop_of_refused out.held refused)) none
    ∙ none_asked out.hardware out.held

-- a message, and what is asked for where its hop is not known
one_listed : (settings : Settings) (transmission : Transmission) (hop : Option EthernetAddress) (out later : Emitter)
    → out.hardware ≡ settings.hardware → out.refused ≡ None → LeavesOne settings transmission hop out later
    → Grows settings out.sent (sent_or_asked settings.hardware out.held transmission hop) (later.sent ++ asked later)
one_listed settings transmission (Some hop) out later is_hardware none leaves =
    let more = sent_with Dhcp leaves.0 ∷ [] in
    let begun : Emitter = record out { sent = out.sent ++ more } in
    record {
      more = more;
      grown = ap (λ (e : Emitter). e.sent ++ asked e) leaves.2 ∙ ap (λ l. (out.sent ++ more) ++ l) (asks_none begun none)
          ∙ append-nil (out.sent ++ more);
      are = ((leaves.0, refl, leaves.1), tt);
    }
one_listed settings transmission None out later is_hardware none leaves =
    let address = hop_address out.held transmission.destination in
    record {
      more = request_sent settings.hardware out.held address;
      grown = ap (λ (e : Emitter). e.sent ++ asked e) leaves ∙ ap (λ hardware. out.sent ++ request_sent hardware out.held address) is_hardware;
      are = requests_listed settings out.held address;
    }

pub leaves_listed : (settings : Settings) (hop : Ipv4Address → Option EthernetAddress) (named : Option Transmission) (out later : Emitter)
    → out.hardware ≡ settings.hardware → out.refused ≡ None → Leaves settings hop named out later
    → Grows settings out.sent (listed.dhcp_frames settings.hardware out.held hop named) (later.sent ++ asked later)
leaves_listed settings hop None out later is_hardware none leaves = record {
  more = [];
  grown = ap (λ (e : Emitter). e.sent ++ asked e) leaves ∙ ap (λ l. out.sent ++ l) (asks_none out none);
  are = tt;
}
leaves_listed settings hop (Some transmission) out later is_hardware none leaves =
    one_listed settings transmission (hop transmission.destination) out later is_hardware none leaves
