-- Of the frames that an event names, those that are marked as the DHCP client's are the one frame of its message.
use Rattle.std.proofs.Common.{◌≡◌, ℕ, List, [], ◌∷◌, ◌++◌, map, Bool, true, false, cond, Option, Some, None, ap, sym, subst, ◌∙◌, refl, append-nil}
use Rattle.std.specs.Option.{option_map}
use Rattle.net_wire.specs.declared.address.EthernetAddress.{EthernetAddress}
use Rattle.net_wire.specs.declared.address.Ipv4Address.{Ipv4Address}
use Rattle.net_wire.specs.declared.arp.ArpRepr.{ArpRepr}
use Rattle.host_model.specs.declared.held.Held.{Held}
use Rattle.host_model.specs.Chronicle.{sent_by}
use Rattle.host_model.specs.Frames.{Listed, asks_for, replies, reply_to, requests, sent_or_asked}
use Rattle.host_model.specs.Frames as listed
use Rattle.host_model.specs.History.{Transmission}
use Rattle.host_model.specs.Neighbor.{hop_address}
use Rattle.host_model.specs.QueryLooks.{SentAsk}
use Rattle.host_model.specs.Settings.{Settings}
use Rattle.net_host.specs.declared.report.Mark.{Mark}
use Rattle.net_host.specs.declared.report.Mark.TheVariants.{Dhcp, Dns, ArpReply, ArpRequest}
use Rattle.net_host.specs.declared.report.Sent.{Sent}
use Rattle.net_host.specs.Listed.{AreFramesOf, AreListed, dhcp_frames, with_dhcp}
use Rattle.net_host.proofs.Leaving.{sent_to}

-- the frames behind a reply, if there is one
pub record Behind (settings : Settings) (others : List Listed) (sent : List Sent) : Type 0 where
  pub more : List Sent
  pub marked : dhcp_frames sent ≡ dhcp_frames more
  pub are : AreListed settings others more

behind_reply : (settings : Settings) (to : EthernetAddress) (arp : ArpRepr) (asks : Bool) (others : List Listed) (sent : List Sent)
    → AreListed settings (cond asks (listed.ArpReply to arp ∷ []) [] ++ others) sent → Behind settings others sent
behind_reply settings to arp false others sent are = record { more = sent; marked = refl; are = are }
behind_reply settings to arp true others [] are = absurd are
behind_reply settings to arp true others (first ∷ sent) are =
    record { more = sent; marked = ap (λ (s : Sent). with_dhcp s.mark s.frame (dhcp_frames sent)) are.0; are = are.1 }

pub behind_replies : (settings : Settings) (hardware : EthernetAddress) (held : Option Held) (told : Option ArpRepr) (others : List Listed)
    (sent : List Sent) → AreListed settings (replies hardware held told ++ others) sent → Behind settings others sent
behind_replies settings hardware None told others sent are = record { more = sent; marked = refl; are = are }
behind_replies settings hardware (Some held) None others sent are = record { more = sent; marked = refl; are = are }
behind_replies settings hardware (Some held) (Some arp) others sent are =
    behind_reply settings arp.source_hardware_addr (reply_to hardware held arp) (asks_for held arp) others sent are

-- a request is not marked as the client's
no_request : (settings : Settings) (hardware : EthernetAddress) (held : Option Held) (address : Option Ipv4Address) (sent : List Sent)
    → AreListed settings (requests hardware held address) sent → dhcp_frames sent ≡ []
no_request settings hardware None address [] are = refl
no_request settings hardware None address (first ∷ sent) are = absurd are
no_request settings hardware (Some held) None [] are = refl
no_request settings hardware (Some held) None (first ∷ sent) are = absurd are
no_request settings hardware (Some held) (Some address) [] are = absurd are
no_request settings hardware (Some held) (Some address) (first ∷ []) are =
    ap (λ (s : Sent). with_dhcp s.mark s.frame []) are.0
no_request settings hardware (Some held) (Some address) (first ∷ other ∷ sent) are = absurd are.1

marked_one : (settings : Settings) (held : Option Held) (transmission : Transmission) (hop : Option EthernetAddress) (sent : List Sent)
    → AreListed settings (sent_or_asked settings.hardware held transmission hop) sent
    → AreFramesOf settings (option_map (sent_to transmission) hop) (dhcp_frames sent)
marked_one settings held transmission None sent are =
    no_request settings settings.hardware held (hop_address held transmission.destination) sent are
marked_one settings held transmission (Some hop) [] are = absurd are
marked_one settings held transmission (Some hop) (first ∷ []) are =
    (are.0.0, are.0.2, ap (λ (s : Sent). with_dhcp s.mark s.frame []) are.0.1)
marked_one settings held transmission (Some hop) (first ∷ other ∷ sent) are = absurd are.1

marked_named : (settings : Settings) (held : Option Held) (hop : Ipv4Address → Option EthernetAddress) (named : Option Transmission) (sent : List Sent)
    → AreListed settings (listed.dhcp_frames settings.hardware held hop named) sent
    → AreFramesOf settings (sent_by hop named) (dhcp_frames sent)
marked_named settings held hop None [] are = refl
marked_named settings held hop None (first ∷ sent) are = absurd are
marked_named settings held hop (Some transmission) sent are =
    marked_one settings held transmission (hop transmission.destination) sent are

marked : (settings : Settings) (held : Option Held) (told : Option ArpRepr) (hop : Ipv4Address → Option EthernetAddress)
    (named : Option Transmission) (sent : List Sent)
    → AreListed settings (replies settings.hardware held told ++ listed.dhcp_frames settings.hardware held hop named) sent
    → AreFramesOf settings (sent_by hop named) (dhcp_frames sent)
marked settings held told hop named sent are =
    let behind = behind_replies settings settings.hardware held told (listed.dhcp_frames settings.hardware held hop named) sent are in
    let P : List (List ℕ) → Type 0 = AreFramesOf settings (sent_by hop named) in
    subst P (sym behind.marked) (marked_named settings held hop named behind.more behind.are)

-- what is listed behind one another stands so
record Split (settings : Settings) (one other : List Listed) (sent : List Sent) : Type 0 where
  pub front : List Sent
  pub rest : List Sent
  pub whole : sent ≡ front ++ rest
  pub first : AreListed settings one front
  pub second : AreListed settings other rest

split : (settings : Settings) (one other : List Listed) (sent : List Sent) → AreListed settings (one ++ other) sent
    → Split settings one other sent
split settings [] other sent are = record { front = []; rest = sent; whole = refl; first = tt; second = are }
split settings (listed ∷ one) other [] are = absurd are
split settings (listed ∷ one) other (frame ∷ sent) are =
    let behind = split settings one other sent are.1 in
    record {
      front = frame ∷ behind.front;
      rest = behind.rest;
      whole = ap (λ more. frame ∷ more) behind.whole;
      first = (are.0, behind.first);
      second = behind.second;
    }

marked_before : (mark : Mark) (frame : List ℕ) (one other : List (List ℕ))
    → with_dhcp mark frame (one ++ other) ≡ with_dhcp mark frame one ++ other
marked_before Dhcp frame one other = refl
marked_before (Dns query place) frame one other = refl
marked_before ArpReply frame one other = refl
marked_before ArpRequest frame one other = refl

marked_both : (one other : List Sent) → dhcp_frames (one ++ other) ≡ dhcp_frames one ++ dhcp_frames other
marked_both [] other = refl
marked_both (sent ∷ one) other =
    ap (with_dhcp sent.mark sent.frame) (marked_both one other) ∙ marked_before sent.mark sent.frame (dhcp_frames one) (dhcp_frames other)

-- no frame of a query is marked as the DHCP client's
queries_unmarked : (settings : Settings) (asks : List SentAsk) (held : Option Held) (address : Option Ipv4Address) (sent : List Sent)
    → AreListed settings (map listed.Dns asks ++ requests settings.hardware held address) sent → dhcp_frames sent ≡ []
queries_unmarked settings [] held address sent are = no_request settings settings.hardware held address sent are
queries_unmarked settings (ask ∷ asks) held address [] are = absurd are
queries_unmarked settings (ask ∷ asks) held address (frame ∷ sent) are =
    ap (λ (s : Sent). with_dhcp s.mark s.frame (dhcp_frames sent)) are.0.1 ∙ queries_unmarked settings asks held address sent are.1

pub all_marked : (settings : Settings) (held : Option Held) (told : Option ArpRepr) (hop : Ipv4Address → Option EthernetAddress)
    (named : Option Transmission) (asks : List SentAsk) (address : Option Ipv4Address) (sent : List Sent)
    → AreListed settings
    ((replies settings.hardware held told ++ listed.dhcp_frames settings.hardware held hop named)
    ++ (map listed.Dns asks ++ requests settings.hardware held address)) sent
    → AreFramesOf settings (sent_by hop named) (dhcp_frames sent)
all_marked settings held told hop named asks address sent are =
    let parts = split settings (replies settings.hardware held told ++ listed.dhcp_frames settings.hardware held hop named)
    (map listed.Dns asks ++ requests settings.hardware held address) sent are in
    let frames_are : dhcp_frames sent ≡ dhcp_frames parts.front =
    ap dhcp_frames parts.whole ∙ marked_both parts.front parts.rest
    ∙ ap (λ more. dhcp_frames parts.front ++ more) (queries_unmarked settings asks held address parts.rest parts.second)
    ∙ append-nil (dhcp_frames parts.front) in
    subst (λ frames. AreFramesOf settings (sent_by hop named) frames) (sym frames_are)
    (marked settings held told hop named parts.front parts.first)
