-- The frames of a row are cut into what its event lists, and are no others.
use Rattle.std.proofs.Common.{◌≡◌, ℕ, List, [], ◌∷◌, ap, ap₂, subst, sym, ◌∙◌, append-nil, refl}
use Rattle.std.specs.List.{AllByRecursion}
use Rattle.net_wire.specs.Arp.{arp_frame_bytes, IsOnTheWire}
use Rattle.net_wire.specs.declared.address.EthernetAddress.{EthernetAddress}
use Rattle.net_wire.specs.declared.arp.ArpRepr.{ArpRepr}
use Rattle.net_wire.proofs.SentFrameLemmas.{one_sent_frame}
use Rattle.frame_laws.specs.SentArp.{IsCutIntoArp}
use Rattle.frame_laws.proofs.ArpLemmas.{arp_cut_as_sent}
use Rattle.frame_laws.proofs.SentLemmas.{cut_as_sent}
use Rattle.host_model.specs.Frames.{Listed, ArpReply, ArpRequest, Dhcp, Dns, frames_of, query_datagram}
use Rattle.host_model.specs.History.{Entry, SentMessage}
use Rattle.host_model.specs.QueryLooks.{SentAsk}
use Rattle.host_model.specs.Settings.{Settings}
use Rattle.host_model.specs.Sizes.{FitsDatagram, FitsFrame, HasSix}
use Rattle.host_model.proofs.ListedSizeLemmas.{frames_fit}
use Rattle.net_host.specs.declared.report.Mark.TheVariants as mark
use Rattle.net_host.specs.declared.report.Row.{Row}
use Rattle.net_host.specs.declared.report.Sent.{Sent}
use Rattle.net_host.specs.Config.{CanRun}
use Rattle.net_host.specs.Listed.{AreListed, IsFrameOf, IsFrameOfQuery, IsListed, datagram_for, sent_with}
use Rattle.net_host.specs.ListedCut.{AreCutInto, HasWidths, IsCutInto}
use Rattle.net_host.specs.QueryEmitter.{query_sent}
use Rattle.net_host.specs.Rows.{IsRowOf}

arp_is_cut : (from to : EthernetAddress) (arp : ArpRepr) → HasSix from → HasSix to → IsOnTheWire arp
    → IsCutIntoArp from to arp (arp_frame_bytes from to arp)
arp_is_cut from to arp six also_six wire =
    subst (λ frame. IsCutIntoArp from to arp frame) (append-nil (arp_frame_bytes from to arp))
    (arp_cut_as_sent from to arp [] six also_six wire)

module _ (settings : Settings) (widths : HasWidths settings) where
  message_is_cut : (message : SentMessage) (frame : List ℕ) → FitsDatagram message
      → IsFrameOf settings message frame → IsCutInto settings (Dhcp message) frame
  message_is_cut message frame fits is =
      cut_as_sent settings.hardware message.hop 64 (datagram_for settings message.transmission) frame
      (record {
        stations = (widths.hardware, fits.hop);
        hosts = (fits.source, fits.destination);
        ports = (widths.client_port, widths.server_port);
        payload = fits.payload;
      })
      is

  query_is_cut : (ask : SentAsk) (frame : List ℕ) → FitsFrame (Dns ask) → IsFrameOfQuery settings ask frame
      → IsCutInto settings (Dns ask) frame
  query_is_cut ask frame fits is =
      cut_as_sent settings.hardware ask.hop 64 (query_datagram ask.ask) frame
      (record {
        stations = (widths.hardware, fits.0);
        hosts = (fits.1.source, fits.1.destination);
        ports = (fits.1.source_port, fits.1.destination_port);
        payload = fits.1.payload;
      })
      is

  is_cut : (one : Listed) (sent : Sent) → FitsFrame one → IsListed settings one sent
      → IsCutInto settings one sent.frame
  is_cut (ArpReply to arp) sent fits is =
      subst (λ (s : Sent). IsCutIntoArp settings.hardware to arp s.frame) (sym is)
      (arp_is_cut settings.hardware to arp widths.hardware fits.0 fits.1)
  is_cut (ArpRequest to arp) sent fits is =
      subst (λ (s : Sent). IsCutIntoArp settings.hardware to arp s.frame) (sym is)
      (arp_is_cut settings.hardware to arp widths.hardware fits.0 fits.1)
  is_cut (Dhcp message) sent fits is =
      subst (λ (s : Sent). IsCutInto settings (Dhcp message) s.frame) (sym is.1)
      (message_is_cut message is.0 fits is.2)
  is_cut (Dns ask) sent fits is =
      subst (λ (s : Sent). IsCutInto settings (Dns ask) s.frame) (sym is.1) (query_is_cut ask is.0 fits is.2)

  are_cut : (listed : List Listed) (sent : List Sent) → AllByRecursion FitsFrame listed
      → AreListed settings listed sent → AreCutInto settings listed sent
  are_cut [] [] fit are = tt
  are_cut [] (sent ∷ more) fit are = are
  are_cut (one ∷ others) [] fit are = are
  are_cut (one ∷ others) (sent ∷ more) fit are =
      (is_cut one sent fit.0 are.0, are_cut others more fit.1 are.1)

  pub rows_are_cut : CanRun settings → (before : List Entry) (entry : Entry) (row : Row)
      → IsRowOf settings before entry row
      → AreCutInto settings (frames_of settings before entry.event entry.words) row.sent
  rows_are_cut can before entry row is =
      are_cut (frames_of settings before entry.event entry.words) row.sent
      (frames_fit settings widths.hardware can.writable before entry.event entry.words) is.sent

-- what is listed is sent in one frame
one_by_one : (settings : Settings) (one : Listed) (sent other : Sent) → FitsFrame one
    → IsListed settings one sent → IsListed settings one other → sent ≡ other
one_by_one settings (ArpReply to arp) sent other fits is also_is = is ∙ sym also_is
one_by_one settings (ArpRequest to arp) sent other fits is also_is = is ∙ sym also_is
one_by_one settings (Dhcp message) sent other fits is also_is =
    let same : is.0 ≡ also_is.0 =
    one_sent_frame settings.hardware message.hop 64 (datagram_for settings message.transmission) fits.source
    fits.destination is.0 also_is.0 is.2 also_is.2 in
    is.1 ∙ ap (sent_with mark.Dhcp) same ∙ sym also_is.1
one_by_one settings (Dns ask) sent other fits is also_is =
    let same : is.0 ≡ also_is.0 =
    one_sent_frame settings.hardware ask.hop 64 (query_datagram ask.ask) fits.1.source fits.1.destination is.0
    also_is.0 is.2 also_is.2 in
    is.1 ∙ ap (query_sent ask.ask.query ask.ask.place) same ∙ sym also_is.1

pub one_listing : (settings : Settings) (listed : List Listed) (sent other : List Sent)
    → AllByRecursion FitsFrame listed → AreListed settings listed sent → AreListed settings listed other
    → sent ≡ other
one_listing settings [] [] [] fit are also_are = refl
one_listing settings [] [] (other ∷ others) fit are also_are = absurd also_are
one_listing settings [] (sent ∷ more) others fit are also_are = absurd are
one_listing settings (one ∷ listed) [] others fit are also_are = absurd are
one_listing settings (one ∷ listed) (sent ∷ more) [] fit are also_are = absurd also_are
one_listing settings (one ∷ listed) (sent ∷ more) (other ∷ others) fit are also_are =
    ap₂ (λ first rest. first ∷ rest) (one_by_one settings one sent other fit.0 are.0 also_are.0)
    (one_listing settings listed more others fit.1 are.1 also_are.1)
