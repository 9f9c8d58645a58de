-- The leased address is that of the last accepted acknowledgement.
use Rattle.std.proofs.Common.{◌≡◌, ℕ, ◌+◌, ◌<◌, ◌⊎◌, inl, inr, ⊎_elim, List, [], ◌∷◌, ◌++◌, Some, length, refl, sym, ap, subst, ◌∙◌}
use Rattle.std.proofs.lemmas.Bool.{lt-leb, leb-false}
use Rattle.std.specs.List.{AllByRecursion}
use Rattle.net_wire.specs.declared.address.Ipv4Cidr.{Ipv4Cidr}
use Rattle.dhcp_client.specs.declared.state.ServerInfo.{ServerInfo}
use Rattle.dhcp_client.specs.Heard.{Granted, Heard, Nothing, AnOffer, AnAck, ARefusal}
use Rattle.host_model.specs.Script.{Arrival, Tick, Reset, Frame, Query}
use Rattle.host_model.specs.Settings.{Settings}
use Rattle.host_model.specs.History.{Entry, times_since}
use Rattle.host_model.specs.Hearing.{heard_at}
use Rattle.host_model.specs.Anchor.{Anchor, Loss, Offer, Ack, anchor_after_heard, anchor_after_arrival, anchor_after_time, anchor_before, is_over}
use Rattle.host_model.specs.Lease.{leased_under}
use Rattle.host_model.specs.Roots.{Brought, arrived}
use Rattle.host_model.specs.LastLease.{Revokes, IsUnrevoked, IsBefore, AcceptsAcks, IsLeaseOf}
use Rattle.host_model.proofs.HopLemmas.{by_test}
use Rattle.host_model.proofs.RevokeLemmas.{arrival_keeps, tick_keeps, query_keeps, frame_keeps, none_newer, newest_keeps}
use Rattle.host_model.proofs.RevokeLemmas.{others_keep, one_more}

module _ (settings : Settings) where
  -- before its end time leaves a lease
  time_keeps : (older : List Entry) (at place since : ℕ) (granted : Granted) (server : ServerInfo)
      → at < since + granted.times.end
      → anchor_after_time settings older at (Ack place since granted server) ≡ Ack place since granted server
  time_keeps older at place since granted server before = rw (lt-leb (since + granted.times.end) at before) refl

  keeps_lease : (entry : Entry) (older : List Entry) (place since : ℕ) (granted : Granted)
      (server : ServerInfo) → (Revokes settings entry older → ⊥)
      → entry.event.at < since + granted.times.end
      → anchor_before settings older ≡ Ack place since granted server
      → anchor_before settings (entry ∷ older) ≡ Ack place since granted server
  keeps_lease entry older place since granted server keeps before is =
      ap (λ anchor. anchor_after_time settings older entry.event.at
      (anchor_after_arrival settings older entry.event.at entry.event.arrival anchor)) is
      ∙ ap (anchor_after_time settings older entry.event.at)
      (arrival_keeps settings entry older entry.event.arrival refl (Ack place since granted server)
      (λ lost is. cc) keeps)
      ∙ time_keeps older entry.event.at place since granted server before

  keep_lease : (newer older : List Entry) (place since : ℕ) (granted : Granted) (server : ServerInfo)
      → IsUnrevoked settings newer older
      → AllByRecursion (IsBefore (since + granted.times.end)) newer
      → anchor_before settings older ≡ Ack place since granted server
      → anchor_before settings (newer ++ older) ≡ Ack place since granted server
  keep_lease [] older place since granted server unrevoked running is = is
  keep_lease (entry ∷ newer) older place since granted server unrevoked running is =
      keeps_lease entry (newer ++ older) place since granted server
      (newest_keeps settings entry newer older unrevoked) running.0
      (keep_lease newer older place since granted server
      (others_keep settings entry newer older unrevoked)
      running.1 is)

  -- an accepted acknowledgement begins a lease
  ack_begins : (here at : ℕ) (granted : Granted) (old : Anchor) → ((place : ℕ) → old ≡ Loss place → ⊥)
      → (server : ServerInfo) × (anchor_after_heard here at (AnAck granted) old ≡ Ack here at granted server)
  ack_begins here at granted (Loss place) accepts = absurd (accepts place refl)
  ack_begins here at granted (Offer place since server address) accepts = (server, refl)
  ack_begins here at granted (Ack place since other server) accepts = (server, refl)

  begins_lease : (entry : Entry) (older : List Entry) (granted : Granted)
      → Brought settings entry older (AnAck granted) → AcceptsAcks settings older
      → entry.event.at < entry.event.at + granted.times.end
      → (server : ServerInfo)
      × (anchor_before settings (entry ∷ older) ≡ Ack (length older) entry.event.at granted server)
  begins_lease entry older granted brought accepts before =
      let begun = ack_begins (length older) entry.event.at granted (anchor_before settings older) accepts in (
        begun.0,
        ap (λ arrival. anchor_after_time settings older entry.event.at
            (anchor_after_arrival settings older entry.event.at arrival (anchor_before settings older))) brought.frame
            ∙ ap (λ heard. anchor_after_time settings older entry.event.at
            (anchor_after_heard (length older) entry.event.at heard (anchor_before settings older))) brought.hears
            ∙ ap (anchor_after_time settings older entry.event.at) begun.1
            ∙ time_keeps older entry.event.at (length older) entry.event.at granted begun.0 before,
      )

  pub lease_held : (entries : List Entry) (address : Ipv4Cidr) → IsLeaseOf settings entries address
      → leased_under (anchor_before settings entries) ≡ Some address
  lease_held entries address is =
      let begun = begins_lease is.entry is.older is.granted is.heard is.accepted is.running.0 in
      ap (λ l. leased_under (anchor_before settings l)) is.split
      ∙ ap leased_under (keep_lease is.newer (is.entry ∷ is.older) (length is.older) is.entry.event.at is.granted
      begun.0 is.unrevoked is.running.1 begun.1)
      ∙ ap Some is.address_is

  -- what an anchor with a lease says of the acknowledgement that it goes by
  record Stands (entries : List Entry) (since : ℕ) (granted : Granted) : Type 0 where
    lease : IsLeaseOf settings entries granted.address
    end_is : lease.entry.event.at + lease.granted.times.end ≡ since + granted.times.end

  -- an entry more that revokes nothing and comes before the end
  stands_on : (entry : Entry) (entries : List Entry) (since : ℕ) (granted : Granted)
      → (Revokes settings entry entries → ⊥) → entry.event.at < since + granted.times.end
      → Stands entries since granted → Stands (entry ∷ entries) since granted
  stands_on entry entries since granted keeps before stands =
      let is = stands.lease in
      record {
        lease = record {
          newer = entry ∷ is.newer;
          entry = is.entry;
          older = is.older;
          split = ap (λ l. entry ∷ l) is.split;
          granted = is.granted;
          heard = is.heard;
          accepted = is.accepted;
          address_is = is.address_is;
          unrevoked = one_more settings entry entries is.newer (is.entry ∷ is.older) is.split keeps is.unrevoked;
          running = (is.running.0, (rw stands.end_is before, is.running.1));
        };
        end_is = stands.end_is;
      }

  module _ (place since : ℕ) (granted : Granted) (server : ServerInfo) where
    -- time left a lease: it comes before the end
    time_tells : (older : List Entry) (at : ℕ) (anchor : Anchor)
        → anchor_after_time settings older at anchor ≡ Ack place since granted server
        → (anchor ≡ Ack place since granted server) × (at < since + granted.times.end)
    time_tells older at (Loss other) is = absurd (cc)
    time_tells older at (Offer other start asked address) is =
        let anchor : Anchor = Offer other start asked address in
        by_test (is_over settings.client.retry (times_since other older) at anchor)
        (λ over. (let clash : Loss (length older) ≡ Ack place since granted server = sym (rw over refl) ∙ is in absurd (cc)))
        (λ going. (let clash : anchor ≡ Ack place since granted server = sym (rw going refl) ∙ is in absurd (cc)))
    time_tells older at (Ack other start lent asked) is =
        let anchor : Anchor = Ack other start lent asked in
        by_test (is_over settings.client.retry (times_since other older) at anchor)
        (λ over. (let clash : Loss (length older) ≡ Ack place since granted server = sym (rw over refl) ∙ is in absurd (cc)))
        (λ going.
        let same : anchor ≡ Ack place since granted server = sym (rw going refl) ∙ is in
        let starts : start ≡ since = cc in
        let grants : lent ≡ granted = cc in
        (same, rw (sym starts, sym grants) (leb-false _ _ going)))

    -- the anchor before an event that left a lease, or what the event brought
    abbrev Tells : Entry → List Entry → Type 0
    Tells entry older =
        ((Revokes settings entry older → ⊥) × (anchor_before settings older ≡ Ack place since granted server))
        ⊎ (Brought settings entry older (AnAck granted) × AcceptsAcks settings older × (entry.event.at ≡ since))

    heard_tells : (entry : Entry) (older : List Entry) (bytes : List ℕ) (heard : Heard) (old : Anchor)
        → entry.event.arrival ≡ Frame bytes → heard_at settings older bytes ≡ heard
        → anchor_before settings older ≡ old
        → anchor_after_heard (length older) entry.event.at heard old ≡ Ack place since granted server
        → Tells entry older
    heard_tells entry older bytes Nothing old is hears before leaves =
        inl (frame_keeps settings entry older bytes Nothing is hears (λ e. cc) (λ other e. cc), before ∙ leaves)
    heard_tells entry older bytes (AnOffer from address) (Loss other) is hears before leaves = absurd (cc)
    heard_tells entry older bytes (AnOffer from address) (Offer other start asked lent) is hears before leaves = absurd (cc)
    heard_tells entry older bytes (AnOffer from address) (Ack other start lent asked) is hears before leaves =
        inl (frame_keeps settings entry older bytes (AnOffer from address) is hears (λ e. cc) (λ other e. cc), before ∙ leaves)
    heard_tells entry older bytes (AnAck grant) (Loss other) is hears before leaves = absurd (cc)
    heard_tells entry older bytes (AnAck grant) (Offer other start asked lent) is hears before leaves =
        let grants : grant ≡ granted = cc in
        inr (
          record { bytes = bytes; frame = is; hears = hears ∙ ap AnAck grants },
          λ lost loses. (let clash : Offer other start asked lent ≡ Loss lost = sym before ∙ loses in cc),
          (cc),
        )
    heard_tells entry older bytes (AnAck grant) (Ack other start lent asked) is hears before leaves =
        let grants : grant ≡ granted = cc in
        inr (
          record { bytes = bytes; frame = is; hears = hears ∙ ap AnAck grants },
          λ lost loses. (let clash : Ack other start lent asked ≡ Loss lost = sym before ∙ loses in cc),
          (cc),
        )
    heard_tells entry older bytes ARefusal (Loss other) is hears before leaves = absurd (cc)
    heard_tells entry older bytes ARefusal (Offer other start asked lent) is hears before leaves = absurd (cc)
    heard_tells entry older bytes ARefusal (Ack other start lent asked) is hears before leaves = absurd (cc)

    arrival_tells : (entry : Entry) (older : List Entry) (arrival : Arrival)
        → entry.event.arrival ≡ arrival
        → anchor_after_arrival settings older entry.event.at arrival (anchor_before settings older)
        ≡ Ack place since granted server
        → Tells entry older
    arrival_tells entry older Tick is leaves = inl (tick_keeps settings entry older is, leaves)
    arrival_tells entry older (Query type_ name) is leaves = inl (query_keeps settings entry older type_ name is, leaves)
    arrival_tells entry older Reset is leaves = absurd (cc)
    arrival_tells entry older (Frame bytes) is leaves =
        heard_tells entry older bytes (heard_at settings older bytes) (anchor_before settings older) is refl refl leaves

    stands : (entries : List Entry) → anchor_before settings entries ≡ Ack place since granted server
        → Stands entries since granted
    stands [] is = absurd (cc)
    stands (entry ∷ older) is =
        let told : (arrived settings entry older ≡ Ack place since granted server)
        × (entry.event.at < since + granted.times.end) =
        time_tells older entry.event.at (arrived settings entry older) is in
        ⊎_elim
        (λ (kept : (Revokes settings entry older → ⊥)
        × (anchor_before settings older ≡ Ack place since granted server)).
        stands_on entry older since granted kept.0 told.1 (stands older kept.1))
        (λ (begun : Brought settings entry older (AnAck granted) × AcceptsAcks settings older
        × (entry.event.at ≡ since)).
        record {
          lease = record {
            newer = [];
            entry = entry;
            older = older;
            split = refl;
            granted = granted;
            heard = begun.0;
            accepted = begun.1;
            address_is = refl;
            unrevoked = none_newer settings (entry ∷ older);
            running = (subst (λ start. entry.event.at < start + granted.times.end) (sym begun.2) told.1, tt);
          };
          end_is = ap (λ start. start + granted.times.end) begun.2;
        })
        (arrival_tells entry older entry.event.arrival refl told.0)

  lease_by : (entries : List Entry) (address : Ipv4Cidr) (anchor : Anchor)
      → anchor_before settings entries ≡ anchor → leased_under anchor ≡ Some address
      → IsLeaseOf settings entries address
  lease_by entries address (Loss place) is leased = absurd (cc)
  lease_by entries address (Offer place since server asked) is leased = absurd (cc)
  lease_by entries address (Ack place since granted server) is leased =
      let same : granted.address ≡ address = cc in
      subst (IsLeaseOf settings entries) same (stands place since granted server entries is).lease

  pub lease_found : (entries : List Entry) (address : Ipv4Cidr)
      → leased_under (anchor_before settings entries) ≡ Some address → IsLeaseOf settings entries address
  lease_found entries address is = lease_by entries address (anchor_before settings entries) refl is
