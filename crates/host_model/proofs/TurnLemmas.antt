-- With an offer or a lease an acknowledgement is accepted, and else an offer.
use Rattle.std.proofs.Common.{◌≡◌, ◌⊎◌, inl, inr, ⊎_elim, List, Some, refl, sym, ap, ◌∙◌}
use Rattle.host_model.specs.Settings.{Settings}
use Rattle.host_model.specs.History.{Entry}
use Rattle.host_model.specs.Anchor.{Anchor, Loss, Offer, Ack, anchor_before}
use Rattle.host_model.specs.Lease.{leased_under}
use Rattle.host_model.specs.LastLease.{AcceptsAcks}
use Rattle.host_model.specs.LastOffer.{AcceptsOffers, HasOffer, HasLease, AcceptsInTurn}
use Rattle.host_model.proofs.LastLeaseLemmas.{lease_found, lease_held}
use Rattle.host_model.proofs.LastOfferLemmas.{offer_found, offer_held}

module _ (settings : Settings) (entries : List Entry) where
  answers : (anchor : Anchor) → anchor_before settings entries ≡ anchor → AcceptsAcks settings entries
      → HasOffer settings entries ⊎ HasLease settings entries
  answers (Loss place) is accepts = absurd (accepts place is)
  answers (Offer place since server address) is accepts =
      inl (place, since, server, address, offer_found settings place since server address entries is)
  answers (Ack place since granted server) is accepts =
      inr (granted.address, lease_found settings entries granted.address (ap leased_under is))

  with_offer : HasOffer settings entries → AcceptsAcks settings entries
  with_offer (place, since, server, address, is) lost loses =
      let held : anchor_before settings entries ≡ Offer place since server address =
      offer_held settings place since server address entries is in
      let clash : Offer place since server address ≡ Loss lost = sym held ∙ loses in
      cc

  with_lease : HasLease settings entries → AcceptsAcks settings entries
  with_lease (address, is) lost loses =
      let clash : leased_under (Loss lost) ≡ Some address =
      sym (ap leased_under loses) ∙ lease_held settings entries address is in
      cc

  takes_offers : (anchor : Anchor) → anchor_before settings entries ≡ anchor
      → (AcceptsAcks settings entries → ⊥) → AcceptsOffers settings entries
  takes_offers (Loss place) is refuses = (place, is)
  takes_offers (Offer place since server address) is refuses =
      absurd (refuses (λ lost loses. (let clash : Offer place since server address ≡ Loss lost = sym is ∙ loses in cc)))
  takes_offers (Ack place since granted server) is refuses =
      absurd (refuses (λ lost loses. (let clash : Ack place since granted server ≡ Loss lost = sym is ∙ loses in cc)))

  pub in_turn : AcceptsInTurn settings entries
  in_turn = record {
    acks = (
      answers (anchor_before settings entries) refl,
      λ either. ⊎_elim with_offer with_lease either,
    );
    offers = (
      λ lost accepts. accepts lost.0 lost.1,
      takes_offers (anchor_before settings entries) refl,
    );
  }
