use Rattle.host_model.proofs.LastOfferLemmas.{offer_found, offer_held}
use Rattle.host_model.proofs.laws.offers_are_last.Goals as goal

pub returns : goal.returns
returns c = λ settings entries place since server address.
    (offer_found settings place since server address entries, offer_held settings place since server address entries)
