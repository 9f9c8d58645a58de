use Rattle.std.proofs.Common.{refl}
use Rattle.net_wire.specs.Datagram.{pseudo_header}
use Rattle.net_wire.specs.DhcpOptions.{items_within}
use Rattle.host_model.proofs.laws.frames_count.Goals as goal

pub returns-clause-whole : goal.returns-clause-whole
unfolding items_within pseudo_header
returns-clause-whole c = record {
  right = refl;
  unsummed = refl;
  padded = refl;
  flipped = record { sent = refl; anchor = refl };
  fragment = record { sent = refl; anchor = refl };
  tagged = record { sent = refl; anchor = refl };
  longer = record { sent = refl; anchor = refl };
}

pub returns-clause-refuses : goal.returns-clause-refuses
unfolding items_within
returns-clause-refuses c = record {
  lease = record { sent = refl; anchor = refl; leased = refl };
  offer = record { sent = refl; anchor = refl; leased = refl };
  other_id = record { sent = refl; anchor = refl };
  foreign = record { sent = refl; anchor = refl };
  ignored = refl;
  ignored_sent = refl;
}

pub returns-clause-replies : goal.returns-clause-replies
unfolding items_within
returns-clause-replies c = record {
  replies = refl;
  other_address = refl;
  before = refl;
  at_end = refl;
  sent_at_end = refl;
  after = refl;
}
