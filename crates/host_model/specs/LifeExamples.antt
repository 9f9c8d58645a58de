-- Closed examples of how leases begin and end: in which events which messages go out, what is held, and by
-- which anchor.
use Rattle.std.specs.Prelude.{◌≡◌, List, [], ◌∷◌, ◌++◌, Some, None}
use Rattle.host_model.specs.Script.{Event}
use Rattle.host_model.specs.Anchor.{Loss, Offer, Ack}
use Rattle.host_model.specs.Examples.{tick, reset}
use Rattle.host_model.specs.Lives.{all_sent, anchor, discovers, frame, granted, leased, life}
use Rattle.host_model.specs.Lives.{our_address, our_cidr, requests, sent_at, server}
use Rattle.host_model.specs.ServerFrames.{offer, ack, ack_for}

-- An offer is requested in its event, with the id of the last message, which is 1 before there is one.
pub record RequestsAtOnce : Type 0 where
  pub sent : all_sent (life (frame 0 (offer 1) ∷ [])) ≡ requests 1 ∷ []
  pub anchor : anchor (frame 0 (offer 1) ∷ []) ≡ Offer 0 0 server our_address
  pub leased : leased (frame 0 (offer 1) ∷ []) ≡ None

-- five requests, at 0, 5, 10, 20 and 30 s, and no answer: at 50 s the client begins anew, and discovers
abbrev pub unanswered : List Event
unanswered =
    frame 0 (offer 1) ∷ tick 4999999 ∷ tick 5000000 ∷ tick 9999999 ∷ tick 10000000 ∷ tick 19999999
    ∷ tick 20000000 ∷ tick 29999999 ∷ tick 30000000 ∷ tick 49999999 ∷ tick 50000000 ∷ []

pub record EndsRetries : Type 0 where
  pub sent : all_sent (life unanswered)
      ≡ discovers 110 ∷ None ∷ requests 1 ∷ None ∷ requests 1 ∷ None ∷ requests 1 ∷ None ∷ requests 1 ∷ None
      ∷ requests 1 ∷ []
  pub anchor : anchor unanswered ≡ Loss 10

-- a discover, an offer and its acknowledgement at one moment
abbrev pub asking : List Event
asking = tick 0 ∷ frame 0 (offer 100) ∷ []

abbrev pub leasing : List Event
leasing = asking ++ frame 0 (ack 100) ∷ []

pub record Leases : Type 0 where
  pub sent : all_sent (life leasing) ≡ None ∷ requests 100 ∷ discovers 100 ∷ []
  pub anchor : anchor leasing ≡ Ack 2 0 granted server
  pub leased : leased leasing ≡ Some our_cidr

-- a lease of no seconds ends in its event, which discovers
abbrev pub short : List Event
short = asking ++ frame 0 (ack_for 0 100) ∷ []

pub record EndsAtOnce : Type 0 where
  pub sent : all_sent (life short) ≡ discovers 102 ∷ requests 100 ∷ discovers 100 ∷ []
  pub anchor : anchor short ≡ Loss 2
  pub leased : leased short ≡ None

-- and so does a reset's event
pub record LosesByReset : Type 0 where
  pub sent : sent_at leasing (reset 1000000) ≡ discovers 103
  pub anchor : anchor (leasing ++ reset 1000000 ∷ []) ≡ Loss 3
  pub leased : leased (leasing ++ reset 1000000 ∷ []) ≡ None
