use Rattle.phy_layers.proofs.LayerLemmas.{sent_through}
use Rattle.phy_layers.proofs.fault_injector.FaultInjectorDevice.transmit.Goals as goal

pub returns-in-Flipped-clause-transmitted : goal.returns-in-Flipped-clause-transmitted
returns-in-Flipped-clause-transmitted g c =
    sent_through c.args.frame.now _ c.args.self.now _ c.transmit_flipped.ensures.transmitted
    (rw (← c.meet.ensures.value, c.in-Flipped.is))
    c.meet.ensures.left
    (rw (c.meet.ensures.left, ← c.meet.ensures.value, c.in-Flipped.is))
