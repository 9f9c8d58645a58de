-- What polling goes on to do from here, polling did from the start.
use Rattle.dhcp_client.specs.Client.{Client}
use Rattle.dhcp_client.specs.Ending.{calls_left}
use Rattle.net_host.specs.declared.emitter.Emitter.{Emitter}
use Rattle.net_host.specs.Polling.{Polled, IsReady}
use Rattle.net_host.proofs.clients.poll_dhcp.Given as goal

abbrev pub invariant-loop-dhcp : goal.invariant-loop-dhcp
invariant-loop-dhcp l = record {
  ready : IsReady l.dhcp l.cx.ip_mtu;
  value : (last : Client) (later : Emitter)
      → Polled l.cx l.word l.dhcp l.out last later → Polled l.cx l.word l.fn.dhcp l.fn.out last later;
}

-- how many dispatches are left
abbrev pub decreases-loop-dhcp : goal.decreases-loop-dhcp
decreases-loop-dhcp l = calls_left l.cx.now l.dhcp.state
