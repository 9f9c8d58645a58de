use Rattle.std.proofs.Common.{refl}
use Rattle.ether_ip.proofs.HeadersLemmas.{extensions_behind}
use Rattle.ether_ip.proofs.ip.exts.IpHeaders.from_slice_lax.Goals as goal
use Rattle.ether_ip.proofs.ip.exts.IpHeaders.from_slice_lax.Goals.{in-Some, in-None}

pub returns : goal.returns
returns c =
    let len_is = c.in_ok-header_len.ensures.1 in
    record {
      value = (
        c.in_ok-header_len.ensures.0,
        record {
          held = c.held_end-held.result.held;
          at = c.held_end-held.result.behind.at;
          last = c.held_end-held.result.stop;
          extensions = extensions_behind c.args.slice.now c.in_ok-header_len.header_len c.extension_in.result c.number_in.result.0 c.is_fragment_in.result
              c.ip_window-window.result.end c.held_end-held.result.held c.held_end-held.result.behind.at c.held_end-held.result.behind.number.0
              c.held_end-held.result.behind.fragmented c.held_end-held.result.stop
              c.in_ok-header_len.ensures.0 len_is c.extension_in.ensures c.number_in.ensures c.is_fragment_in.ensures c.ip_window-window.ensures.end
              c.held_end-held.ensures.value;
          headers_are = rw len_is at c.headers_with.ensures;
          payload_is = rw (c.ip_window-window.ensures.end, len_is) refl;
          incomplete = rw len_is at c.ip_window-window.ensures.incomplete;
          source = rw len_is at c.ip_window-window.ensures.source;
          stopped = elim c.match-stop.branch [
            | in-Some w ↦
                let why = w.refusal_in.ensures in
                rw (w.in-Some.is, w.stop-is) (rw (c.ip_window-window.ensures.source, len_is) at why, w.layer.ensures.value)
            | in-None w ↦ rw (w.in-None.is, w.stop-is) tt
          ];
        },
      );
    }
