-- What a write of a sink in memory leaves is what a write of any sink leaves.
use Rattle.std.proofs.Common.{◌≡◌, ℕ, ◌+◌, ◌-◌, ◌≤◌, Bool, true, false, ◌||◌, List, [], ◌++◌, length, take, drop, Some, Ok, Err, nat_lt, append-nil, ap, sym, refl, arith, if◌then◌else◌}
use Rattle.std.proofs.lemmas.List.{take-append-drop, take_all}
use Rattle.std.proofs.lemmas.Bool.Decides.{nat_tests}
use Rattle.phy_layers.specs.declared.byte_sink.SinkError.TheVariants.{Fault}
use Rattle.phy_layers.specs.Calls.{fails_next, after_call}
use Rattle.phy_layers.specs.MemorySink.{SinkState, refuses, after_write}
use Rattle.phy_layers.specs.Sink.{Wrote}
use Rattle.phy_layers.proofs.CallLemmas.{counted_later, counted_risen}

fits : (room len piece : ℕ) → false ≡ nat_lt room (len + piece) → piece ≤ room - len
fits room len piece short = grind (arith, nat_tests)

by_cases : (old : SinkState) (piece : List ℕ) (named long : Bool)
    → long ≡ nat_lt old.room (length old.bytes + length piece)
    → Wrote (λ sink. Some sink.bytes) (λ sink. sink.calls.faults) false
    (if named || long then Err Fault else Ok tt) piece old
    (record old {
      bytes = old.bytes ++ (if named then [] else take (old.room - length old.bytes) piece);
      calls = after_call (named || long) old.calls;
    })
by_cases old piece true long is = record {
  took = record {
    whole = tt;
    front = ([], piece, refl, refl);
    later = counted_later old.calls.faults;
    quiet = tt;
    fault = λ _. counted_risen old.calls.faults;
    memory = λ other. cc;
  };
  none = λ other. cc;
}
by_cases old piece false true is = record {
  took = record {
    whole = tt;
    front = (
      take (old.room - length old.bytes) piece,
      drop (old.room - length old.bytes) piece,
      sym (take-append-drop (old.room - length old.bytes) piece),
      refl,
    );
    later = counted_later old.calls.faults;
    quiet = tt;
    fault = λ _. counted_risen old.calls.faults;
    memory = λ other. cc;
  };
  none = λ other. cc;
}
by_cases old piece false false is =
    let all : old.bytes ++ take (old.room - length old.bytes) piece ≡ old.bytes ++ piece =
    ap (λ bytes. old.bytes ++ bytes)
    (take_all (old.room - length old.bytes) piece (fits old.room (length old.bytes) (length piece) is)) in
    record {
      took = record {
        whole = all;
        front = (piece, [], sym (append-nil piece), all);
        later = omega arith;
        quiet = refl;
        fault = λ other. cc;
        memory = λ other. cc;
      };
      none = λ other. cc;
    }

pub wrote : (old : SinkState) (piece : List ℕ)
    → Wrote (λ sink. Some sink.bytes) (λ sink. sink.calls.faults) false
    (if refuses old piece then Err Fault else Ok tt) piece old (after_write old piece)
wrote old piece = by_cases old piece (fails_next old.calls)
    (nat_lt old.room (length old.bytes + length piece)) refl
