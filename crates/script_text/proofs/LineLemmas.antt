-- Pieces that were put are all that a call handed to its sink.
use Rattle.std.proofs.Common.{◌≡◌, ℕ, Bool, List, [], ◌∷◌, ◌++◌, Option, Some, None, Result, Ok, ap, sym, ◌∙◌, refl, arith, append-nil, subst}
use Rattle.std.specs.List.{flat_map}
use Rattle.std.specs.Io.KnownBytes.{Appends}
use Rattle.std.proofs.lemmas.Grind.{flat_map-append}
use Rattle.wire_base.specs.Causes.{AppendsFront}
use Rattle.phy_layers.specs.declared.byte_sink.SinkError.{SinkError}
use Rattle.phy_layers.specs.Sink.{Took}
use Rattle.phy_layers.specs.declared.byte_sink.ByteSink as byte_sink
use Rattle.capture_explain.specs.Text.{Puts}
use Rattle.capture_explain.proofs.TextLemmas.{puts_same, puts_then}
use Rattle.host_model.specs.Script.{Event}
use Rattle.script_text.specs.EventText.{event_line, events_text}
use Rattle.script_text.specs.Shown.{PutsEvents}

pub Appends-nil : (known : Option (List ℕ)) → Appends known known []
Appends-nil None = tt
Appends-nil (Some bytes) = sym (append-nil bytes)

pub AppendsFront-nil : (known : Option (List ℕ)) → AppendsFront known known []
AppendsFront-nil None = tt
AppendsFront-nil (Some bytes) = ([], [], refl, sym (append-nil bytes))

took_nothing : {S : Type 0} {bytes : S → Option (List ℕ)} {faults : S → ℕ} {grows : Bool} {now : S} → Took bytes faults grows (Ok tt) [] now now
took_nothing {S} {bytes} {faults} {grows} {now} = record {
  whole = Appends-nil (bytes now);
  front = AppendsFront-nil (bytes now);
  later = omega arith;
  quiet = refl;
  fault = λ is. cc;
  memory = λ is. cc;
}

pub all_put : {S : Type 0} {bytes : S → Option (List ℕ)} {faults : S → ℕ} {grows : Bool} {after : Result (Unit {0}) SinkError}
    {piece : List ℕ} {old new : S} → Puts bytes faults grows (Ok tt) after piece old new → Took bytes faults grows after piece old new
all_put {S} {bytes} {faults} {grows} {after} {piece} {old} {new} puts = puts.goes_on old [] took_nothing

-- one piece more
pub flat_map-push : {X : Type 0} (f : X → List ℕ) (xs : List X) (x : X) → flat_map f (xs ++ x ∷ []) ≡ flat_map f xs ++ f x
flat_map-push f xs x = flat_map-append f xs (x ∷ []) ∙ ap (λ l. flat_map f xs ++ l) (append-nil (f x))

-- what was handed on was taken, where nothing was refused before
pub puts_events : {O : Type 0} (sink : byte_sink.Ghosts O) (before after : Result (Unit {0}) SinkError) (old new : O) (events : List Event)
    → Puts sink.bytes sink.faults sink.grows before after (events_text events) old new → PutsEvents sink before after old new events
puts_events {O} sink before after old new events puts = record {
  puts = puts;
  took = λ is.
      let P : Result (Unit {0}) SinkError → Type 0 = λ r. Puts sink.bytes sink.faults sink.grows r after (events_text events) old new in
      all_put (subst P is puts);
}

-- the line of one event more
pub event_more : {O : Type 0} (sink : byte_sink.Ghosts O) (before middle after : Result (Unit {0}) SinkError) (old between new : O)
    (events : List Event) (event : Event) → PutsEvents sink before middle old between events
    → Puts sink.bytes sink.faults sink.grows middle after (event_line event) between new
    → PutsEvents sink before after old new (events ++ event ∷ [])
event_more {O} sink before middle after old between new events event puts line =
    puts_events sink before after old new (events ++ event ∷ [])
    (puts_same (puts_then puts.puts line) (sym (flat_map-push event_line events event)))
