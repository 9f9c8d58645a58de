-- The words of a lease server.
use Rattle.std.proofs.Common.{◌≡◌, ℕ, List, Option, Some, None, Result, Ok, Err, IfSome, OnOk, IfErr, refl, ap, sym, ◌∙◌, arith}
use Rattle.std.proofs.lemmas.Option.{none-some}
use Rattle.lease_server.specs.Values.{Values, refused}
use Rattle.lease_server.specs.declared.values.ServerError.{ServerError}
use Rattle.wire_base.specs.Causes.{IsRisen}
use Rattle.host_model.specs.Classes.{IsBrokenAt, IsOverLimit}
use Rattle.net_host.specs.Outside.{Outside, IsQuiet}
use Rattle.server_run.specs.declared.report.ServeRow.{ServeRow}
use Rattle.server_run.specs.declared.serve_error.ServeError.{ServeError}
use Rattle.server_run.specs.declared.serve_error.ServeError.TheVariants as error
use Rattle.server_run.specs.Served.{Finished as IsServed, HasCause}
use Rattle.host_top.specs.declared.ending.Ending.{Ending}
use Rattle.host_top.specs.declared.serve_command.ServeCommand.{ServeCommand}
use Rattle.host_top.specs.Ending.{status_of}
use Rattle.host_top.specs.Serve.{SpellsServe, WritesServe, IsServable, ServesAs, ending_served, values_named}
use Rattle.host_top.proofs.Ipv4WordLemmas.{one_address}

serve_made : List ℕ → List ℕ → List ℕ → ℕ → ℕ → ℕ → ℕ → ServeCommand
serve_made hardware address first count prefix_len lease_secs max_events = record {
  hardware = record { 0 = hardware };
  address = record { 0 = address };
  first = record { 0 = first };
  count = count;
  prefix_len = prefix_len;
  lease_secs = lease_secs;
  max_events = max_events;
}

same_fields : (a p b q c r : List ℕ) (d s e t f u g v : ℕ) → a ≡ p → b ≡ q → c ≡ r → d ≡ s → e ≡ t → f ≡ u → g ≡ v
    → serve_made a b c d e f g ≡ serve_made p q r s t u v
same_fields a p b q c r d s e t f u g v one two three four five six seven = rw (one, two, three, four, five, six, seven) refl

-- words say one thing
spells_one : (words : List (List ℕ)) (one other : ServeCommand) → SpellsServe words one → SpellsServe words other → one ≡ other
unfolding serve_made
spells_one words one other first second =
    same_fields one.hardware.0 other.hardware.0 one.address.0 other.address.0 one.first.0 other.first.0 one.count other.count
    one.prefix_len other.prefix_len one.lease_secs other.lease_secs one.max_events other.max_events
    (first.hardware.bytes ∙ sym second.hardware.bytes)
    (one_address _ one.address other.address first.address second.address) (one_address _ one.first other.first first.first second.first)
    (first.count.writes.value ∙ sym second.count.writes.value) (first.prefix.writes.value ∙ sym second.prefix.writes.value)
    (first.lease.writes.value ∙ sym second.lease.writes.value) (first.max.writes.value ∙ sym second.max.writes.value)

pub writes_one_serve : (words : List (List ℕ)) (one other : ServeCommand) → WritesServe words one → WritesServe words other → one ≡ other
writes_one_serve words one other first second = spells_one words one other first.spells second.spells

-- where a server refuses what they say
pub never_accepted : (words : List (List ℕ)) (serve : ServeCommand) (values : Values) (error : ServerError) → SpellsServe words serve
    → values ≡ values_named serve → Some error ≡ refused values → (other : ServeCommand) → WritesServe words other → ⊥
never_accepted words serve values error spells are is other writes =
    let same : other ≡ serve = spells_one words other serve writes.spells spells in
    none-some error (sym (is ∙ ap refused (are ∙ ap values_named (sym same)) ∙ writes.accepted))

-- a server that words write relies on nothing more
pub servable : (words : List (List ℕ)) (serve : ServeCommand) → WritesServe words serve → IsServable serve
servable words serve writes = record { accepted = writes.accepted; some = writes.spells.max.some; limit = writes.spells.max.limit }

-- the status of a server that answered so
abbrev status_served : Result (Unit {0}) ServeError → ℕ
status_served answer = status_of (ending_served answer)

done_by : (serve : ServeCommand) (before after : Outside) (rows : List ServeRow) (answer : Result (Unit {0}) ServeError)
    → OnOk answer (IsServed (values_named serve) serve.max_events before after rows) → OnOk answer (IsQuiet before after) → status_served answer ≡ 0
    → IsServed (values_named serve) serve.max_events before after rows × IsQuiet before after
done_by serve before after rows (Ok _) finished quiet same = (finished, quiet)
done_by serve before after rows (Err (error.Script offset)) finished quiet same = absurd (omega (arith, same))
done_by serve before after rows (Err error.Limit) finished quiet same = absurd (omega (arith, same))
done_by serve before after rows (Err error.Read) finished quiet same = absurd (omega (arith, same))
done_by serve before after rows (Err error.Sink) finished quiet same = absurd (omega (arith, same))
done_by serve before after rows (Err error.NoMemory) finished quiet same = absurd (omega (arith, same))

pub serve_done : (serve : ServeCommand) (before after : Outside) (rows : List ServeRow) (ending : Ending) → ServesAs serve before after rows ending → status_of ending ≡ 0
    → IsServed (values_named serve) serve.max_events before after rows × IsQuiet before after
serve_done serve before after rows ending serves same =
    done_by serve before after rows serves.answer serves.finished serves.quiet (sym (ap status_of serves.ends) ∙ same)

broken_there : (max offset : ℕ) (left : Option (List ℕ)) → IfSome left (λ bytes. IsBrokenAt max bytes offset)
    → IfSome left (λ bytes. (offset : ℕ) × IsBrokenAt max bytes offset)
broken_there max offset None broken = tt
broken_there max offset (Some bytes) broken = (offset, broken)

broken_by : (max : ℕ) (before after : Outside) (answer : Result (Unit {0}) ServeError) → IfErr answer (HasCause max before after)
    → status_served answer ≡ 2 → IfSome before.left (λ bytes. (offset : ℕ) × IsBrokenAt max bytes offset)
broken_by max before after (Ok _) cause same = absurd (omega (arith, same))
broken_by max before after (Err (error.Script offset)) cause same = broken_there max offset before.left cause.0
broken_by max before after (Err error.Limit) cause same = absurd (omega (arith, same))
broken_by max before after (Err error.Read) cause same = absurd (omega (arith, same))
broken_by max before after (Err error.Sink) cause same = absurd (omega (arith, same))
broken_by max before after (Err error.NoMemory) cause same = absurd (omega (arith, same))

pub serve_broken : (serve : ServeCommand) (before after : Outside) (rows : List ServeRow) (ending : Ending) → ServesAs serve before after rows ending → status_of ending ≡ 2
    → IfSome before.left (λ bytes. (offset : ℕ) × IsBrokenAt serve.max_events bytes offset)
serve_broken serve before after rows ending serves same =
    broken_by serve.max_events before after serves.answer serves.cause (sym (ap status_of serves.ends) ∙ same)

long_by : (max : ℕ) (before after : Outside) (answer : Result (Unit {0}) ServeError) → IfErr answer (HasCause max before after)
    → status_served answer ≡ 3 → IfSome before.left (IsOverLimit max)
long_by max before after (Ok _) cause same = absurd (omega (arith, same))
long_by max before after (Err (error.Script offset)) cause same = absurd (omega (arith, same))
long_by max before after (Err error.Limit) cause same = cause.0
long_by max before after (Err error.Read) cause same = absurd (omega (arith, same))
long_by max before after (Err error.Sink) cause same = absurd (omega (arith, same))
long_by max before after (Err error.NoMemory) cause same = absurd (omega (arith, same))

pub serve_long : (serve : ServeCommand) (before after : Outside) (rows : List ServeRow) (ending : Ending) → ServesAs serve before after rows ending → status_of ending ≡ 3
    → IfSome before.left (IsOverLimit serve.max_events)
serve_long serve before after rows ending serves same =
    long_by serve.max_events before after serves.answer serves.cause (sym (ap status_of serves.ends) ∙ same)

read_by : (max : ℕ) (before after : Outside) (answer : Result (Unit {0}) ServeError) → IfErr answer (HasCause max before after)
    → status_served answer ≡ 4 → IsRisen before.read_faults after.read_faults
read_by max before after (Ok _) cause same = absurd (omega (arith, same))
read_by max before after (Err (error.Script offset)) cause same = absurd (omega (arith, same))
read_by max before after (Err error.Limit) cause same = absurd (omega (arith, same))
read_by max before after (Err error.Read) cause same = cause.0
read_by max before after (Err error.Sink) cause same = absurd (omega (arith, same))
read_by max before after (Err error.NoMemory) cause same = absurd (omega (arith, same))

pub serve_read : (serve : ServeCommand) (before after : Outside) (rows : List ServeRow) (ending : Ending) → ServesAs serve before after rows ending → status_of ending ≡ 4
    → IsRisen before.read_faults after.read_faults
serve_read serve before after rows ending serves same =
    read_by serve.max_events before after serves.answer serves.cause (sym (ap status_of serves.ends) ∙ same)

captured_by : (max : ℕ) (before after : Outside) (answer : Result (Unit {0}) ServeError) → IfErr answer (HasCause max before after)
    → status_served answer ≡ 5 → IsRisen before.capture_faults after.capture_faults
captured_by max before after (Ok _) cause same = absurd (omega (arith, same))
captured_by max before after (Err (error.Script offset)) cause same = absurd (omega (arith, same))
captured_by max before after (Err error.Limit) cause same = absurd (omega (arith, same))
captured_by max before after (Err error.Read) cause same = absurd (omega (arith, same))
captured_by max before after (Err error.Sink) cause same = cause.0
captured_by max before after (Err error.NoMemory) cause same = absurd (omega (arith, same))

pub serve_captured : (serve : ServeCommand) (before after : Outside) (rows : List ServeRow) (ending : Ending) → ServesAs serve before after rows ending → status_of ending ≡ 5
    → IsRisen before.capture_faults after.capture_faults
serve_captured serve before after rows ending serves same =
    captured_by serve.max_events before after serves.answer serves.cause (sym (ap status_of serves.ends) ∙ same)

unrefused_by : (max : ℕ) (before after : Outside) (answer : Result (Unit {0}) ServeError) → IfErr answer (HasCause max before after)
    → status_served answer ≡ 1 → ⊥
unrefused_by max before after (Ok _) cause same = absurd (omega (arith, same))
unrefused_by max before after (Err (error.Script offset)) cause same = absurd (omega (arith, same))
unrefused_by max before after (Err error.Limit) cause same = absurd (omega (arith, same))
unrefused_by max before after (Err error.Read) cause same = absurd (omega (arith, same))
unrefused_by max before after (Err error.Sink) cause same = absurd (omega (arith, same))
unrefused_by max before after (Err error.NoMemory) cause same = absurd (omega (arith, same))

pub serve_unrefused : (serve : ServeCommand) (before after : Outside) (rows : List ServeRow) (ending : Ending) → ServesAs serve before after rows ending → status_of ending ≡ 1
    → ⊥
serve_unrefused serve before after rows ending serves same =
    unrefused_by serve.max_events before after serves.answer serves.cause (sym (ap status_of serves.ends) ∙ same)
