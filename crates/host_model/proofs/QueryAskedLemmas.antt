-- What the looks at a query say that it asked last is where its last message went.
use Rattle.std.proofs.Common.{◌≡◌, ℕ, zero, suc, ◌+◌, ◌≤◌, Bool, true, false, cond, eqb, List, [], ◌∷◌, ◌++◌, Option, Some, None, refl, sym, ◌∙◌, ap, subst, arith}
use Rattle.std.specs.Prelude.{All, map, replicate, ⊤}
use Rattle.std.proofs.lemmas.Bool.{eq-eqb, eqb-true, cond-false, cond-true}
use Rattle.std.proofs.lemmas.List.Elements.{All-from_recursion}
use Rattle.std.specs.List.{AllByRecursion}
use Rattle.net_wire.specs.declared.address.Ipv4Address.{Ipv4Address}
use Rattle.host_model.specs.History.{Entry}
use Rattle.host_model.specs.Queries.{around_at, arrived_over, counted, looks_at, query_count, servers_before, slots_before}
use Rattle.host_model.specs.QueryLooks.{Looks, SentAsk}
use Rattle.host_model.specs.QuerySends.{IsAskedLast, all_asks, last_asked}
use Rattle.host_model.specs.QuerySlots.{Query, Slot, Free, Live, Over, freed}
use Rattle.host_model.specs.QueryStart.{Begun}
use Rattle.host_model.specs.QueryTurns.{asked_after, asked_of}
use Rattle.host_model.specs.Script.{Arrival, Tick, Reset, Frame}
use Rattle.host_model.specs.Script.{Query as QueryEvent}
use Rattle.host_model.specs.Settings.{Settings}
use Rattle.host_model.proofs.QueryArrivalLemmas.{Arrived, Heard, Refuses, Starts, Ended, NoMore, Same, EndsOne, Put, Here, There, arrives}
use Rattle.host_model.proofs.QueryLineLemmas.{none_waits_yet, one_waits, waits, waits_at}
use Rattle.host_model.proofs.QueryWalkLemmas.{Asks, Ends, Keeps, Left, LeavesFree, LeavesOver, Rest, Stays, Walked, walks}

none_after : (asked : Option Ipv4Address) → asked_after asked None ≡ asked
none_after None = refl
none_after (Some to) = refl

after_after : (one two three : Option Ipv4Address)
    → asked_after (asked_after one two) three ≡ asked_after one (asked_after two three)
after_after None two three = refl
after_after (Some to) two three = refl

counts_on : (arrival : Arrival) (count : ℕ) → count ≤ counted arrival count
counts_on Tick count = omega arith
counts_on Reset count = omega arith
counts_on (Frame bytes) count = omega arith
counts_on (QueryEvent type_ name) count = omega arith

module _ (number : ℕ) where
  last_append : (asks more : List SentAsk)
      → last_asked number (asks ++ more) ≡ asked_after (last_asked number more) (last_asked number asks)
  last_append [] more = sym (none_after (last_asked number more))
  last_append (sent ∷ asks) more =
      let this : Option Ipv4Address = cond (eqb sent.ask.query number) (Some sent.ask.to) None in
      ap (λ asked. asked_after asked this) (last_append asks more)
      ∙ after_after (last_asked number more) (last_asked number asks) this

  -- the queries with the number say that they asked this last
  abbrev Says : Option Ipv4Address → Slot → Type 0
  Says asked Free = ⊤
  Says asked (Live query) = eqb query.number number ≡ true → asked_of query.looks ≡ asked
  Says asked (Over ended addresses) = ⊤

  abbrev AllSay : Option Ipv4Address → List Slot → Type 0
  AllSay asked [] = ⊤
  AllSay asked (slot ∷ slots) = Says asked slot × AllSay asked slots

  -- where none has the number
  no_query : (asked : Option Ipv4Address) (query : Query) → waits_at number (Live query) ≡ 0
      → Says asked (Live query)
  no_query asked query none same = absurd (grind (arith, none, same))

  none_says : (asked : Option Ipv4Address) (slots : List Slot) → waits number slots ≡ 0 → AllSay asked slots
  none_says asked [] none = tt
  none_says asked (Free ∷ slots) none = (tt, none_says asked slots (omega (arith, none)))
  none_says asked (Live query ∷ slots) none =
      (no_query asked query (omega (arith, none)), none_says asked slots (omega (arith, none)))
  none_says asked (Over ended addresses ∷ slots) none = (tt, none_says asked slots (omega (arith, none)))

  -- looks make no query, and send nothing of one that is not there
  fewer_at : (at : ℕ) (slot left : Slot) → Left at slot left → waits_at number left ≤ waits_at number slot
  fewer_at at slot left LeavesFree = omega arith
  fewer_at at slot left (LeavesOver ended addresses) = omega arith
  fewer_at at slot left (Ends query) = omega arith
  fewer_at at slot left (Stays query) = omega arith

  fewer : (at : ℕ) (old new : List Slot) (asks : List SentAsk) → Walked at old new asks
      → waits number new ≤ waits number old
  fewer at old new asks (Rest slots) = omega arith
  fewer at old new asks (Keeps slot left more rest later leaves walked) =
      omega (arith, fewer_at at slot left leaves, fewer at more rest later walked)
  fewer at old new asks (Asks query from to hop more rest later due walked) =
      omega (arith, fewer at more rest later walked)

  silent : (at : ℕ) (old new : List Slot) (asks : List SentAsk) → Walked at old new asks → waits number old ≡ 0
      → last_asked number asks ≡ None
  silent at old new asks (Rest slots) none = refl
  silent at old new asks (Keeps slot left more rest later leaves walked) none =
      silent at more rest later walked (omega (arith, none))
  silent at old new asks (Asks query from to hop more rest later due walked) none =
      let other : eqb query.number number ≡ false = grind (arith, none) in
      let nothing : last_asked number later ≡ None = silent at more rest later walked (omega (arith, none)) in
      ap (λ this. asked_after (last_asked number later) this) (cond-false (eqb query.number number) (Some to) None other)
      ∙ none_after (last_asked number later) ∙ nothing

  left_says : (at : ℕ) (slot left : Slot) → Left at slot left → (asked last : Option Ipv4Address)
      → (waits_at number slot ≡ 1 → last ≡ None) → Says asked slot → Says (asked_after last asked) left
  left_says at slot left LeavesFree asked last quiet says = tt
  left_says at slot left (LeavesOver ended addresses) asked last quiet says = tt
  left_says at slot left (Ends query) asked last quiet says = tt
  left_says at slot left (Stays query) asked last quiet says =
      λ same. says same ∙ sym (ap (λ o. asked_after o asked) (quiet (cond-true (eqb query.number number) 1 0 same)))

  -- behind the slot of a query with a message
  says_behind : (same : Bool) (query : Query) (to : Ipv4Address) (asked last : Option Ipv4Address) (slots : List Slot)
      → (same ≡ true → waits number slots ≡ 0) → AllSay (asked_after last asked) slots
      → AllSay (asked_after (asked_after last (cond same (Some to) None)) asked) slots
  says_behind true query to asked last slots none says =
      none_says (asked_after (asked_after last (Some to)) asked) slots (none refl)
  says_behind false query to asked last slots none says =
      let P : Option Ipv4Address → Type 0 = λ o. AllSay (asked_after o asked) slots in
      subst P (sym (none_after last)) says

  walked_says : (at : ℕ) (old new : List Slot) (asks : List SentAsk) → Walked at old new asks
      → (asked : Option Ipv4Address) → waits number old ≤ 1 → AllSay asked old
      → AllSay (asked_after (last_asked number asks) asked) new
  walked_says at old new asks (Rest slots) asked few says = says
  walked_says at old new asks (Keeps slot left more rest later leaves walked) asked few says = (
    left_says at slot left leaves asked (last_asked number later)
        (λ one. silent at more rest later walked (omega (arith, few, one))) says.0,
    walked_says at more rest later walked asked (omega (arith, few)) says.1,
  )
  walked_says at old new asks (Asks query from to hop more rest later due walked) asked few says =
      let same : Bool = eqb query.number number in
      let last : Option Ipv4Address = last_asked number later in
      let behind : same ≡ true → waits number more ≡ 0 = λ is. grind (arith, few, is) in (
        (λ is. sym (ap (λ o. asked_after (asked_after o (cond same (Some to) None)) asked)
            (silent at more rest later walked (behind is))
            ∙ ap (λ o. asked_after o asked) (cond-true same (Some to) None is))),
        says_behind same query to asked last rest
            (λ is. omega (arith, behind is, fewer at more rest later walked))
            (walked_says at more rest later walked asked (omega (arith, few)) says.1),
      )

  -- what an arrival leaves: of a query that it starts nothing was asked
  record Comes (asked : Option Ipv4Address) (count : ℕ) (slots : List Slot) : Type 0 where
    few : waits number slots ≤ 1
    none : count ≤ number → waits number slots ≡ 0
    says : AllSay asked slots

  -- slots that say the same, with so many queries more
  record Goes (asked : Option Ipv4Address) (extra : ℕ) (old new : List Slot) : Type 0 where
    more : waits number new ≤ waits number old + extra
    says : AllSay asked new

  ended_says : (asked : Option Ipv4Address) (old new : List Slot) → Ended old new → AllSay asked old
      → Goes asked 0 old new
  ended_says asked old new NoMore says = record { more = omega arith; says = tt }
  ended_says asked old new (Same slot more rest ended) says =
      let all : Goes asked 0 more rest = ended_says asked more rest ended says.1 in
      record { more = omega (arith, all.more); says = (says.0, all.says) }
  ended_says asked old new (EndsOne query addresses more rest ended) says =
      let all : Goes asked 0 more rest = ended_says asked more rest ended says.1 in
      record { more = omega (arith, all.more); says = (tt, all.says) }

  put_says : (asked : Option Ipv4Address) (query : Query) (old new : List Slot) → query.looks ≡ []
      → (eqb query.number number ≡ true → asked ≡ None) → Put query old new → AllSay asked old
      → Goes asked (waits_at number (Live query)) old new
  put_says asked query old new none nothing (Here slots) says = record {
    more = omega arith;
    says = ((λ same. ap asked_of none ∙ sym (nothing same)), says.1);
  }
  put_says asked query old new none nothing (There slot more rest put) says =
      let all : Goes asked (waits_at number (Live query)) more rest =
      put_says asked query more rest none nothing put says.1 in
      record { more = omega (arith, all.more); says = (says.0, all.says) }

  freed_says : (asked : Option Ipv4Address) (slots : List Slot) → AllSay asked slots
      → AllSay asked (map freed slots)
  freed_says asked [] says = tt
  freed_says asked (Free ∷ slots) says = (tt, freed_says asked slots says.1)
  freed_says asked (Live query ∷ slots) says = (says.0, freed_says asked slots says.1)
  freed_says asked (Over ended addresses ∷ slots) says = (tt, freed_says asked slots says.1)

  comes : (asked : Option Ipv4Address) (here : ℕ) (old : List Slot) (count : ℕ) (begun : Begun)
      → Arrived here old count begun → (here ≤ number → asked ≡ None) → Comes asked here old
      → Comes asked count begun.slots
  comes asked here old count begun (Heard new ended) nothing had =
      let all : Goes asked 0 old new = ended_says asked old new ended had.says in
      record {
        few = omega (arith, all.more, had.few);
        none = λ yet. omega (arith, all.more, had.none yet);
        says = all.says;
      }
  comes asked here old count begun (Refuses fault) nothing had =
      record { few = had.few; none = λ yet. had.none (omega (arith, yet)); says = had.says }
  comes asked here old count begun (Starts query new is none put) nothing had =
      let reach : eqb query.number number ≡ true → here ≤ number =
      λ same. omega (arith, is, eqb-true query.number number same) in
      let all : Goes asked (waits_at number (Live query)) old new =
      put_says asked query old new none (λ same. nothing (reach same)) put had.says in
      record {
        few = grind (arith, all.more, had.few, had.none, is);
        none = λ yet. grind (arith, all.more, had.none, is, yet);
        says = all.says;
      }

  record IsSaid (settings : Settings) (entries : List Entry) : Type 0 where
    says : AllSay (last_asked number (all_asks settings entries)) (slots_before settings entries)
    none : query_count entries ≤ number → last_asked number (all_asks settings entries) ≡ None

  none_say : (asked : Option Ipv4Address) (count : ℕ) → AllSay asked (replicate count Free)
  none_say asked zero = tt
  none_say asked (suc count) = (tt, none_say asked count)

  said : (settings : Settings) (entries : List Entry) → IsSaid settings entries
  said settings [] = record { says = none_say None 16; none = λ yet. refl }
  said settings (entry ∷ before) =
      let slots : List Slot = slots_before settings before in
      let asks : List SentAsk = all_asks settings before in
      let asked : Option Ipv4Address = last_asked number asks in
      let had : IsSaid settings before = said settings before in
      let begun : Begun = arrived_over settings before entry.event entry.words slots in
      let looks : Looks = looks_at settings before entry.event entry.words in
      let came : Comes asked (query_count (entry ∷ before)) begun.slots =
      comes asked (query_count before) slots (query_count (entry ∷ before)) begun
      (arrives settings (servers_before settings before) (query_count before) entry.event.arrival entry.words slots)
      had.none
      (record {
        few = one_waits number settings before;
        none = λ yet. none_waits_yet number settings before yet;
        says = had.says;
      }) in
      let walked : Walked entry.event.at begun.slots looks.slots looks.asks =
      walks (around_at settings before entry.event) entry.event.at begun.slots false in
      let all : last_asked number (all_asks settings (entry ∷ before))
      ≡ asked_after (last_asked number looks.asks) asked = last_append asks looks.asks in
      let P : Option Ipv4Address → Type 0 = λ o. AllSay o (map freed looks.slots) in
      record {
        says = subst P (sym all) (freed_says (asked_after (last_asked number looks.asks) asked) looks.slots
            (walked_says entry.event.at begun.slots looks.slots looks.asks walked asked came.few came.says));
        none = λ yet. all
            ∙ ap (λ o. asked_after o asked)
            (silent entry.event.at begun.slots looks.slots looks.asks walked (came.none yet))
            ∙ had.none (omega (arith, yet, counts_on entry.event.arrival (query_count before)));
      }

each_says : (asks : List SentAsk) (slots : List Slot)
    → ((number : ℕ) → AllSay number (last_asked number asks) slots) → AllByRecursion (IsAskedLast asks) slots
each_says asks [] says = tt
each_says asks (Free ∷ slots) says = (tt, each_says asks slots (λ number. (says number).1))
each_says asks (Live query ∷ slots) says =
    ((says query.number).0 (eq-eqb query.number query.number refl), each_says asks slots (λ number. (says number).1))
each_says asks (Over ended addresses ∷ slots) says = (tt, each_says asks slots (λ number. (says number).1))

pub all_asked : (settings : Settings) (entries : List Entry)
    → All (IsAskedLast (all_asks settings entries)) (slots_before settings entries)
all_asked settings entries =
    All-from_recursion (IsAskedLast (all_asks settings entries)) (slots_before settings entries)
    (each_says (all_asks settings entries) (slots_before settings entries) (λ number. (said number settings entries).says))
