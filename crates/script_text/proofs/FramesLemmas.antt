-- The entries of a capture that is shown, one after another.
use Rattle.std.proofs.Common.{◌≡◌, ℕ, ◌+◌, ◌*◌, ◌<◌, ◌≤◌, ◌==◌, ◌⊎◌, inl, inr, Bool, true, false, List, [], ◌∷◌, ◌++◌, length, map, Option, Some, None, IfSome, IfErr, Result, Ok, Err, ap, sym, subst, ◌∙◌, refl, arith, append_assoc, append-nil, length-append}
use Rattle.std.specs.Io.KnownBytes.{Consumes, IsAtEnd}
use Rattle.std.proofs.KnownBytes.{Consumes-trans}
use Rattle.std.proofs.lemmas.Bool.{eqb-true}
use Rattle.std.proofs.lemmas.Bool.Decides.{nat_tests}
use Rattle.std.proofs.lemmas.List.{length-map}
use Rattle.wire_base.specs.Causes.{IsRisen}
use Rattle.phy_layers.specs.declared.byte_sink.ByteSink as byte_sink
use Rattle.phy_layers.specs.declared.byte_sink.SinkError.{SinkError}
use Rattle.host_model.specs.Script.{Event, Frame}
use Rattle.host_model.specs.Script.{AreInOrder as AreEventsInOrder}
use Rattle.capture_explain.specs.Capture.{CaptureEntry, entry_bytes, entries_bytes, IsHeader, IsEntry, HasNoHeader, BeginsNoEntry}
use Rattle.capture_explain.specs.Places.{IsInside, IsWrongLength}
use Rattle.capture_explain.specs.Reading.{CutsHeader, EndsHeader, EndsEntry, CutsEntry, entry_with}
use Rattle.capture_explain.specs.Text.{Puts}
use Rattle.capture_explain.specs.declared.entry_reader.EntryHead.{EntryHead}
use Rattle.capture_explain.specs.declared.error.ExplainError.{ExplainError}
use Rattle.capture_explain.specs.declared.error.ExplainError.TheVariants as explain
use Rattle.capture_explain.proofs.CaptureLemmas.{header_length}
use Rattle.capture_explain.proofs.PlaceLemmas.{wrong_header, cut_header, wrong_length, cut_entry}
use Rattle.script_text.specs.CapturedFrames.{MayFollow, IsNextEntry, AreInOrder, entry_micros, entry_event, last_time, IsFront, IsFile, BeginsNoNext, IsBrokenAt, IsOverLimit}
use Rattle.script_text.specs.EventText.{event_line}
use Rattle.script_text.specs.ReadAgain.{AreReadAgain}
use Rattle.script_text.specs.Shown.{PutsEvents}
use Rattle.script_text.specs.ShownFrames.{PutsFrames, ReadsWhole, Taken, IsRefusedEntry, Stops, HasCause, Completes}
use Rattle.script_text.specs.TextLaws.{IsOfBytes, AreOfBytes}
use Rattle.script_text.proofs.LineLemmas.{event_more}
use Rattle.script_text.proofs.CapturedLemmas.{no_next, refused_next, not_broken, not_over}
use Rattle.script_text.proofs.ShownLemmas.{read_again, bytes_push}

-- the frames of entries in order are events in order
events_in_order : (last : ℕ) (entries : List CaptureEntry) → AreInOrder last entries → AreEventsInOrder last (map entry_event entries)
events_in_order last [] in_order = tt
events_in_order last (entry ∷ entries) in_order =
    let next = in_order.0 in (
      record {
        not_before = next.follows.not_before;
        in_range = omega (arith, next.fits.secs_fit, next.follows.in_second);
        arrival = omega (arith, next.follows.short);
      },
      events_in_order (entry_micros entry) entries in_order.1,
    )

-- and are read again
frames_again : (max : ℕ) (entries : List CaptureEntry) → AreInOrder 0 entries → length entries ≤ max → AreOfBytes (map entry_event entries)
    → AreReadAgain max (map entry_event entries)
frames_again max entries in_order few small =
    read_again max (map entry_event entries) (events_in_order 0 entries in_order) (omega (arith, length-map entries entry_event, few)) small

-- what stands before an entry is read: the header and these entries came, and this was told of them
pub record Progress (left_old left_now : Option (List ℕ)) (offset count last : ℕ) (Tells : List CaptureEntry → Type 0) : Type 0 where
  pub entries : List CaptureEntry
  pub front : List ℕ
  pub is_front : IsFront entries front
  pub small : AreOfBytes (map entry_event entries)
  pub counted : length entries ≡ count
  pub placed : length front ≡ offset
  pub latest : last_time 0 entries ≡ last
  pub took : Consumes left_old left_now front
  pub tells : Tells entries

-- before the first entry
pub starts : (left_old left_now : Option (List ℕ)) (header : List ℕ) (Tells : List CaptureEntry → Type 0) → IsHeader header
    → Consumes left_old left_now header → Tells [] → Progress left_old left_now 24 0 0 Tells
starts left_old left_now header Tells is took none = record {
  entries = [];
  front = header;
  is_front = record { header = header; is_header = is; in_order = tt; whole = sym (append-nil header) };
  small = tt;
  counted = refl;
  placed = header_length header is;
  latest = refl;
  took = took;
  tells = none;
}

-- one entry more
entries_push : (entries : List CaptureEntry) (entry : CaptureEntry) → entries_bytes (entries ++ entry ∷ []) ≡ entries_bytes entries ++ entry_bytes entry
entries_push [] entry = append-nil (entry_bytes entry)
entries_push (first ∷ entries) entry =
    ap (λ l. entry_bytes first ++ l) (entries_push entries entry)
    ∙ sym (append_assoc (entry_bytes first) (entries_bytes entries) (entry_bytes entry))

order_push : (last : ℕ) (entries : List CaptureEntry) (entry : CaptureEntry) → AreInOrder last entries
    → IsNextEntry (last_time last entries) entry → AreInOrder last (entries ++ entry ∷ [])
order_push last [] entry in_order next = (next, tt)
order_push last (first ∷ entries) entry in_order next = (in_order.0, order_push (entry_micros first) entries entry in_order.1 next)

last_push : (last : ℕ) (entries : List CaptureEntry) (entry : CaptureEntry) → last_time last (entries ++ entry ∷ []) ≡ entry_micros entry
last_push last [] entry = refl
last_push last (first ∷ entries) entry = last_push (entry_micros first) entries entry

events_push : (entries : List CaptureEntry) (entry : CaptureEntry)
    → map entry_event (entries ++ entry ∷ []) ≡ map entry_event entries ++ entry_event entry ∷ []
events_push [] entry = refl
events_push (first ∷ entries) entry = ap (λ (l : List Event). entry_event first ∷ l) (events_push entries entry)

-- the line of one entry more
pub frame_more : {O : Type 0} (sink : byte_sink.Ghosts O) (before middle after : Result (Unit {0}) SinkError) (old between new : O)
    (entries : List CaptureEntry) (entry : CaptureEntry) → PutsFrames sink before middle old between entries
    → Puts sink.bytes sink.faults sink.grows middle after (event_line (entry_event entry)) between new
    → PutsFrames sink before after old new (entries ++ entry ∷ [])
frame_more {O} sink before middle after old between new entries entry puts line =
    subst (λ (l : List Event). PutsEvents sink before after old new l) (sym (events_push entries entry))
    (event_more sink before middle after old between new (map entry_event entries) (entry_event entry) puts line)

small_push : (entries : List CaptureEntry) (entry : CaptureEntry) → AreOfBytes (map entry_event entries) → IsOfBytes (Frame entry.frame)
    → AreOfBytes (map entry_event (entries ++ entry ∷ []))
small_push entries entry small is =
    subst AreOfBytes (sym (events_push entries entry)) (bytes_push (map entry_event entries) (entry_event entry) small is)

front_push : (entries : List CaptureEntry) (entry : CaptureEntry) (front : List ℕ) (last : ℕ) → IsFront entries front
    → last_time 0 entries ≡ last → IsNextEntry last entry → IsFront (entries ++ entry ∷ []) (front ++ entry_bytes entry)
front_push entries entry front last is latest next = record {
  header = is.header;
  is_header = is.is_header;
  in_order = order_push 0 entries entry is.in_order (subst (λ t. IsNextEntry t entry) (sym latest) next);
  whole = ap (λ l. l ++ entry_bytes entry) is.whole ∙ append_assoc is.header (entries_bytes entries) (entry_bytes entry)
      ∙ ap (λ l. is.header ++ l) (sym (entries_push entries entry));
}

-- one entry more, of which it was told
pub goes_on : (left_old left_now left_new : Option (List ℕ)) (offset moved count last : ℕ) (entry : CaptureEntry) (Tells More : List CaptureEntry → Type 0)
    → Progress left_old left_now offset count last Tells → IsNextEntry last entry → Consumes left_now left_new (entry_bytes entry)
    → IsOfBytes (Frame entry.frame) → ((entries : List CaptureEntry) → Tells entries → More (entries ++ entry ∷ []))
    → moved ≡ offset + (16 + length entry.frame) → Progress left_old left_new moved (count + 1) (entry_micros entry) More
goes_on left_old left_now left_new offset moved count last entry Tells More progress next took small told is_moved = record {
  entries = progress.entries ++ entry ∷ [];
  front = progress.front ++ entry_bytes entry;
  is_front = front_push progress.entries entry progress.front last progress.is_front progress.latest next;
  small = small_push progress.entries entry progress.small small;
  counted = omega (arith, length-append progress.entries (entry ∷ []), progress.counted);
  placed = omega (arith, length-append progress.front (entry_bytes entry), progress.placed, is_moved);
  latest = last_push 0 progress.entries entry;
  took = Consumes-trans left_old left_now left_new progress.front (entry_bytes entry) progress.took took;
  tells = told progress.entries progress.tells;
}

-- the header was not read whole
pub header_stops : (max : ℕ) (left_old left_new : Option (List ℕ)) (Tells : List CaptureEntry → Type 0) (error : ExplainError) → Tells []
    → CutsHeader error left_old left_new → Stops max left_old left_new Tells error
header_stops max left_old left_new Tells explain.Header none cuts = record { none = none; cuts = cuts }
header_stops max left_old left_new Tells (explain.Entry offset) none cuts = absurd cuts.ends
header_stops max left_old left_new Tells explain.Limit none cuts = absurd cuts.ends
header_stops max left_old left_new Tells explain.Read none cuts = inl (record { none = none; cuts = cuts })
header_stops max left_old left_new Tells explain.NoMemory none cuts = absurd cuts.ends

-- what was taken with a part behind the entries
unfoldable taken_with : (max : ℕ) (left_old left_now left_new : Option (List ℕ)) (offset count last : ℕ) (part : List ℕ)
    (Tells : List CaptureEntry → Type 0) → Progress left_old left_now offset count last Tells
    → count ≤ max → Consumes left_now left_new part → Taken max left_old left_new Tells
taken_with max left_old left_now left_new offset count last part Tells progress within took =
    let few : length progress.entries ≤ max = omega (arith, progress.counted, within) in
    record {
      entries = progress.entries;
      front = progress.front;
      part = part;
      is_front = progress.is_front;
      few = few;
      read_again = frames_again max progress.entries progress.is_front.in_order few progress.small;
      tells = progress.tells;
      took = Consumes-trans left_old left_now left_new progress.front part progress.took took;
    }

-- no entry was read
pub entry_stops : (max : ℕ) (left_old left_now left_new : Option (List ℕ)) (offset count last : ℕ) (Tells : List CaptureEntry → Type 0)
    (error : ExplainError) (is_full : Bool)
    → Progress left_old left_now offset count last Tells → count ≤ max → (is_full ≡ false → count < max) → (is_full ≡ true → count ≡ max)
    → CutsEntry error is_full left_now left_new → ((o : ℕ) → error ≡ explain.Entry o → (o ≡ offset) × (is_full ≡ false))
    → (error ≡ explain.Limit → is_full ≡ true) → Stops max left_old left_new Tells error
unfolding taken_with
entry_stops max left_old left_now left_new offset count last Tells explain.Header is_full progress within few full cuts told limit = absurd cuts.ends
entry_stops max left_old left_now left_new offset count last Tells (explain.Entry o) is_full progress within few full cuts told limit =
    let here = told o refl in
    record {
      taken = taken_with max left_old left_now left_new offset count last cuts.part Tells progress within cuts.took;
      ends = (omega (arith, progress.counted, few here.1), here.0 ∙ sym progress.placed, inl cuts.ends);
    }
entry_stops max left_old left_now left_new offset count last Tells explain.Limit is_full progress within few full cuts told limit = record {
  taken = taken_with max left_old left_now left_new offset count last cuts.part Tells progress within cuts.took;
  ends = (progress.counted ∙ full (limit refl), cuts.ends);
}
entry_stops max left_old left_now left_new offset count last Tells explain.Read is_full progress within few full cuts told limit = inr (record {
  taken = taken_with max left_old left_now left_new offset count last cuts.part Tells progress within cuts.took;
  ends = ((λ some. omega (arith, progress.counted, few (cuts.tried refl some))), cuts.ends);
})
entry_stops max left_old left_now left_new offset count last Tells explain.NoMemory is_full progress within few full cuts told limit = absurd cuts.ends

-- an entry was read that may not come next
pub refused_stops : (max : ℕ) (left_old left_now left_new : Option (List ℕ)) (offset count last : ℕ) (Tells : List CaptureEntry → Type 0)
    (entry : CaptureEntry) → Progress left_old left_now offset count last Tells → count < max → IsEntry entry
    → Consumes left_now left_new (entry_bytes entry) → ¬ IsNextEntry last entry → Stops max left_old left_new Tells (explain.Entry offset)
unfolding taken_with
refused_stops max left_old left_now left_new offset count last Tells entry progress few fits took wrong = record {
  taken = taken_with max left_old left_now left_new offset count last (entry_bytes entry) Tells progress (omega (arith, few)) took;
  ends = (
    omega (arith, progress.counted, few),
    sym progress.placed,
    inr (record {
      entry = entry;
      fits = fits;
      whole = refl;
      wrong = λ next. wrong (subst (λ t. IsNextEntry t entry) progress.latest next);
    }),
  );
}

-- a part that is refused, or that the input ends in, is no header
no_header : (left_old left_new : Option (List ℕ)) (part : List ℕ) → Consumes left_old left_new part
    → EndsHeader explain.Header left_new part → IfSome left_old HasNoHeader
no_header None left_new part took ends = tt
no_header (Some bytes) None part took ends = absurd took
no_header (Some bytes) (Some more) part took (inl wrong) = subst HasNoHeader (sym took) (wrong_header part more wrong)
no_header (Some bytes) (Some more) part took (inr short) =
    let all : bytes ≡ part = took ∙ ap (λ l. part ++ l) short.1 ∙ append-nil part in
    subst HasNoHeader (sym all) (cut_header part short.0)

no_entry : (part more : List ℕ) → IsWrongLength part ⊎ (IsInside part × (more ≡ [])) → BeginsNoEntry (part ++ more)
no_entry part more (inl wrong) = wrong_length part more wrong
no_entry part more (inr inside) =
    let all : part ++ more ≡ part = ap (λ l. part ++ l) inside.1 ∙ append-nil part in
    subst BeginsNoEntry (sym all) (cut_entry part inside.0)

none_next : (offset last : ℕ) (part more : List ℕ) → EndsEntry (explain.Entry offset) (Some more) part ⊎ IsRefusedEntry last part
    → BeginsNoNext last (part ++ more)
none_next offset last part more (inl ends) = no_next last (part ++ more) (no_entry part more ends.1)
none_next offset last part more (inr refused) = refused_next last part more refused

refused_length : (last : ℕ) (part : List ℕ) → IsRefusedEntry last part → 0 < length part
refused_length last part refused = omega (arith, ap length refused.whole)

some_part : (offset last : ℕ) (part : List ℕ) (left : Option (List ℕ)) → EndsEntry (explain.Entry offset) left part ⊎ IsRefusedEntry last part
    → 0 < length part
some_part offset last part left (inl ends) = ends.0
some_part offset last part left (inr refused) = refused_length last part refused

broken : (max offset : ℕ) (left_old left_new : Option (List ℕ)) (entries : List CaptureEntry) (front part : List ℕ) → IsFront entries front
    → Consumes left_old left_new (front ++ part) → length entries < max → offset ≡ length front
    → EndsEntry (explain.Entry offset) left_new part ⊎ IsRefusedEntry (last_time 0 entries) part
    → IfSome left_old (λ bytes. IsBrokenAt max bytes offset)
broken max offset None left_new entries front part is took few place ends = tt
broken max offset (Some bytes) None entries front part is took few place ends = absurd took
broken max offset (Some bytes) (Some more) entries front part is took few place ends = record {
  entries = entries;
  front = front;
  more = part ++ more;
  is_front = is;
  whole = took ∙ append_assoc front part more;
  few = few;
  place = place;
  goes_on = omega (arith, length-append part more, some_part offset (last_time 0 entries) part (Some more) ends);
  no_entry = none_next offset (last_time 0 entries) part more ends;
}

over : (max : ℕ) (left_old left_new : Option (List ℕ)) (entries : List CaptureEntry) (front part : List ℕ) → IsFront entries front
    → Consumes left_old left_new (front ++ part) → length entries ≡ max → length part ≡ 1 → IfSome left_old (IsOverLimit max)
over max None left_new entries front part is took full ends = tt
over max (Some bytes) None entries front part is took full ends = absurd took
over max (Some bytes) (Some more) entries front part is took full ends = record {
  entries = entries;
  front = front;
  more = part ++ more;
  is_front = is;
  whole = took ∙ append_assoc front part more;
  full = full;
  goes_on = omega (arith, length-append part more, ends);
}

-- the count of faults by the answer
pub record Counts (error : ExplainError) (before after : ℕ) : Type 0 where
  pub quiet : (error ≡ explain.Read → ⊥) → after ≡ before
  pub risen : error ≡ explain.Read → IsRisen before after

-- the cause of what was left
pub stops_cause : (max : ℕ) (left_old left_new : Option (List ℕ)) (Tells : List CaptureEntry → Type 0) (before after : ℕ) (error : ExplainError)
    → Stops max left_old left_new Tells error → Counts error before after → HasCause max left_old before after error
stops_cause max left_old left_new Tells before after explain.Header stops counts =
    (no_header left_old left_new stops.cuts.part stops.cuts.took stops.cuts.ends, counts.quiet (λ is. cc))
stops_cause max left_old left_new Tells before after (explain.Entry offset) stops counts =
    let taken = stops.taken in (
      broken max offset left_old left_new taken.entries taken.front taken.part taken.is_front taken.took stops.ends.0 stops.ends.1 stops.ends.2,
      counts.quiet (λ is. cc),
    )
stops_cause max left_old left_new Tells before after explain.Limit stops counts =
    let taken = stops.taken in
    (over max left_old left_new taken.entries taken.front taken.part taken.is_front taken.took stops.ends.0 stops.ends.1, counts.quiet (λ is. cc))
stops_cause max left_old left_new Tells before after explain.Read stops counts = counts.risen refl
stops_cause max left_old left_new Tells before after explain.NoMemory stops counts = counts.quiet (λ is. cc)

-- it was the last one
ends_file : (left_old left_now : Option (List ℕ)) (max : ℕ) (entries : List CaptureEntry) (front : List ℕ) → Consumes left_old left_now front
    → IsAtEnd left_now → IsFront entries front → length entries ≤ max → IfSome left_old (λ bytes. IsFile max bytes entries)
ends_file None left_now max entries front took at_end is few = tt
ends_file (Some bytes) None max entries front took at_end is few = absurd took
ends_file (Some bytes) (Some more) max entries front took at_end is few =
    let all : bytes ≡ front = took ∙ ap (λ l. front ++ l) at_end ∙ append-nil front in
    record { is_front = subst (λ l. IsFront entries l) (sym all) is; few = few }

pub finishes : (max : ℕ) (left_old left_now left_new : Option (List ℕ)) (offset count last : ℕ) (Tells : List CaptureEntry → Type 0)
    → Progress left_old left_now offset count last Tells → count ≤ max → IsAtEnd left_now → IsAtEnd left_new
    → ReadsWhole max left_old left_new Tells
finishes max left_old left_now left_new offset count last Tells progress within was_at_end at_end =
    let few : length progress.entries ≤ max = omega (arith, progress.counted, within) in
    record {
      entries = progress.entries;
      file = ends_file left_old left_now max progress.entries progress.front progress.took was_at_end progress.is_front few;
      read_again = frames_again max progress.entries progress.is_front.in_order few progress.small;
      tells = progress.tells;
      ended = at_end;
    }

by_cause : (max : ℕ) (left : Option (List ℕ)) (before after : ℕ) (result : Result (Unit {0}) ExplainError)
    → IfErr result (HasCause max left before after) → Completes max left before after result
by_cause max None before after result cause = tt
by_cause max (Some bytes) before after (Ok done) cause = λ entries file reads. inl refl
by_cause max (Some bytes) before after (Err explain.Header) cause = λ entries file reads.
    absurd (cause.0 file.is_front.header (entries_bytes entries) file.is_front.is_header file.is_front.whole)
by_cause max (Some bytes) before after (Err (explain.Entry offset)) cause = λ entries file reads.
    absurd (not_broken max bytes offset entries file cause.0)
by_cause max (Some bytes) before after (Err explain.Limit) cause = λ entries file reads. absurd (not_over max bytes entries file cause.0)
by_cause max (Some bytes) before after (Err explain.Read) cause = λ entries file reads. absurd (reads cause)
by_cause max (Some bytes) before after (Err explain.NoMemory) cause = λ entries file reads. inr refl

-- without a cause it ends well
pub completes : (max : ℕ) (left : Option (List ℕ)) (before after : ℕ) (result : Result (Unit {0}) ExplainError)
    → IfErr result (HasCause max left before after) → Completes max left before after result
completes max left before after result cause = by_cause max left before after result cause

-- the numbers of an entry that may follow
pub next_entry : (last : ℕ) (head : EntryHead) (frame : List ℕ) → length frame ≡ head.captured → IsEntry (entry_with head frame)
    → MayFollow last head.secs head.micros head.captured → IsNextEntry last (entry_with head frame)
next_entry last head frame counted fits follows = record {
  fits = fits;
  follows = subst (λ n. MayFollow last head.secs head.micros n) (sym counted) follows;
}

pub no_next_entry : (last : ℕ) (head : EntryHead) (frame : List ℕ) → length frame ≡ head.captured
    → ¬ MayFollow last head.secs head.micros head.captured → ¬ IsNextEntry last (entry_with head frame)
no_next_entry last head frame counted refused = λ next.
    refused (subst (λ n. MayFollow last head.secs head.micros n) counted next.follows)

-- the event of an entry that was read
pub same_event : (micros : ℕ) (head : EntryHead) (frame : List ℕ) (event : Event) → micros ≡ head.secs * 1000000 + head.micros
    → event ≡ record { at = micros; arrival = Frame frame } → event ≡ entry_event (entry_with head frame)
same_event micros head frame event is shown = shown ∙ ap (λ (m : ℕ). record { at = m; arrival = Frame frame }) is

-- a place in the loop, by the test for the last one
pub still_below : (count max : ℕ) → count ≤ max → (count == max) ≡ false → count < max
still_below count max within other = grind (arith, nat_tests, other)

pub at_limit : (count max : ℕ) → (count == max) ≡ true → count ≡ max
at_limit count max same = eqb-true count max same
