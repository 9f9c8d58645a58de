-- Why a capture is not explained, read off what was taken.
use Rattle.std.proofs.Common.{◌≡◌, ℕ, ◌<◌, inl, inr, ◌⊎◌, List, [], ◌++◌, length, Option, Some, None, IfSome, IfErr, Result, Ok, Err, ap, sym, subst, ◌∙◌, refl, arith, append_assoc, append-nil, length-append}
use Rattle.std.specs.Io.KnownBytes.{Consumes}
use Rattle.wire_base.specs.Causes.{IsRisen}
use Rattle.capture_explain.specs.Capture.{CaptureEntry, HasNoHeader, BeginsNoEntry, IsBrokenAt, IsOverLimit}
use Rattle.capture_explain.specs.Places.{IsInside, IsWrongLength}
use Rattle.capture_explain.specs.Reading.{CutsHeader, EndsHeader, EndsEntry}
use Rattle.capture_explain.specs.Explained.{Taken, Stops, HasCause, Completes}
use Rattle.capture_explain.specs.declared.error.ExplainError.{ExplainError}
use Rattle.capture_explain.specs.declared.error.ExplainError.TheVariants.{Header, Entry, Limit, Read, NoMemory}
use Rattle.capture_explain.proofs.CaptureLemmas.{has_header, not_broken, not_over}
use Rattle.capture_explain.proofs.PlaceLemmas.{wrong_header, cut_header, wrong_length, cut_entry}

-- a part that is refused, or that the input ends in, is no header
no_header : (left_old left_new : Option (List ℕ)) (part : List ℕ) → Consumes left_old left_new part
    → EndsHeader Header left_new part → IfSome left_old HasNoHeader
no_header None left_new part took ends = tt
no_header (Some bytes) None part took ends = absurd took
no_header (Some bytes) (Some more) part took (inl wrong) = subst HasNoHeader (sym took) (wrong_header part more wrong)
no_header (Some bytes) (Some more) part took (inr short) =
    let all : bytes ≡ part = took ∙ ap (λ l. part ++ l) short.1 ∙ append-nil part in
    subst HasNoHeader (sym all) (cut_header part short.0)

-- and no entry
no_entry : (part more : List ℕ) → IsWrongLength part ⊎ (IsInside part × (more ≡ [])) → BeginsNoEntry (part ++ more)
no_entry part more (inl wrong) = wrong_length part more wrong
no_entry part more (inr inside) =
    let all : part ++ more ≡ part = ap (λ l. part ++ l) inside.1 ∙ append-nil part in
    subst BeginsNoEntry (sym all) (cut_entry part inside.0)

broken : (max offset : ℕ) (left_old left_new : Option (List ℕ)) (Tells : List CaptureEntry → Type 0) (taken : Taken max left_old left_new Tells)
    → length taken.entries < max → offset ≡ length taken.front → EndsEntry (Entry offset) left_new taken.part
    → IfSome left_old (λ bytes. IsBrokenAt max bytes offset)
broken max offset None left_new Tells taken few place ends = tt
broken max offset (Some bytes) None Tells taken few place ends = absurd taken.took
broken max offset (Some bytes) (Some more) Tells taken few place ends = record {
  entries = taken.entries;
  front = taken.front;
  more = taken.part ++ more;
  is_front = taken.is_front;
  whole = taken.took ∙ append_assoc taken.front taken.part more;
  few = few;
  place = place;
  goes_on = omega (arith, length-append taken.part more, ends.0);
  no_entry = no_entry taken.part more ends.1;
}

over : (max : ℕ) (left_old left_new : Option (List ℕ)) (Tells : List CaptureEntry → Type 0) (taken : Taken max left_old left_new Tells)
    → length taken.entries ≡ max → EndsEntry Limit left_new taken.part → IfSome left_old (IsOverLimit max)
over max None left_new Tells taken full ends = tt
over max (Some bytes) None Tells taken full ends = absurd taken.took
over max (Some bytes) (Some more) Tells taken full ends = record {
  entries = taken.entries;
  front = taken.front;
  more = taken.part ++ more;
  is_front = taken.is_front;
  whole = taken.took ∙ append_assoc taken.front taken.part more;
  full = full;
  goes_on = omega (arith, length-append taken.part more, ends);
}

-- the count of faults by the answer
pub record Counts (error : ExplainError) (before after : ℕ) : Type 0 where
  pub quiet : (error ≡ Read → ⊥) → after ≡ before
  pub risen : error ≡ Read → IsRisen before after

-- the cause of what was left
pub leaves_cause : (max : ℕ) (left_old left_new : Option (List ℕ)) (Tells : List CaptureEntry → Type 0) (before after : ℕ) (error : ExplainError)
    → Stops max left_old left_new Tells error → Counts error before after → HasCause max left_old before after error
leaves_cause max left_old left_new Tells before after Header leaves counts =
    (no_header left_old left_new leaves.cuts.part leaves.cuts.took leaves.cuts.ends, counts.quiet (λ is. cc))
leaves_cause max left_old left_new Tells before after (Entry offset) leaves counts =
    (broken max offset left_old left_new Tells leaves.taken leaves.ends.0 leaves.ends.1 leaves.ends.2, counts.quiet (λ is. cc))
leaves_cause max left_old left_new Tells before after Limit leaves counts =
    (over max left_old left_new Tells leaves.taken leaves.ends.0 leaves.ends.1, counts.quiet (λ is. cc))
leaves_cause max left_old left_new Tells before after Read leaves counts = counts.risen refl
leaves_cause max left_old left_new Tells before after NoMemory leaves counts = counts.quiet (λ is. cc)

by_left : (max : ℕ) (left : Option (List ℕ)) (before after : ℕ) (result : Result (Unit {0}) ExplainError)
    → IfErr result (HasCause max left before after) → Completes max left before after result
by_left max None before after result cause = tt
by_left max (Some bytes) before after (Ok done) cause = λ entries file quiet. inl refl
by_left max (Some bytes) before after (Err Header) cause = λ entries file quiet. absurd (has_header max bytes entries file cause.0)
by_left max (Some bytes) before after (Err (Entry offset)) cause = λ entries file quiet.
    absurd (not_broken max bytes offset entries file cause.0)
by_left max (Some bytes) before after (Err Limit) cause = λ entries file quiet. absurd (not_over max bytes entries file cause.0)
by_left max (Some bytes) before after (Err Read) cause = λ entries file quiet. absurd (quiet cause)
by_left max (Some bytes) before after (Err NoMemory) cause = λ entries file quiet. inr refl

-- without a cause it ends well
pub completes : (max : ℕ) (left : Option (List ℕ)) (before after : ℕ) (result : Result (Unit {0}) ExplainError)
    → IfErr result (HasCause max left before after) → Completes max left before after result
completes max left before after result cause = by_left max left before after result cause

-- where no header was read
pub header_leaves : (max : ℕ) (left_old left_new : Option (List ℕ)) (Tells : List CaptureEntry → Type 0) (error : ExplainError) → Tells []
    → CutsHeader error left_old left_new → Stops max left_old left_new Tells error
header_leaves max left_old left_new Tells Header none cuts = record { none = none; cuts = cuts }
header_leaves max left_old left_new Tells (Entry offset) none cuts = absurd cuts.ends
header_leaves max left_old left_new Tells Limit none cuts = absurd cuts.ends
header_leaves max left_old left_new Tells Read none cuts = inl (record { none = none; cuts = cuts })
header_leaves max left_old left_new Tells NoMemory none cuts = absurd cuts.ends
