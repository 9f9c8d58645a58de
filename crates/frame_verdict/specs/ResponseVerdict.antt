-- What becomes of what comes from a name server or by mDNS (RFC 1035, section 7.3; RFC 5452, section 9.1).
use Rattle.std.specs.Prelude.{ℕ, min, List, [], ◌∷◌, Option, Some, None}
use Rattle.host_model.specs.QuerySlots.{Slot, Free, Live, Over}
use Rattle.frame_verdict.specs.declared.verdict.Reason.TheVariants as reason
use Rattle.frame_verdict.specs.declared.verdict.Verdict.{Verdict}
use Rattle.frame_verdict.specs.declared.verdict.Verdict.TheVariants as verdict

-- the lower of a number and another one, if there is one
abbrev pub lower_of : ℕ → Option ℕ → ℕ
lower_of number None = number
lower_of number (Some other) = min number other

-- the lowest number of a query that has ended
abbrev pub lowest_over : List Slot → Option ℕ
lowest_over [] = None
lowest_over (Free ∷ slots) = lowest_over slots
lowest_over (Live query ∷ slots) = lowest_over slots
lowest_over (Over number addresses ∷ slots) = Some (lower_of number (lowest_over slots))

abbrev pub verdict_of_decided : Option ℕ → Verdict
verdict_of_decided None = verdict.Ignored reason.Response
verdict_of_decided (Some number) = verdict.Response number

-- by the slots that the response leaves
abbrev pub verdict_of_response : List Slot → Verdict
verdict_of_response slots = verdict_of_decided (lowest_over slots)
