-- The rows of a report.
use Rattle.std.specs.Prelude.{◌≡◌, ℤ, ◌<◌, ◌^◌, ◌⊎◌, List, [], ◌∷◌, ◌++◌, Option, length}
use Rattle.std.specs.List.{AllByRecursion}
use Rattle.net_host.specs.declared.report.Sent.{Sent}
use Rattle.ether_lax.specs.declared.note.FrameNote.{FrameNote}
use Rattle.net_wire.specs.declared.address.Ipv4Cidr.{Ipv4Cidr}
use Rattle.net_host.specs.declared.report.Kind.{Kind}
use Rattle.net_host.specs.declared.report.Row.{Row}

-- a row in which nothing was sent yet
abbrev pub new_row : ℤ → Kind → Option FrameNote → Option Ipv4Cidr → Row
new_row at kind note lease =
    record { at = at; kind = kind; note = note; lease = lease; sent = []; lines = [] }

-- a report has these rows, and at most one behind them
abbrev pub AddsAtMostOne : List Row → List Row → Type 0
AddsAtMostOne rows report = (report ≡ rows) ⊎ ((row : Row) × (report ≡ rows ++ row ∷ []))

-- frames that a record of a capture can hold
abbrev pub AreCapturable : List Sent → Type 0
AreCapturable sent = AllByRecursion (λ s. length s.frame < 2 ^ 32) sent
