-- The text of a capture that is printed.
use Rattle.std.specs.Prelude.{ℕ, List, ◌++◌, codes, length, Result}
use Rattle.std.specs.Fmt.{decimal}
use Rattle.std.specs.List.{flat_map, enumerate_from}
use Rattle.net_wire.specs.Pretty.{ethernet_text}
use Rattle.net_wire.specs.PrettyIndent.{indent_from}
use Rattle.phy_layers.specs.declared.byte_sink.ByteSink as byte_sink
use Rattle.phy_layers.specs.declared.byte_sink.SinkError.{SinkError}
use Rattle.capture_explain.specs.Capture.{CaptureEntry}
use Rattle.capture_explain.specs.Text.{Puts, six_digits}

-- the line of an entry: its number, its time, and how many bytes of the frame were captured of how many
abbrev pub entry_line : ℕ → ℕ → ℕ → ℕ → ℕ → List ℕ
entry_line number secs micros captured told =
    decimal number ++ codes " " ++ decimal secs ++ codes "." ++ six_digits micros ++ codes " frame "
    ++ decimal captured ++ codes "/" ++ decimal told ++ codes "\n"

-- the printing of a frame, each line of it behind two blanks
abbrev pub frame_lines : List ℕ → List ℕ
frame_lines frame = ethernet_text frame (indent_from (codes "  ")) ++ codes "\n"

abbrev pub entry_text : ℕ × CaptureEntry → List ℕ
entry_text numbered =
    entry_line numbered.0 numbered.1.secs numbered.1.micros (length numbered.1.frame) numbered.1.told
    ++ frame_lines numbered.1.frame

-- a capture: its entries, which are counted from 0
unfoldable pub print_bytes : List CaptureEntry → List ℕ
print_bytes entries = flat_map entry_text (enumerate_from 0 entries)

-- The text of some entries was handed to a sink behind what was handed to it before.
abbrev pub PutsEntries : {O : Type 0} → byte_sink.Ghosts O → Result (Unit {0}) SinkError → Result (Unit {0}) SinkError
    → O → O → List CaptureEntry → Type 0
PutsEntries sink before after old new entries =
    Puts sink.bytes sink.faults sink.grows before after (print_bytes entries) old new
