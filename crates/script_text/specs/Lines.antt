-- The lines of a text and their words. A text is bytes.
use Rattle.std.specs.Prelude.{ℕ, ◌==◌, ◌||◌, ◌&&◌, not, Bool, List, length, filter, take_while}
use Rattle.std.specs.List.{slice_split}

-- A line feed ends a line. What stands behind the last one is a line too.
abbrev pub lines_of : List ℕ → List (List ℕ)
lines_of text = slice_split (λ byte. byte == 0x0a) text

-- a line up to its first #
abbrev pub uncommented : List ℕ → List ℕ
uncommented line = take_while (λ byte. not (byte == 0x23)) line

-- space, tab and carriage return
abbrev pub is_blank : ℕ → Bool
is_blank byte = (byte == 0x20) || (byte == 0x09) || (byte == 0x0d)

-- a byte of a word
abbrev pub is_inside : ℕ → Bool
is_inside byte = not (is_blank byte) && not (byte == 0x23)

abbrev pub is_word : List ℕ → Bool
is_word piece = not (length piece == 0)

-- what stands between blanks in front of a comment
abbrev pub words_of : List ℕ → List (List ℕ)
words_of line = filter is_word (slice_split is_blank (uncommented line))
