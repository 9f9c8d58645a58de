-- What stands in front of each line of a printed packet.
use Rattle.std.specs.Prelude.{ℕ, ◌+◌, ◌-◌, ◌==◌, List, [], ◌∷◌, ◌++◌, length, replicate, if◌then◌else◌}

-- a prefix, and how many levels below the first line a line stands
pub record Indent : Type 0 where
  pub prefix : List ℕ
  pub level : ℕ

-- the indent of the first line
abbrev pub indent_from : List ℕ → Indent
indent_from prefix = record { prefix = prefix; level = 0 }

abbrev pub deeper : Indent → Indent
deeper indent = record indent { level = indent.level + 1 }

-- the prefix at the first line, and blanks and a branch below it: a blank for each byte of the prefix, and
-- one for each further level
unfoldable pub indent_text : Indent → List ℕ
indent_text indent =
    if indent.level == 0 then indent.prefix
    else replicate (length indent.prefix) 32 ++ (replicate (indent.level - 1) 32 ++ (92 ∷ 32 ∷ []))
