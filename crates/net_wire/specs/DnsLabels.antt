-- The iterator of labels without where the bytes lie in memory.
use Rattle.std.specs.Prelude.{◌≡◌, ℕ, suc, ◌+◌, ⊤, length, List, [], ◌∷◌, Option, Some, None, Result, Ok, Err, MatchResult, MatchOption}
use Rattle.std.specs.Borrow.{Bor}
use Rattle.net_wire.specs.declared.error.Malformed.{Malformed}
use Rattle.net_wire.specs.declared.dns.name.Piece.{Piece}
use Rattle.net_wire.specs.declared.dns.name.Piece.TheVariants as variant
use Rattle.net_wire.specs.declared.dns.name.Labels.{Labels}
use Rattle.net_wire.specs.DnsName.{NamePiece, AtEnd, AtLabel, AtPointer, AtFault, LabelList, labels_at, fault}

abbrev pub piece_of : Piece → NamePiece
piece_of (variant.End after) = AtEnd after.now
piece_of (variant.Label label after) = AtLabel label.now after.now
piece_of (variant.Pointer target after) = AtPointer target after.now
piece_of variant.Malformed = AtFault

-- of so many bytes a piece leaves those after it
abbrev pub TakesPiece : ℕ → NamePiece → Type 0
TakesPiece len (AtEnd after) = suc (length after) ≡ len
TakesPiece len (AtLabel label after) = suc (length label + length after) ≡ len
TakesPiece len (AtPointer target after) = suc (suc (length after)) ≡ len
TakesPiece len AtFault = ⊤

-- what an item shows
abbrev pub label_of : Result (Bor (List ℕ)) Malformed → Result (List ℕ) Malformed
label_of (Ok label) = Ok label.now
label_of (Err error) = Err error

abbrev pub labels_from : List ℕ → Option (Bor (List ℕ)) → LabelList
labels_from below None = []
labels_from below (Some rest) = labels_at below rest.now

-- the labels that are still to come
abbrev pub labels_left : Labels → LabelList
labels_left labels = labels_from labels.below.now labels.rest

-- the first of some labels and those after it, none, or the fault
abbrev pub IsFirstLabel : LabelList → Result (Option (Bor (List ℕ) × Labels)) Malformed → Type 0
IsFirstLabel labels result = MatchResult result
    (λ found. MatchOption found (labels ≡ []) (λ first. labels ≡ Ok first.0.now ∷ labels_left first.1))
    (λ _. labels ≡ fault)
