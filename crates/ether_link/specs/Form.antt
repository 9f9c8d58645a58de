-- How a part of a frame is read, as data: what its first bytes refuse, and how much more its header has.
use Rattle.std.specs.Prelude.{◌≡◌, ℕ, ◌+◌, ◌≤◌, nat_lt, Bool, false, if◌then◌else◌, List, length, take, Option, Some, None, option_map, Result, Ok, Err}
use Rattle.ether_link.specs.declared.len_source.LenSource.{LenSource}
use Rattle.ether_link.specs.declared.len_source.LenSource.TheVariants.{Slice}
use Rattle.ether_link.specs.declared.err.layers.Layer.{Layer}
use Rattle.ether_link.specs.declared.err.length.LenError.{LenError}

-- a part that is refused by an E: its first bytes, what they refuse, and what they say of the rest
pub record Form (E : Type 0) : Type 0 where
  -- the number of the first bytes, and what they are the first bytes of
  pub least : ℕ
  pub layer : Layer
  -- what the first bytes refuse, before any further length
  pub early : List ℕ → Option E
  -- the header bytes after the first ones, what the whole is, and where its length is from
  pub more : List ℕ → ℕ
  pub whole : List ℕ → Layer
  pub source : LenSource
  -- what the first bytes refuse, after that length
  pub late : List ℕ → Option E
  -- the header is to be all that is there
  pub alone : List ℕ → Bool
  -- a length that is refused
  pub wrong_len : LenError → E

-- nothing is refused; no part follows
abbrev pub never_refused : {E : Type 0} → List ℕ → Option E
never_refused head = None

abbrev pub nothing_more : List ℕ → ℕ
nothing_more head = 0

abbrev pub never_alone : List ℕ → Bool
never_alone head = false

-- the first of two refusals
abbrev pub or_else : {E : Type 0} → Option E → Option E → Option E
or_else None second = second
or_else (Some first) second = Some first

-- a length that is not the required one
abbrev pub len_error : Layer → LenSource → ℕ → ℕ → LenError
len_error layer source there required =
    record {
      required_len = required;
      len = there;
      len_source = source;
      layer = layer;
      layer_start_offset = 0;
    }

-- the refusal of too few bytes, and that of too many
abbrev pub short : {E : Type 0} → (LenError → E) → Layer → LenSource → ℕ → ℕ → Option E
short wrong_len layer source there required =
    if nat_lt there required then Some (wrong_len (len_error layer source there required)) else None

abbrev pub long : {E : Type 0} → (LenError → E) → Layer → LenSource → ℕ → ℕ → Option E
long wrong_len layer source there required =
    if nat_lt required there then Some (wrong_len (len_error layer source there required)) else None

-- the bytes of the whole header
abbrev pub header_len : {E : Type 0} → Form E → List ℕ → ℕ
header_len form bytes = form.least + form.more (take form.least bytes)

-- the first refusal of the part that the bytes begin with
abbrev pub refusal : {E : Type 0} → Form E → List ℕ → Option E
refusal form bytes =
    or_else (short form.wrong_len form.layer Slice (length bytes) form.least)
    (or_else (form.early (take form.least bytes))
    (or_else (short form.wrong_len (form.whole (take form.least bytes)) form.source (length bytes)
    (header_len form bytes))
    (or_else (form.late (take form.least bytes))
    (if form.alone (take form.least bytes)
    then long form.wrong_len (form.whole (take form.least bytes)) form.source (length bytes)
    (header_len form bytes)
    else None))))

-- the bytes are exactly the header
abbrev pub IsHeader : {E : Type 0} → Form E → List ℕ → Type 0
IsHeader form bytes = (refusal form bytes ≡ None) × (header_len form bytes ≡ length bytes)

-- a reader gives the part where nothing is refused, and else the first refusal
abbrev pub Reads : {E T : Type 0} → Form E → List ℕ → Result T E → (T → Type 0) → Type 0
Reads form bytes (Ok part) Holds = (refusal form bytes ≡ None) × Holds part
Reads form bytes (Err why) Holds = refusal form bytes ≡ Some why

-- the header that accepted bytes begin with is also that of more bytes, and lies inside the first n
pub record IsSameHeader {E : Type 0} (form : Form E) (bytes more : List ℕ) (n : ℕ) : Type 0 where
  pub accepted : refusal form more ≡ None
  pub same_len : header_len form more ≡ header_len form bytes
  pub within : header_len form more ≤ n
  pub same_header : take (header_len form bytes) bytes ≡ take (header_len form more) more

-- a length error that is the whole error
abbrev pub no_map : LenError → LenError
no_map error = error

-- the same part, refused by other errors
pub record IsMapped {E F : Type 0} (f : E → F) (form : Form E) (other : Form F) : Type 0 where
  pub least : other.least ≡ form.least
  pub layer : other.layer ≡ form.layer
  pub early : (head : List ℕ) → other.early head ≡ option_map f (form.early head)
  pub more : (head : List ℕ) → other.more head ≡ form.more head
  pub whole : (head : List ℕ) → other.whole head ≡ form.whole head
  pub source : other.source ≡ form.source
  pub late : (head : List ℕ) → other.late head ≡ option_map f (form.late head)
  pub alone : (head : List ℕ) → other.alone head ≡ form.alone head
  pub wrong_len : (error : LenError) → other.wrong_len error ≡ f (form.wrong_len error)
