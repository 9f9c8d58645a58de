-- A part that is refused by other errors is refused where it was.
use Rattle.std.proofs.Common.{◌≡◌, ℕ, Bool, true, false, cond, List, length, take, Option, Some, None, refl, ap, ◌∙◌}
use Rattle.std.specs.Prelude.{nat_lt, option_map}
use Rattle.ether_link.specs.declared.err.layers.Layer.{Layer}
use Rattle.ether_link.specs.declared.len_source.LenSource.{LenSource}
use Rattle.ether_link.specs.declared.len_source.LenSource.TheVariants.{Slice}
use Rattle.ether_link.specs.Form.{Form, or_else, len_error, short, long, header_len, refusal, IsMapped}

or_else-map : {E F : Type 0} (f : E → F) (a b : Option E) → or_else (option_map f a) (option_map f b) ≡ option_map f (or_else a b)
or_else-map f None b = refl
or_else-map f (Some x) b = refl

pub cond-map : {E F : Type 0} (f : E → F) (b : Bool) (x : E) → cond b (Some (f x)) None ≡ option_map f (cond b (Some x) None)
cond-map f true x = refl
cond-map f false x = refl

cond-map_option : {E F : Type 0} (f : E → F) (b : Bool) (x : Option E) → cond b (option_map f x) None ≡ option_map f (cond b x None)
cond-map_option f true x = refl
cond-map_option f false x = refl

module _ {E F : Type 0} (f : E → F) (form : Form E) (other : Form F) (mapped : IsMapped f form other) (bytes : List ℕ) where
  pub header_len-mapped : header_len other bytes ≡ header_len form bytes
  header_len-mapped = rw (mapped.least, mapped.more) refl

  short-mapped : (layer : Layer) (source : LenSource) (there required : ℕ)
      → short other.wrong_len layer source there required ≡ option_map f (short form.wrong_len layer source there required)
  short-mapped layer source there required =
      rw (mapped.wrong_len) (cond-map f (nat_lt there required) (form.wrong_len (len_error layer source there required)))

  long-mapped : (layer : Layer) (source : LenSource) (there required : ℕ)
      → long other.wrong_len layer source there required ≡ option_map f (long form.wrong_len layer source there required)
  long-mapped layer source there required =
      rw (mapped.wrong_len) (cond-map f (nat_lt required there) (form.wrong_len (len_error layer source there required)))

  pub refusal-mapped : refusal other bytes ≡ option_map f (refusal form bytes)
  refusal-mapped =
      let head = take form.least bytes in
      let whole = header_len form bytes in
      rw (
        mapped.least,
        mapped.layer,
        mapped.early,
        mapped.more,
        mapped.whole,
        mapped.source,
        mapped.late,
        mapped.alone,
        short-mapped form.layer Slice (length bytes) form.least,
        short-mapped (form.whole head) form.source (length bytes) whole,
        long-mapped (form.whole head) form.source (length bytes) whole,
        cond-map_option f (form.alone head) (long form.wrong_len (form.whole head) form.source (length bytes) whole),
        or_else-map f (form.late head) (cond (form.alone head) (long form.wrong_len (form.whole head) form.source (length bytes) whole) None),
        or_else-map,
        or_else-map,
        or_else-map,
      ) refl

pub accepts-mapped : {E F : Type 0} (f : E → F) (form : Form E) (other : Form F) → IsMapped f form other → (bytes : List ℕ)
    → refusal form bytes ≡ None → refusal other bytes ≡ None
accepts-mapped f form other mapped bytes is = refusal-mapped f form other mapped bytes ∙ ap (option_map f) is

pub refuses-mapped : {E F : Type 0} (f : E → F) (form : Form E) (other : Form F) → IsMapped f form other → (bytes : List ℕ) (why : E)
    → refusal form bytes ≡ Some why → refusal other bytes ≡ Some (f why)
refuses-mapped f form other mapped bytes why is = refusal-mapped f form other mapped bytes ∙ ap (option_map f) is
