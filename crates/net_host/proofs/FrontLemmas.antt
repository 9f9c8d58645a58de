-- Fronts of known bytes.
use Rattle.std.proofs.Common.{◌≡◌, ℕ, List, [], ◌++◌, Option, Some, None, IfSome, sym, ◌∙◌, refl, append-nil}
use Rattle.std.specs.Io.KnownBytes.{Appends, Consumes, Keeps}
use Rattle.wire_base.specs.Causes.{AppendsFront}

-- bytes that were taken are a front of all of them
pub front_of : (old new : Option (List ℕ)) (taken : List ℕ) → Consumes old new taken → IfSome old (λ bytes. (more : List ℕ) × (bytes ≡ taken ++ more))
front_of None new taken took = tt
front_of (Some bytes) None taken took = absurd took
front_of (Some bytes) (Some more) taken took = (more, took)

-- nothing is a front of all bytes
pub no_front : (captured : Option (List ℕ)) (bytes : List ℕ) → AppendsFront captured captured bytes
no_front None bytes = tt
no_front (Some taken) bytes = ([], bytes, refl, sym (append-nil taken))

-- known bytes that grew and then stayed are a front of what they grew by
pub kept_front : (a b c : Option (List ℕ)) (bytes : List ℕ) → Appends a b bytes → Keeps b c → AppendsFront a c bytes
kept_front None b c bytes grew kept = tt
kept_front (Some xs) None c bytes grew kept = absurd grew
kept_front (Some xs) (Some ys) None bytes grew kept = absurd kept
kept_front (Some xs) (Some ys) (Some zs) bytes grew kept = (bytes, [], sym (append-nil bytes), kept ∙ grew)
