-- What a map ends as, from what its places or its tree end as.
use Rattle.std.proofs.Common.{List, Option, Some, None, MutBor, refl, ap}
use Rattle.std.specs.Option.{OnSome}
use Rattle.std.specs.BTreeMap.{BTreeMap, WritesThrough}
use Rattle.std.specs.declared.cmp.Ordering.{Ordering}
use denote.Ref.{at_last}
use Rattle.managed.specs.declared.map.ManagedMap.TheVariants.{Borrowed, Owned}
use Rattle.managed.specs.MapLoans.{IsWrittenPlaces, IsWrittenMap}

module _ {K V A : Type 0} (cmp : K → K → Ordering) (key : K) (r : Option A) (w : V) where
  pub places_written : (y : MutBor (List (Option (K × V)))) (places : List (Option (K × V))) → OnSome r (IsWrittenPlaces cmp key y.now w places) → OnSome r (IsWrittenMap cmp key (Borrowed y) w (Borrowed (at_last y places)))
  places_written y places written = by_cases r written
    where
      by_cases : (r : Option A) → OnSome r (IsWrittenPlaces cmp key y.now w places) → OnSome r (IsWrittenMap cmp key (Borrowed y) w (Borrowed (at_last y places)))
      by_cases None written = tt
      by_cases (Some x) written = record { pairs = written.pairs; storage = (refl, ap Some written.capacity); sorted = written.sorted }

  pub tree_written : (old new : BTreeMap K V) → WritesThrough cmp (cmp key) old w new → OnSome r (IsWrittenMap cmp key (Owned old) w (Owned new))
  tree_written old new written = by_cases r
    where
      by_cases : (r : Option A) → OnSome r (IsWrittenMap cmp key (Owned old) w (Owned new))
      by_cases None = tt
      by_cases (Some x) = record { pairs = record { written = written.0; keys = written.1 }; storage = (refl, refl); sorted = tt }
