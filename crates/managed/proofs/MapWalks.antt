-- What the walks over a map share.
use Rattle.managed.proofs.Walks.{lone, pointee, param, bounded, RattleType, NamedLft, MutSlice, slice_ty, []}
use Rattle.managed.proofs.Walks.{◌∷◌, refl, a_type, named, Ty, erased, mut, ty_ref, Args, Dict, dcons, dnil}
use Rattle.managed.proofs.Walks.{Sym}
use Rattle.std.specs.declared.cmp.Ord as ord
use Rattle.std.specs.declared.cmp.Eq as total
use Rattle.std.specs.declared.cmp.PartialEq as eq
use Rattle.std.specs.declared.cmp.PartialOrd as partial
use Rattle.std.specs.contracts.collections.BTreeMap as tree
use Rattle.std.specs.contracts.alloc.Global as heap
use Rattle.std.specs.contracts.impls.GlobalAllocator.TheImpl as impl
use Rattle.managed.specs.MapLoans.{place_row}
use Rattle.managed.proofs.VariantLoans.{Field, first_field, second_field}
use Rattle.managed.specs.declared.map.ManagedMap.TheVariants.{Borrowed, Owned}
use Rattle.managed.specs.contracts.map.ManagedMap as row

-- how the keys compare, and what a call is passed for it
pub record Keys (K : Type 0) : Type 1 where
  pub o : ord.Ghosts K
  pub o-dict : Dict
  pub e : total.Ghosts K
  pub e-dict : Dict
  pub p : eq.Ghosts K
  pub p-dict : Dict
  pub q : partial.Ghosts K
  pub q-dict : Dict

module _ (K V : RattleType) where
  abbrev pub Place : RattleType
  Place = place_row (param 0 K) (param 1 V)

  abbrev pub σ : Ty
  σ = slice_ty (ty_ref erased mut (pointee Place.written))

  module _ (O : Keys K.Denot) where
    abbrev pub args : Args
    args = bounded (a_type ∷ a_type ∷ []) (K, (V, tt))
        (dcons O.o-dict (dcons O.e-dict (dcons O.p-dict (dcons O.q-dict dnil))))

    abbrev pub Tree : RattleType
    Tree = tree.the_row (param 0 K) (param 1 V) heap.the_row O.o O.p O.q impl.ghosts

    -- the type of a map, whose places are borrowed for ℓ
    module _ (ℓ : NamedLft) where
      abbrev pub Map : RattleType
      Map = row.the_row ℓ (param 0 K) (param 1 V) O.o O.p O.q

      abbrev ν : Sym
      ν = (row.the_type ℓ (param 0 K) (param 1 V) O.o O.p O.q).name

      abbrev pub places_field : Field
      places_field = first_field Map (MutSlice (named 1) ℓ.lft Place) Borrowed ν σ (lone Tree.mir) refl refl
          refl refl (λ x vs. refl)

      abbrev pub tree_field : Field
      tree_field = second_field Map Tree Owned ν σ (lone Tree.mir) refl refl refl refl (λ x vs. refl)
