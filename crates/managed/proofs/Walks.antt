-- The names that walks by hand cite.
pub use Prim.Native.Nat.{ℕ, ◌<◌, ◌*◌, ◌^◌, ◌+◌}
pub use Rattle.std.proofs.VecSteps.Shapes.{after}
pub use Rattle.std.proofs.raw_atomic.Walks.{proved, leaves}
pub use base.Fml.{fbor, ftrue, flft, GName, fdead, fres, fat, Lft, Share, Fml, fsep, fex, feq, fobor, fobs, fauth}
pub use base.Fraction.{full_share}
pub use base.Logic.{id⊢, emp, wand, apply∗, ent, sep, SProp, ex, all, all_e}
pub use base.Stored.{Gv}
pub use borrow.Table.OneValue.{part_out_at, part_in_at}
pub use contract.BorrowLft.{◌⊑◌, ⊑_trans, meet_⊑_left, meet_⊑_right}
pub use contract.Lifetimes.{lft_at, Lfts, Shares, AllOutlive}
pub use contract.Monad.{fact, fact_i}
pub use contract.Running.{MachineTables, tables, Running}
pub use denote.Array.{Array}
pub use denote.Builtin.{usize, RefMutOf, SliceRefMutOf, RefOf}
pub use denote.Enum.Enum.{in_a_row}
pub use denote.Exit.{no, yes}
pub use denote.Follow.{follows, follows_then, follows_if, follows_so, Part, lends_Part}
pub use denote.Laws.{Is, shows}
pub use denote.Lend.{LentAgain, lends_again, comes_back}
pub use denote.Memory.{mem, part_at, lone, pointee}
pub use denote.Param.{layouts, param, bounded}
pub use denote.Param.Laws.{Laws, param_laws, of_field, row_shared}
pub use denote.Param.Shared.{mut_ref_shared}
pub use denote.Plain.{uint_vals, uint_Tells, uint_Makes}
pub use denote.RattleType.{RattleType, Valss, owns}
pub use denote.Ref.{MutRef, MutBor, at_last, mut_vals, mut_Tells, mut_Lawful, Bor, shr_vals, shr_Tells}
pub use denote.Ref.{ShrRef, NamedLft}
pub use denote.Signature.{plain, named_lft, Slot, mut_slice_of}
pub use denote.Slice.{MutSlice, mut_slice_Lawful, slice_ty, slice_val, mut_slice_vals, mut_slice_Tells}
pub use denote.Steps.{nothing, heard, peeks, owned, only}
pub use denote.Struct.Field.{mut_ref_field}
pub use denote.Struct.Laws.{mut_ref_laws}
pub use denote.Struct.Tuple.{Tuple, tuple_laws}
pub use denote.Through.{renamed, lends_inner_slice}
pub use denote.Triple.Call.{calls_at, calls_at_last}
pub use denote.Triple.Clauses.{Lasts, lasts, Clauses, Ended}
pub use denote.Triple.Entry.{on_entry}
pub use denote.Triple.Spec.{triple_of, Meets}
pub use denote.Triple.Table.{framed}
pub use denote.Triple.Walked.{Stays, stay_dropped, says, Goes-dropped, Goes-spent_ref, walk_of}
pub use denote.Triple.Walked.{Goes-spent_slice}
pub use lib.Dec.{T}
pub use lib.ListN.{length}
pub use mathlib.Core.List.{List, [], ◌∷◌, ◌++◌}
pub use mathlib.Core.Path.{◌≡◌, refl, sym, subst, ap, ◌∙◌}
pub use mir.Facts.{and_yes}
pub use mir.MapTy.{inst_fn}
pub use mir.Syntax.{a_type, named, w64, Ty, erased, mut, ty_ref, ty_param, Fn, ty_enum, Args, Dict, dcons}
pub use mir.Syntax.{dnil, Tyss, Sym, tcons, tnil, ttcons, ttnil}
pub use mir.Val.{Val, vptr, vcons, vnil, of_list, has_ty, WT}
pub use native.Mathlib.Nat.{suc-ne-zero}
pub use prog.Memory.{up, align, variant_at}
pub use prog.Model.{Model}
pub use prog.Wired.{Wired}
pub use prog.Wp.{WpFn}
pub use seplogic.Ra.Ura.{Ura}
pub use types.ByLocal.{sets_last, alloc_all, pass_all, free_all, look_at, get, through, sets, lands_as, lands_last, env}
pub use types.ByLocal.{sets_last, look_in_at, get_in}
pub use types.Kit.{Item, Goal, Soaks, Seq}
pub use types.Kit.{‵, raw, ◌⊛◌, some, later, ◌$◌, ◌∵◌, !, qed, done, move, drop, use0, use1, use2, fjoin}
pub use types.Kit.{split, join, pick, await, rewrite, suffices, frame, keep, use3, fsplit, fjoin3, fsplit3}
pub use types.Kit.{split3, feq_i, feq_l, flt_i, flt_l, at_ret, group, given, by, learn, show, fpick, fpack}
pub use types.Logic.{Logic, sem}
pub use types.Match.{live, vrt, look_tag, by_variants}
pub use types.Mut.{open_ref, close_ref}
pub use types.Part.{agg, whole, sub, look_in}
pub use types.Run.{enter, addr, stop, no_more, and_then, returns, load, of_opd, fld, hop, first, exec, from}
pub use types.SemTy.{Body}
pub use types.Tokens.{lft_new, lft_end}
pub use denote.Triple.Statement.{Triple}
