-- The first bytes of a frame have the front of its layout.
use Rattle.std.proofs.Common.{◌≡◌, ℕ, ◌+◌, ◌-◌, ◌≤◌, min, Bool, true, false, List, [], ◌∷◌, take, Option, Some, None, refl, sym, ap, ◌∙◌, arith}
use Rattle.std.specs.Prelude.{nat_lt, slice_range}
use Rattle.std.proofs.lemmas.Bool.Decides.{nat_tests}
use Rattle.ether_link.specs.declared.layout.PartKind.{PartKind}
use Rattle.ether_link.specs.declared.layout.Turn.{Turn}
use Rattle.ether_link.specs.declared.layout.Place.{Place}
use Rattle.ether_link.specs.declared.layout.Stop.{Stop}
use Rattle.ether_link.specs.Form.{header_len, refusal, IsSameHeader}
use Rattle.ether_link.specs.Layout.{Grammar, header, window_end, place_of, IsLayoutFrom}
use Rattle.ether_link.specs.Cut.{cut_places, IsCuttable, proper}
use Rattle.ether_link.proofs.FormLemmas.{same_part, kept_part}
use Rattle.ether_link.proofs.RangeLemmas.{range_cut}

end_cut : (start end n : ℕ) (said : Option ℕ) → window_end start (min end n) said ≡ min (window_end start end said) n
end_cut start end n None = refl
end_cut start end n (Some said) = omega arith

module _ {E : Type 0} (grammar : Grammar E) (is_last : PartKind → Bool) (cuttable : IsCuttable grammar is_last) where
  -- nothing stands behind a part that ends a layout
  ended : (frame : List ℕ) (places : List Place) (turn : Turn) (header : List ℕ) (start end : ℕ) (stop : Option (Stop E)) → is_last turn.kind ≡ true
      → IsLayoutFrom grammar frame (grammar.next turn header) start end places stop → places ≡ []
  ended frame [] turn header start end stop last right = refl
  ended frame (p ∷ ps) turn header start end stop last right = absurd (rw (cuttable.ends turn header last) at right)

  -- a part that the first n bytes begin with
  same_place : (turn : Turn) (bytes : List ℕ) (start end n : ℕ) → start ≤ n → IsSameHeader (grammar.form_of turn.kind) (take (n - start) bytes) bytes (n - start)
      → place_of grammar turn.kind (take (n - start) bytes) start (min end n)
      ≡ record (place_of grammar turn.kind bytes start end) { end = min (place_of grammar turn.kind bytes start end).end n }
  same_place turn bytes start end n within same =
      rw (same.same_header, ← same.same_len, end_cut start end n (grammar.announced turn.kind (header grammar turn.kind bytes))) refl

  -- where a part that all bytes begin with is refused in the first n, its header reaches past them
  reaches_past : (turn : Turn) (bytes : List ℕ) (start n : ℕ) (why : E) → is_last turn.kind ≡ false → start ≤ n
      → refusal (grammar.form_of turn.kind) bytes ≡ None → refusal (grammar.form_of turn.kind) (take (n - start) bytes) ≡ Some why
      → (fits : Bool) → nat_lt n (start + header_len (grammar.form_of turn.kind) bytes) ≡ fits → fits ≡ true
  reaches_past turn bytes start n why proper_kind within accepted refused true is = refl
  reaches_past turn bytes start n why proper_kind within accepted refused false is =
      let room : header_len (grammar.form_of turn.kind) bytes ≤ n - start = grind (arith, nat_tests) in
      let kept = kept_part (grammar.form_of turn.kind) (n - start) bytes (cuttable.open_end turn.kind (take (grammar.form_of turn.kind).least bytes) proper_kind) accepted room in
      absurd (cc)

  proper-last : (place : Place) (more : List Place) → is_last place.kind ≡ true → more ≡ [] → proper is_last (place ∷ more) ≡ []
  proper-last place more last none = rw (last, none) refl

  proper-open : (place : Place) (more : List Place) → is_last place.kind ≡ false → proper is_last (place ∷ more) ≡ place ∷ proper is_last more
  proper-open place more proper_kind = rw proper_kind refl

  module _ (frame : List ℕ) (n : ℕ) where
    -- a part of the first n bytes that is refused in all of them ends the layout
    only_in_cut : (turn : Turn) (q : Place) (qs : List Place) (start end : ℕ) (why : E) (last : Option (Stop E)) → start ≤ n
        → refusal (grammar.form_of turn.kind) (slice_range frame start end) ≡ Some why
        → IsLayoutFrom grammar (take n frame) (Some turn) start (min end n) (q ∷ qs) last
        → (b : Bool) → is_last turn.kind ≡ b → proper is_last (q ∷ qs) ≡ []
    only_in_cut turn q qs start end why last within refused cut true is =
        let kind : q.kind ≡ turn.kind = ap (λ (place : Place). place.kind) cut.1 in
        let last_kind : is_last q.kind ≡ true = ap is_last kind ∙ is in
        proper-last q qs last_kind (ended (take n frame) qs turn _ q.body q.end last is cut.2)
    only_in_cut turn q qs start end why last within refused cut false is =
        let accepted_cut = rw (range_cut frame n start end within) at cut.0 in
        let same = same_part (grammar.form_of turn.kind) (n - start) (slice_range frame start end)
        (cuttable.open_end turn.kind (take (grammar.form_of turn.kind).least (slice_range frame start end)) is) accepted_cut in
        let accepted = same.accepted in
        absurd (cc)

    -- a part that is refused in the first n bytes reaches past them, or ends the layout
    only_in_whole : (turn : Turn) (p : Place) (ps : List Place) (start end : ℕ) (why : E) (stop : Option (Stop E)) → start ≤ n
        → IsLayoutFrom grammar frame (Some turn) start end (p ∷ ps) stop
        → refusal (grammar.form_of turn.kind) (slice_range (take n frame) start (min end n)) ≡ Some why
        → (b : Bool) → is_last turn.kind ≡ b → cut_places n (proper is_last (p ∷ ps)) ≡ []
    only_in_whole turn p ps start end why stop within right refused true is =
        let kind : p.kind ≡ turn.kind = ap (λ (place : Place). place.kind) right.1 in
        let last_kind : is_last p.kind ≡ true = ap is_last kind ∙ is in
        rw (proper-last p ps last_kind (ended frame ps turn _ p.body p.end stop is right.2)) refl
    only_in_whole turn p ps start end why stop within right refused false is =
        let kind : p.kind ≡ turn.kind = ap (λ (place : Place). place.kind) right.1 in
        let body : p.body ≡ start + header_len (grammar.form_of turn.kind) (slice_range frame start end) = ap (λ (place : Place). place.body) right.1 in
        let open_kind : is_last p.kind ≡ false = ap is_last kind ∙ is in
        let refused_front = rw (range_cut frame n start end within) at refused in
        let past : nat_lt n p.body ≡ true = rw body (reaches_past turn (slice_range frame start end) start n why is within right.0 refused_front _ refl) in
        rw (proper-open p ps open_kind, past) refl

    not_past : (body : ℕ) → body ≤ n → nat_lt n body ≡ false
    not_past body inside = grind (arith, nat_tests)

    -- a part of both is the same part, with what the first n bytes leave of its window
    in_both : (turn : Turn) (p q : Place) (ps qs : List Place) (start end : ℕ) (stop last : Option (Stop E)) → start ≤ n
        → IsLayoutFrom grammar frame (Some turn) start end (p ∷ ps) stop
        → IsLayoutFrom grammar (take n frame) (Some turn) start (min end n) (q ∷ qs) last
        → ((next : Option Turn) (from to : ℕ) → from ≤ n → IsLayoutFrom grammar frame next from to ps stop
        → IsLayoutFrom grammar (take n frame) next from (min to n) qs last → proper is_last qs ≡ cut_places n (proper is_last ps))
        → (b : Bool) → is_last turn.kind ≡ b → proper is_last (q ∷ qs) ≡ cut_places n (proper is_last (p ∷ ps))
    in_both turn p q ps qs start end stop last within right cut again true is =
        let p_kind : p.kind ≡ turn.kind = ap (λ (place : Place). place.kind) right.1 in
        let q_kind : q.kind ≡ turn.kind = ap (λ (place : Place). place.kind) cut.1 in
        let p_last : is_last p.kind ≡ true = ap is_last p_kind ∙ is in
        let q_last : is_last q.kind ≡ true = ap is_last q_kind ∙ is in
        rw (
          proper-last p ps p_last (ended frame ps turn _ p.body p.end stop is right.2),
          proper-last q qs q_last (ended (take n frame) qs turn _ q.body q.end last is cut.2),
        ) refl
    in_both turn p q ps qs start end stop last within right cut again false is =
        let p_kind : p.kind ≡ turn.kind = ap (λ (place : Place). place.kind) right.1 in
        let q_kind : q.kind ≡ turn.kind = ap (λ (place : Place). place.kind) cut.1 in
        let p_open : is_last p.kind ≡ false = ap is_last p_kind ∙ is in
        let q_open : is_last q.kind ≡ false = ap is_last q_kind ∙ is in
        let cut_range = range_cut frame n start end within in
        let accepted_cut = rw cut_range at cut.0 in
        let same = same_part (grammar.form_of turn.kind) (n - start) (slice_range frame start end)
        (cuttable.open_end turn.kind (take (grammar.form_of turn.kind).least (slice_range frame start end)) is) accepted_cut in
        let q_is = rw cut_range at cut.1 in
        let q_cut : q ≡ record (place_of grammar turn.kind (slice_range frame start end) start end)
        { end = min (place_of grammar turn.kind (slice_range frame start end) start end).end n }
        = q_is ∙ same_place turn (slice_range frame start end) start end n within same in
        let body : p.body ≡ start + header_len (grammar.form_of turn.kind) (slice_range frame start end) = ap (λ (place : Place). place.body) right.1 in
        let q_body : q.body ≡ p.body = ap (λ (place : Place). place.body) q_cut ∙ sym body in
        let p_end = ap (λ (place : Place). place.end) right.1 in
        let q_end : q.end ≡ min p.end n = ap (λ (place : Place). place.end) q_cut ∙ ap (λ e. min e n) (sym p_end) in
        let room = same.within in
        let inside : p.body ≤ n = omega arith in
        let moved = rw (cut_range, same.same_header, q_body, q_end) at cut.2 in
        let rest = again (grammar.next turn (header grammar turn.kind (slice_range frame start end))) p.body p.end inside right.2 moved in
        let q_of_p : q ≡ record p { end = min p.end n } = q_cut ∙ ap (λ (place : Place). record place { end = min place.end n }) (sym right.1) in
        rw (proper-open p ps p_open, proper-open q qs q_open, not_past p.body inside, rest, q_of_p) refl

    cut_by : (places kept : List Place) (turn : Option Turn) (start end : ℕ) (stop last : Option (Stop E)) → start ≤ n
        → IsLayoutFrom grammar frame turn start end places stop
        → IsLayoutFrom grammar (take n frame) turn start (min end n) kept last
        → proper is_last kept ≡ cut_places n (proper is_last places)
    cut_by [] [] turn start end stop last within right cut = refl
    cut_by (p ∷ ps) kept None start end stop last within right cut = absurd right
    cut_by [] (q ∷ qs) None start end stop last within right cut = absurd cut
    cut_by [] (q ∷ qs) (Some turn) start end stop last within right cut =
        only_in_cut turn q qs start end right.0 last within right.1 cut (is_last turn.kind) refl
    cut_by (p ∷ ps) [] (Some turn) start end stop last within right cut =
        sym (only_in_whole turn p ps start end cut.0 stop within right cut.1 (is_last turn.kind) refl)
    cut_by (p ∷ ps) (q ∷ qs) (Some turn) start end stop last within right cut =
        in_both turn p q ps qs start end stop last within right cut
        (λ next from to inside rest kept_rest. cut_by ps qs next from to stop last inside rest kept_rest) (is_last turn.kind) refl

-- the layout of the first n bytes is the front of that of all, but for parts that end a layout
pub cut : {E : Type 0} (grammar : Grammar E) (is_last : PartKind → Bool) → IsCuttable grammar is_last → (frame : List ℕ) (n : ℕ)
    (turn : Option Turn) (start end : ℕ) (places kept : List Place) (stop last : Option (Stop E)) → start ≤ n
    → IsLayoutFrom grammar frame turn start end places stop → IsLayoutFrom grammar (take n frame) turn start (min end n) kept last
    → proper is_last kept ≡ cut_places n (proper is_last places)
cut grammar is_last cuttable frame n turn start end places kept stop last within right right_cut =
    cut_by grammar is_last cuttable frame n places kept turn start end stop last within right right_cut
