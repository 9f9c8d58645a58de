use Rattle.std.proofs.Common.{◌≡◌, ℕ, ◌+◌, ◌-◌, ◌<◌, false, Bool, slice_index_or}
use Rattle.lease_server.specs.Replies.{first_free}
use Rattle.lease_server.proofs.marks.first_unmarked.Given as goal

abbrev pub invariant-loop-place : goal.invariant-loop-place
invariant-loop-place l = (test : ℕ → Bool)
    → ((place : ℕ) → place < l.count → slice_index_or l.taken place false ≡ test (l.first + place))
    → first_free test l.first l.count ≡ first_free test (l.first + l.place) (l.count - l.place)
