use Rattle.std.proofs.Common.{ℕ, eqb, ap, sym, ◌∙◌}
use Rattle.std.specs.Prelude.{position}
use Rattle.dhcp_client.specs.Heard.{masks}
use Rattle.dhcp_client.proofs.heard.prefix_of.Goals as goal

pub returns-in-Some : goal.returns-in-Some
returns-in-Some c =
    sym c.in-Some.is ∙ c.place_of.ensures.value
    ∙ ap (λ (n : ℕ). position (λ (one : ℕ). eqb one n) masks) c.from_be_bytes-number.ensures

pub returns-in-None : goal.returns-in-None
returns-in-None c =
    sym c.in-None.is ∙ c.place_of.ensures.value
    ∙ ap (λ (n : ℕ). position (λ (one : ℕ). eqb one n) masks) c.from_be_bytes-number.ensures
