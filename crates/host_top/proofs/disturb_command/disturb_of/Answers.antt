use Rattle.std.proofs.Common.{ℕ, List, refl, subst, sym, arith}
use Rattle.std.specs.String.{string_bytes}
use Rattle.host_top.specs.Disturb.{IsChanceWord}
use Rattle.host_top.specs.RunWords.{IsCountWord}
use Rattle.host_top.specs.Word.{IsU32Word, IsAddressWord}
use Rattle.host_top.proofs.ArgumentLemmas.{argument_is, arguments_counted}
use Rattle.host_top.proofs.disturb_command.disturb_of.Goals as goal

pub returns-in_err-address_of-clause-refuses : goal.returns-in_err-address_of-clause-refuses
returns-in_err-address_of-clause-refuses c =
    let is = argument_is string_bytes c.args.words.now 0 c.hardware-item.result c.as_bytes.result.now (omega (arith, c.in-len6.len_at_least))
    c.hardware-item.is c.as_bytes.ensures.value in
    rw c.from_residual.ensures (λ disturb writes.
    c.in_err-address_of.ensures.refuses disturb.run.hardware (subst (λ (w : List ℕ). IsAddressWord w disturb.run.hardware) is writes.hardware))

pub returns-in_err-u32_of-clause-refuses : goal.returns-in_err-u32_of-clause-refuses
returns-in_err-u32_of-clause-refuses c =
    let is = argument_is string_bytes c.args.words.now 1 c.seed-item.result c.as_bytes-2.result.now (omega (arith, c.in-len6.len_at_least))
    c.seed-item.is c.as_bytes-2.ensures.value in
    rw c.from_residual-in_err-u32_of.ensures (λ disturb writes.
    c.in_err-u32_of.ensures.refuses disturb.run.seed (subst (λ (w : List ℕ). IsU32Word w disturb.run.seed) is writes.seed))

pub returns-in_err-count_of-clause-refuses : goal.returns-in_err-count_of-clause-refuses
returns-in_err-count_of-clause-refuses c =
    let is = argument_is string_bytes c.args.words.now 2 c.max_events-item.result c.as_bytes-3.result.now (omega (arith, c.in-len6.len_at_least))
    c.max_events-item.is c.as_bytes-3.ensures.value in
    rw c.from_residual-in_err-count_of.ensures (λ disturb writes.
    c.in_err-count_of.ensures.refuses disturb.run.max_events (subst (λ (w : List ℕ). IsCountWord w disturb.run.max_events) is writes.max))

pub returns-in_err-u32_of-2-clause-refuses : goal.returns-in_err-u32_of-2-clause-refuses
returns-in_err-u32_of-2-clause-refuses c =
    let is = argument_is string_bytes c.args.words.now 3 c.fault_seed-item.result c.as_bytes-4.result.now (omega (arith, c.in-len6.len_at_least))
    c.fault_seed-item.is c.as_bytes-4.ensures.value in
    rw c.from_residual-in_err-u32_of-2.ensures (λ disturb writes.
    c.in_err-u32_of-2.ensures.refuses disturb.fault_seed (subst (λ (w : List ℕ). IsU32Word w disturb.fault_seed) is writes.fault_seed))

pub returns-in_err-chance_of-clause-refuses : goal.returns-in_err-chance_of-clause-refuses
returns-in_err-chance_of-clause-refuses c =
    let is = argument_is string_bytes c.args.words.now 4 c.drop-item.result c.as_bytes-5.result.now (omega (arith, c.in-len6.len_at_least))
    c.drop-item.is c.as_bytes-5.ensures.value in
    rw c.from_residual-in_err-chance_of.ensures (λ disturb writes.
    c.in_err-chance_of.ensures.refuses disturb.drop_chance (subst (λ (w : List ℕ). IsChanceWord w disturb.drop_chance) is writes.drop))

pub returns-in_err-chance_of-2-clause-refuses : goal.returns-in_err-chance_of-2-clause-refuses
returns-in_err-chance_of-2-clause-refuses c =
    let is = argument_is string_bytes c.args.words.now 5 c.corrupt-item.result c.as_bytes-6.result.now (omega (arith, c.in-len6.len_at_least))
    c.corrupt-item.is c.as_bytes-6.ensures.value in
    rw c.from_residual-in_err-chance_of-2.ensures (λ disturb writes.
    c.in_err-chance_of-2.ensures.refuses disturb.corrupt_chance (subst (λ (w : List ℕ). IsChanceWord w disturb.corrupt_chance) is writes.corrupt))

pub returns-clause-found : goal.returns-clause-found
returns-clause-found c = record {
  six = arguments_counted string_bytes c.args.words.now 6 c.in-len6.len_at_least c.in-len6.len_below;
  hardware = subst (λ (w : List ℕ). IsAddressWord w c.in_ok-address_of.field-0)
      (sym (argument_is string_bytes c.args.words.now 0 c.hardware-item.result c.as_bytes.result.now (omega (arith, c.in-len6.len_at_least))
      c.hardware-item.is c.as_bytes.ensures.value)) c.in_ok-address_of.ensures.found;
  seed = subst (λ (w : List ℕ). IsU32Word w c.in_ok-u32_of.field-0)
      (sym (argument_is string_bytes c.args.words.now 1 c.seed-item.result c.as_bytes-2.result.now (omega (arith, c.in-len6.len_at_least))
      c.seed-item.is c.as_bytes-2.ensures.value)) c.in_ok-u32_of.ensures.found;
  max = subst (λ (w : List ℕ). IsCountWord w c.in_ok-count_of.field-0)
      (sym (argument_is string_bytes c.args.words.now 2 c.max_events-item.result c.as_bytes-3.result.now (omega (arith, c.in-len6.len_at_least))
      c.max_events-item.is c.as_bytes-3.ensures.value)) c.in_ok-count_of.ensures.found;
  fault_seed = subst (λ (w : List ℕ). IsU32Word w c.in_ok-u32_of-2.field-0)
      (sym (argument_is string_bytes c.args.words.now 3 c.fault_seed-item.result c.as_bytes-4.result.now (omega (arith, c.in-len6.len_at_least))
      c.fault_seed-item.is c.as_bytes-4.ensures.value)) c.in_ok-u32_of-2.ensures.found;
  drop = subst (λ (w : List ℕ). IsChanceWord w c.in_ok-chance_of.field-0)
      (sym (argument_is string_bytes c.args.words.now 4 c.drop-item.result c.as_bytes-5.result.now (omega (arith, c.in-len6.len_at_least))
      c.drop-item.is c.as_bytes-5.ensures.value)) c.in_ok-chance_of.ensures.found;
  corrupt = subst (λ (w : List ℕ). IsChanceWord w c.in_ok-chance_of-2.field-0)
      (sym (argument_is string_bytes c.args.words.now 5 c.corrupt-item.result c.as_bytes-6.result.now (omega (arith, c.in-len6.len_at_least))
      c.corrupt-item.is c.as_bytes-6.ensures.value)) c.in_ok-chance_of-2.ensures.found;
  plain = refl;
}
