use Rattle.std.proofs.Common.{ℕ, List, subst, sym, arith}
use Rattle.std.specs.String.{string_bytes}
use Rattle.host_top.specs.Serve.{IsRangeWord, IsPrefixWord}
use Rattle.host_top.specs.Ipv4Word.{IsIpv4Word}
use Rattle.host_top.specs.RunWords.{IsCountWord}
use Rattle.host_top.specs.Word.{IsU32Word, IsAddressWord}
use Rattle.host_top.proofs.ArgumentLemmas.{argument_is, arguments_counted}
use Rattle.host_top.proofs.serve_command.spelled.Goals as goal

pub returns-in_err-address_of-clause-refuses : goal.returns-in_err-address_of-clause-refuses
returns-in_err-address_of-clause-refuses c =
    let is = argument_is string_bytes c.args.words.now 0 c.hardware-item.result c.as_bytes.result.now (omega (arith, c.in-len7.len_at_least))
    c.hardware-item.is c.as_bytes.ensures.value in
    rw c.from_residual.ensures (λ serve writes.
    c.in_err-address_of.ensures.refuses serve.hardware (subst (λ (w : List ℕ). IsAddressWord w serve.hardware) is writes.hardware))

pub returns-in_err-ipv4_of-clause-refuses : goal.returns-in_err-ipv4_of-clause-refuses
returns-in_err-ipv4_of-clause-refuses c =
    let is = argument_is string_bytes c.args.words.now 1 c.address-item.result c.as_bytes-2.result.now (omega (arith, c.in-len7.len_at_least))
    c.address-item.is c.as_bytes-2.ensures.value in
    rw c.from_residual-in_err-ipv4_of.ensures (λ serve writes.
    c.in_err-ipv4_of.ensures.refuses serve.address (subst (λ (w : List ℕ). IsIpv4Word w serve.address) is writes.address))

pub returns-in_err-ipv4_of-2-clause-refuses : goal.returns-in_err-ipv4_of-2-clause-refuses
returns-in_err-ipv4_of-2-clause-refuses c =
    let is = argument_is string_bytes c.args.words.now 2 c.first-item.result c.as_bytes-3.result.now (omega (arith, c.in-len7.len_at_least))
    c.first-item.is c.as_bytes-3.ensures.value in
    rw c.from_residual-in_err-ipv4_of-2.ensures (λ serve writes.
    c.in_err-ipv4_of-2.ensures.refuses serve.first (subst (λ (w : List ℕ). IsIpv4Word w serve.first) is writes.first))

pub returns-in_err-range_of-clause-refuses : goal.returns-in_err-range_of-clause-refuses
returns-in_err-range_of-clause-refuses c =
    let is = argument_is string_bytes c.args.words.now 3 c.count-item.result c.as_bytes-4.result.now (omega (arith, c.in-len7.len_at_least))
    c.count-item.is c.as_bytes-4.ensures.value in
    rw c.from_residual-in_err-range_of.ensures (λ serve writes.
    c.in_err-range_of.ensures.refuses serve.count (subst (λ (w : List ℕ). IsRangeWord w serve.count) is writes.count))

pub returns-in_err-prefix_of-clause-refuses : goal.returns-in_err-prefix_of-clause-refuses
returns-in_err-prefix_of-clause-refuses c =
    let is = argument_is string_bytes c.args.words.now 4 c.prefix-item.result c.as_bytes-5.result.now (omega (arith, c.in-len7.len_at_least))
    c.prefix-item.is c.as_bytes-5.ensures.value in
    rw c.from_residual-in_err-prefix_of.ensures (λ serve writes.
    c.in_err-prefix_of.ensures.refuses serve.prefix_len (subst (λ (w : List ℕ). IsPrefixWord w serve.prefix_len) is writes.prefix))

pub returns-in_err-u32_of-clause-refuses : goal.returns-in_err-u32_of-clause-refuses
returns-in_err-u32_of-clause-refuses c =
    let is = argument_is string_bytes c.args.words.now 5 c.lease-item.result c.as_bytes-6.result.now (omega (arith, c.in-len7.len_at_least))
    c.lease-item.is c.as_bytes-6.ensures.value in
    rw c.from_residual-in_err-u32_of.ensures (λ serve writes.
    c.in_err-u32_of.ensures.refuses serve.lease_secs (subst (λ (w : List ℕ). IsU32Word w serve.lease_secs) is writes.lease))

pub returns-in_err-count_of-clause-refuses : goal.returns-in_err-count_of-clause-refuses
returns-in_err-count_of-clause-refuses c =
    let is = argument_is string_bytes c.args.words.now 6 c.max_events-item.result c.as_bytes-7.result.now (omega (arith, c.in-len7.len_at_least))
    c.max_events-item.is c.as_bytes-7.ensures.value in
    rw c.from_residual-in_err-count_of.ensures (λ serve writes.
    c.in_err-count_of.ensures.refuses serve.max_events (subst (λ (w : List ℕ). IsCountWord w serve.max_events) is writes.max))

pub returns-clause-found : goal.returns-clause-found
returns-clause-found c = record {
  seven = arguments_counted string_bytes c.args.words.now 7 c.in-len7.len_at_least c.in-len7.len_below;
  hardware = subst (λ (w : List ℕ). IsAddressWord w c.in_ok-address_of.field-0)
      (sym (argument_is string_bytes c.args.words.now 0 c.hardware-item.result c.as_bytes.result.now (omega (arith, c.in-len7.len_at_least))
      c.hardware-item.is c.as_bytes.ensures.value)) c.in_ok-address_of.ensures.found;
  address = subst (λ (w : List ℕ). IsIpv4Word w c.in_ok-ipv4_of.field-0)
      (sym (argument_is string_bytes c.args.words.now 1 c.address-item.result c.as_bytes-2.result.now (omega (arith, c.in-len7.len_at_least))
      c.address-item.is c.as_bytes-2.ensures.value)) c.in_ok-ipv4_of.ensures.found;
  first = subst (λ (w : List ℕ). IsIpv4Word w c.in_ok-ipv4_of-2.field-0)
      (sym (argument_is string_bytes c.args.words.now 2 c.first-item.result c.as_bytes-3.result.now (omega (arith, c.in-len7.len_at_least))
      c.first-item.is c.as_bytes-3.ensures.value)) c.in_ok-ipv4_of-2.ensures.found;
  count = subst (λ (w : List ℕ). IsRangeWord w c.in_ok-range_of.field-0)
      (sym (argument_is string_bytes c.args.words.now 3 c.count-item.result c.as_bytes-4.result.now (omega (arith, c.in-len7.len_at_least))
      c.count-item.is c.as_bytes-4.ensures.value)) c.in_ok-range_of.ensures.found;
  prefix = subst (λ (w : List ℕ). IsPrefixWord w c.in_ok-prefix_of.field-0)
      (sym (argument_is string_bytes c.args.words.now 4 c.prefix-item.result c.as_bytes-5.result.now (omega (arith, c.in-len7.len_at_least))
      c.prefix-item.is c.as_bytes-5.ensures.value)) c.in_ok-prefix_of.ensures.found;
  lease = subst (λ (w : List ℕ). IsU32Word w c.in_ok-u32_of.field-0)
      (sym (argument_is string_bytes c.args.words.now 5 c.lease-item.result c.as_bytes-6.result.now (omega (arith, c.in-len7.len_at_least))
      c.lease-item.is c.as_bytes-6.ensures.value)) c.in_ok-u32_of.ensures.found;
  max = subst (λ (w : List ℕ). IsCountWord w c.in_ok-count_of.field-0)
      (sym (argument_is string_bytes c.args.words.now 6 c.max_events-item.result c.as_bytes-7.result.now (omega (arith, c.in-len7.len_at_least))
      c.max_events-item.is c.as_bytes-7.ensures.value)) c.in_ok-count_of.ensures.found;
}
