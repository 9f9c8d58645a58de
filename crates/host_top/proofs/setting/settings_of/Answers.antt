use Rattle.std.proofs.Common.{arith}
use Rattle.std.specs.String.{string_bytes}
use Rattle.host_top.proofs.SettingWordLemmas.{unspelled_at, key_twice_at, sets_more_at}
use Rattle.host_top.proofs.setting.settings_of.Goals as goal

pub returns-in_err-setting-clause-refuses : goal.returns-in_err-setting-clause-refuses
returns-in_err-setting-clause-refuses c = rw c.from_residual.ensures
    (λ said. unspelled_at string_bytes c.args.words.now c.loop-word.word-index c.word-item.result _ said (omega arith) c.word-item.is
    c.as_bytes.ensures.value c.in_err-setting.ensures.refuses)

pub returns-in_err-said-clause-refuses : goal.returns-in_err-said-clause-refuses
returns-in_err-said-clause-refuses c = rw c.from_residual-in_err-said.ensures
    (λ said. key_twice_at string_bytes c.args.words.now c.loop-word.word-index c.word-item.result _ c.in_ok-setting.setting c.loop-word.said said
    (omega arith) c.word-item.is c.as_bytes.ensures.value c.loop-word.invariant c.in_ok-setting.ensures.found c.in_err-said.ensures.refuses)

pub loop-word-preserved : goal.loop-word-preserved
loop-word-preserved c =
    sets_more_at string_bytes c.args.words.now c.loop-word.word-index c.word-item.result _ c.in_ok-setting.setting c.loop-word.said c.in_ok-said.said
    (omega arith) c.word-item.is c.as_bytes.ensures.value c.loop-word.invariant c.in_ok-setting.ensures.found c.in_ok-said.ensures.found
