use Rattle.std.proofs.Common.{map, take, string_bytes}
use Rattle.host_top.specs.Setting.{Sets}
use Rattle.host_top.proofs.setting.settings_of.Given as goal

abbrev pub invariant-loop-word : goal.invariant-loop-word
invariant-loop-word l = Sets (map string_bytes (take l.word-index l.words)) l.said
