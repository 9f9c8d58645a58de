-- What a `SureSource` still gives.
use Rattle.std.specs.Prelude.{ℕ, List, drop}
use Rattle.script_source.specs.declared.sources.sure.SureSource.{SureSource}

abbrev pub bytes_left : SureSource → List ℕ
bytes_left source = drop source.at source.bytes.items
