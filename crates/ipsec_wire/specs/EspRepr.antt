-- What the types of `esp` stand for.
use Rattle.ipsec_wire.specs.Esp.{Header}
use Rattle.ipsec_wire.specs.declared.esp.Repr.{Repr}

abbrev pub header_value : Repr → Header
header_value repr = record {
  security_parameters_index = repr.security_parameters_index;
  sequence_number = repr.sequence_number;
}
