-- What the types of `ah` stand for.
use Rattle.ipsec_wire.specs.Ah.{Header}
use Rattle.ipsec_wire.specs.declared.ah.Repr.{Repr}

-- the header without where its check value lies
abbrev pub header_value : Repr → Header
header_value repr = record {
  next_header = repr.next_header;
  security_parameters_index = repr.security_parameters_index;
  sequence_number = repr.sequence_number;
  integrity_check_value = repr.integrity_check_value.now;
}
