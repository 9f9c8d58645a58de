use Rattle.phy_layers.specs.PcapBytes.{record_header}
use Rattle.phy_layers.proofs.pcap.write_record_header.Goals as goal

pub returns : goal.returns
unfolding record_header
returns g c =
    rw (
      c.to_le_bytes.ensures,
      c.to_le_bytes-2.ensures,
      c.to_le_bytes-3.ensures,
      c.to_le_bytes-4.ensures,
      c.micros_of-micros.ensures.value,
      c.min-captured.ensures,
    ) at c.write_pieces.ensures
