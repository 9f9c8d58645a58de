use Rattle.phy_layers.specs.PcapBytes.{global_header}
use Rattle.phy_layers.proofs.pcap.write_global_header.Goals as goal

pub returns : goal.returns
unfolding global_header
returns g c =
    rw (
      c.to_le_bytes.ensures,
      c.to_le_bytes-2.ensures,
      c.to_le_bytes-3.ensures,
      c.to_le_bytes-4.ensures,
      c.to_le_bytes-5.ensures,
      c.to_le_bytes-6.ensures,
      c.to_le_bytes-7.ensures,
      c.from-number.ensures,
    ) at c.write_pieces.ensures
