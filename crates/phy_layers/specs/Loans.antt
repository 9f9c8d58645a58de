-- What a layer holds once a loan of its device is over.
use Rattle.phy_layers.specs.declared.fault_injector.FaultInjector.{FaultInjector}
use Rattle.phy_layers.specs.declared.pcap_writer.PcapWriter.{PcapWriter}
use Rattle.phy_layers.specs.declared.tracer.Tracer.{Tracer}

abbrev pub injector_with : {D : Type 0} → FaultInjector D → D → FaultInjector D
injector_with injector inner = record injector { inner = inner }

abbrev pub tracer_with : {D F : Type 0} → Tracer D F → D → Tracer D F
tracer_with tracer inner = record tracer { inner = inner }

abbrev pub writer_with : {D S : Type 0} → PcapWriter D S → D → PcapWriter D S
writer_with writer lower = record writer { lower = lower }
