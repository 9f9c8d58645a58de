-- What the link of a packet carries behind its last link extension.
use Rattle.std.specs.Prelude.{ℕ, false, List, [], ◌∷◌, drop, Option, Some, None, option_and_then}
use Rattle.wire_base.specs.Bytes.{be16_at}
use Rattle.ether_link.specs.LinuxSll.{protocol_type_of}
use Rattle.ether_link.specs.declared.len_source.LenSource.{LenSource}
use Rattle.ether_link.specs.declared.len_source.LenSource.TheVariants.{Slice}
use Rattle.ether_link.specs.declared.link.LinkSlice.{LinkSlice}
use Rattle.ether_link.specs.declared.link.LinkSlice.TheVariants as link
use Rattle.ether_link.specs.declared.link.linux_sll.LinuxSllProtocolType.{LinuxSllProtocolType}
use Rattle.ether_link.specs.declared.link.linux_sll.LinuxSllProtocolType.TheVariants as protocol
use Rattle.ether_link.specs.declared.numbers.EtherType.{EtherType}
use Rattle.ether_lax.specs.LinkExts.{EtherPart, LinkExtPart, TagPart, SecuredPart, ModifiedPart, source_behind}

-- a payload that an ether type names, whose length is from no field
abbrev pub plain_payload : EtherType → List ℕ → EtherPart
plain_payload ether_type bytes =
    record { incomplete = false; ether_type = ether_type; source = Slice; bytes = bytes }

-- the payload of a cooked packet, if an ether type names it
abbrev pub cooked_payload : List ℕ → LinuxSllProtocolType → Option EtherPart
cooked_payload bytes (protocol.EtherType ether_type) = Some (plain_payload ether_type bytes)
cooked_payload bytes other = None

-- the payload of a link
abbrev pub payload_of_link : Option LinkSlice → Option EtherPart
payload_of_link None = None
payload_of_link (Some (link.Ethernet2 frame)) =
    Some (plain_payload (record { 0 = be16_at frame 12 }) (drop 14 frame))
payload_of_link (Some (link.LinuxSll packet)) =
    option_and_then (cooked_payload (drop 16 packet))
    (protocol_type_of (be16_at packet 2) (be16_at packet 14))
payload_of_link (Some (link.EtherPayload payload)) =
    Some (plain_payload payload.ether_type payload.payload.now)
payload_of_link (Some (link.LinuxSllPayload payload)) =
    cooked_payload payload.payload.now payload.protocol_type

-- the payload of a link extension, in a window whose length is from a source
abbrev pub payload_in_window : LenSource → LinkExtPart → Option EtherPart
payload_in_window source (TagPart bytes) = Some (record {
  incomplete = false;
  ether_type = record { 0 = be16_at bytes 2 };
  source = source;
  bytes = drop 4 bytes;
})
payload_in_window source (SecuredPart header payload) = Some payload
payload_in_window source (ModifiedPart header incomplete bytes) = None

-- the payload of the last of some link extensions, or else the one before them
abbrev pub payload_behind : Option EtherPart → LenSource → List LinkExtPart → Option EtherPart
payload_behind payload source [] = payload
payload_behind payload source (ext ∷ more) =
    payload_behind (payload_in_window source ext) (source_behind source ext) more
