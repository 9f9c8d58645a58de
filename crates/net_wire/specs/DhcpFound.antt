-- The options that a message is read from.
use Rattle.std.specs.Prelude.{◌≡◌, List}
use Rattle.std.specs.Option.{option_copied}
use Rattle.net_wire.specs.declared.dhcp.read.Found.{Found}
use Rattle.net_wire.specs.declared.dhcp.read.Item as declared
use Rattle.net_wire.specs.DhcpOptions.{Item, item_with, last_of, newest_of}

-- an option without where it lies
abbrev pub item_of : declared.Item → Item
item_of item = item_with item.kind item.bytes.now

-- with one option more, each is that where it is of its kind
pub record IsWith (item : Item) (old new : Found) : Type 0 where
  pub message_type : option_copied new.message_type ≡ newest_of 53 item (option_copied old.message_type)
  pub client_identifier : option_copied new.client_identifier
      ≡ newest_of 61 item (option_copied old.client_identifier)
  pub server_identifier : option_copied new.server_identifier
      ≡ newest_of 54 item (option_copied old.server_identifier)
  pub router : option_copied new.router ≡ newest_of 3 item (option_copied old.router)
  pub subnet_mask : option_copied new.subnet_mask ≡ newest_of 1 item (option_copied old.subnet_mask)
  pub requested_ip : option_copied new.requested_ip ≡ newest_of 50 item (option_copied old.requested_ip)
  pub max_size : option_copied new.max_size ≡ newest_of 57 item (option_copied old.max_size)
  pub lease_duration : option_copied new.lease_duration ≡ newest_of 51 item (option_copied old.lease_duration)
  pub renew_duration : option_copied new.renew_duration ≡ newest_of 58 item (option_copied old.renew_duration)
  pub rebind_duration : option_copied new.rebind_duration
      ≡ newest_of 59 item (option_copied old.rebind_duration)
  pub parameter_request_list : option_copied new.parameter_request_list
      ≡ newest_of 55 item (option_copied old.parameter_request_list)
  pub dns_servers : option_copied new.dns_servers ≡ newest_of 6 item (option_copied old.dns_servers)

-- each is the last of its kind
pub record AreLast (items : List Item) (found : Found) : Type 0 where
  pub message_type : option_copied found.message_type ≡ last_of 53 items
  pub client_identifier : option_copied found.client_identifier ≡ last_of 61 items
  pub server_identifier : option_copied found.server_identifier ≡ last_of 54 items
  pub router : option_copied found.router ≡ last_of 3 items
  pub subnet_mask : option_copied found.subnet_mask ≡ last_of 1 items
  pub requested_ip : option_copied found.requested_ip ≡ last_of 50 items
  pub max_size : option_copied found.max_size ≡ last_of 57 items
  pub lease_duration : option_copied found.lease_duration ≡ last_of 51 items
  pub renew_duration : option_copied found.renew_duration ≡ last_of 58 items
  pub rebind_duration : option_copied found.rebind_duration ≡ last_of 59 items
  pub parameter_request_list : option_copied found.parameter_request_list ≡ last_of 55 items
  pub dns_servers : option_copied found.dns_servers ≡ last_of 6 items
