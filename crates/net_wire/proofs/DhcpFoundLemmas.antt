-- The options that a message is read from, as they are found one by one.
use Rattle.std.proofs.Common.{◌≡◌, ℕ, List, [], ◌∷◌, Option, ap, sym, ◌∙◌}
use Rattle.std.specs.Option.{option_copied}
use Rattle.net_wire.specs.declared.dhcp.read.Found.{Found}
use Rattle.net_wire.specs.DhcpOptions.{Item, last_from, last_of, newest_of}
use Rattle.net_wire.specs.DhcpFound.{IsWith, AreLast}

-- going on with what is left gives the last of each kind
pub record AreLastFrom (left items : List Item) (found : Found) : Type 0 where
  pub message_type : last_from 53 (option_copied found.message_type) left ≡ last_of 53 items
  pub client_identifier : last_from 61 (option_copied found.client_identifier) left ≡ last_of 61 items
  pub server_identifier : last_from 54 (option_copied found.server_identifier) left ≡ last_of 54 items
  pub router : last_from 3 (option_copied found.router) left ≡ last_of 3 items
  pub subnet_mask : last_from 1 (option_copied found.subnet_mask) left ≡ last_of 1 items
  pub requested_ip : last_from 50 (option_copied found.requested_ip) left ≡ last_of 50 items
  pub max_size : last_from 57 (option_copied found.max_size) left ≡ last_of 57 items
  pub lease_duration : last_from 51 (option_copied found.lease_duration) left ≡ last_of 51 items
  pub renew_duration : last_from 58 (option_copied found.renew_duration) left ≡ last_of 58 items
  pub rebind_duration : last_from 59 (option_copied found.rebind_duration) left ≡ last_of 59 items
  pub parameter_request_list : last_from 55 (option_copied found.parameter_request_list) left ≡ last_of 55 items
  pub dns_servers : last_from 6 (option_copied found.dns_servers) left ≡ last_of 6 items

one_more : (kind : ℕ) (before now : Option (List ℕ)) (item : Item) (left more items : List Item) → left ≡ item ∷ more
    → now ≡ newest_of kind item before → last_from kind before left ≡ last_of kind items → last_from kind now more ≡ last_of kind items
one_more kind before now item left more items is_left is_now so_far =
    ap (λ found. last_from kind found more) is_now ∙ sym (ap (last_from kind before) is_left) ∙ so_far

pub next_found : (left more items : List Item) (item : Item) (old new : Found) → left ≡ item ∷ more → IsWith item old new
    → AreLastFrom left items old → AreLastFrom more items new
next_found left more items item old new is_left with_it so_far = record {
  message_type = one_more 53 _ _ item left more items is_left with_it.message_type so_far.message_type;
  client_identifier = one_more 61 _ _ item left more items is_left with_it.client_identifier so_far.client_identifier;
  server_identifier = one_more 54 _ _ item left more items is_left with_it.server_identifier so_far.server_identifier;
  router = one_more 3 _ _ item left more items is_left with_it.router so_far.router;
  subnet_mask = one_more 1 _ _ item left more items is_left with_it.subnet_mask so_far.subnet_mask;
  requested_ip = one_more 50 _ _ item left more items is_left with_it.requested_ip so_far.requested_ip;
  max_size = one_more 57 _ _ item left more items is_left with_it.max_size so_far.max_size;
  lease_duration = one_more 51 _ _ item left more items is_left with_it.lease_duration so_far.lease_duration;
  renew_duration = one_more 58 _ _ item left more items is_left with_it.renew_duration so_far.renew_duration;
  rebind_duration = one_more 59 _ _ item left more items is_left with_it.rebind_duration so_far.rebind_duration;
  parameter_request_list = one_more 55 _ _ item left more items is_left with_it.parameter_request_list so_far.parameter_request_list;
  dns_servers = one_more 6 _ _ item left more items is_left with_it.dns_servers so_far.dns_servers;
}

pub all_found : (left items : List Item) (found : Found) → left ≡ [] → AreLastFrom left items found → AreLast items found
all_found left items found is_left so_far = record {
  message_type = sym (ap (last_from 53 (option_copied found.message_type)) is_left) ∙ so_far.message_type;
  client_identifier = sym (ap (last_from 61 (option_copied found.client_identifier)) is_left) ∙ so_far.client_identifier;
  server_identifier = sym (ap (last_from 54 (option_copied found.server_identifier)) is_left) ∙ so_far.server_identifier;
  router = sym (ap (last_from 3 (option_copied found.router)) is_left) ∙ so_far.router;
  subnet_mask = sym (ap (last_from 1 (option_copied found.subnet_mask)) is_left) ∙ so_far.subnet_mask;
  requested_ip = sym (ap (last_from 50 (option_copied found.requested_ip)) is_left) ∙ so_far.requested_ip;
  max_size = sym (ap (last_from 57 (option_copied found.max_size)) is_left) ∙ so_far.max_size;
  lease_duration = sym (ap (last_from 51 (option_copied found.lease_duration)) is_left) ∙ so_far.lease_duration;
  renew_duration = sym (ap (last_from 58 (option_copied found.renew_duration)) is_left) ∙ so_far.renew_duration;
  rebind_duration = sym (ap (last_from 59 (option_copied found.rebind_duration)) is_left) ∙ so_far.rebind_duration;
  parameter_request_list = sym (ap (last_from 55 (option_copied found.parameter_request_list)) is_left) ∙ so_far.parameter_request_list;
  dns_servers = sym (ap (last_from 6 (option_copied found.dns_servers)) is_left) ∙ so_far.dns_servers;
}
