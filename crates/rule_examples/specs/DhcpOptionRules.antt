-- Which options of a DHCP message count (RFC 2132).
use Rattle.std.specs.Prelude.{◌≡◌, ℕ, Bool, true, false, List, [], ◌∷◌, ◌++◌, map, replicate, Option, Some, None, option_and_then, option_map}
use Rattle.net_wire.specs.DhcpOptions.{is_right, item_with, items_of, last_of}
use Rattle.net_wire.specs.DhcpRead.{message_at}
use Rattle.net_wire.specs.declared.address.Ipv4Address.{Ipv4Address}

-- an offer with options behind its type
abbrev pub offer : List ℕ → List ℕ
offer options =
    2 ∷ 1 ∷ 6 ∷ replicate 233 0 ++ 99 ∷ 130 ∷ 83 ∷ 99 ∷ 53 ∷ 1 ∷ 2 ∷ options

-- the name servers of an offer
abbrev pub servers_of : List ℕ → Option (List Ipv4Address)
servers_of options = option_and_then (λ message. message.dns_servers) (message_at (offer options))

abbrev pub server : ℕ → Ipv4Address
server last = record { 0 = 192 ∷ 0 ∷ 2 ∷ last ∷ [] }

-- The first three addresses of single hosts count of five, of which the second is a group's (RFC 2132, section 3.8).
-- A list whose length is no multiple of four is passed over, as are a padding byte, and what stands behind the end.
pub record ServersByExample : Type 0 where
  pub five : servers_of
      (6 ∷ 20 ∷ 192 ∷ 0 ∷ 2 ∷ 1 ∷ 224 ∷ 0 ∷ 0 ∷ 251 ∷ 192 ∷ 0 ∷ 2 ∷ 3 ∷ 192 ∷ 0 ∷ 2 ∷ 4 ∷ 192 ∷ 0 ∷ 2 ∷ 5 ∷ 255 ∷ [])
      ≡ Some (server 1 ∷ server 3 ∷ server 4 ∷ [])
  pub no_multiple : servers_of (6 ∷ 5 ∷ 192 ∷ 0 ∷ 2 ∷ 1 ∷ 192 ∷ 255 ∷ []) ≡ None
  pub padded : servers_of (0 ∷ 0 ∷ 6 ∷ 4 ∷ 192 ∷ 0 ∷ 2 ∷ 1 ∷ []) ≡ Some (server 1 ∷ [])
  pub behind_end : servers_of (255 ∷ 6 ∷ 4 ∷ 192 ∷ 0 ∷ 2 ∷ 1 ∷ []) ≡ None
  pub cut_short : servers_of (6 ∷ 4 ∷ 192 ∷ 0 ∷ 2 ∷ []) ≡ None

-- an option: kind, length, bytes; of a kind the last one counts
pub record OptionsByExample : Type 0 where
  pub items : items_of (0 ∷ 12 ∷ 2 ∷ 7 ∷ 8 ∷ 13 ∷ 0 ∷ 0 ∷ 14 ∷ 1 ∷ 9 ∷ 255 ∷ 15 ∷ 1 ∷ 10 ∷ [])
      ≡ item_with 12 (7 ∷ 8 ∷ []) ∷ item_with 13 [] ∷ item_with 14 (9 ∷ []) ∷ []
  pub cut_short : items_of (12 ∷ 1 ∷ 7 ∷ 13 ∷ 2 ∷ 8 ∷ []) ≡ item_with 12 (7 ∷ []) ∷ []
  pub last : last_of 53 (item_with 53 (1 ∷ []) ∷ item_with 53 (2 ∷ []) ∷ item_with 53 (3 ∷ 3 ∷ []) ∷ [])
      ≡ Some (2 ∷ [])

-- a discover with the first byte of its flags, and its last one
abbrev pub flagged : ℕ → ℕ → List ℕ
flagged first last =
    1 ∷ 1 ∷ 6 ∷ replicate 7 0 ++ first ∷ last ∷ replicate 224 0 ++ 99 ∷ 130 ∷ 83 ∷ 99 ∷ 53 ∷ 1 ∷ 1 ∷ []

abbrev pub broadcast_of : ℕ → ℕ → Option Bool
broadcast_of first last = option_map (λ message. message.broadcast) (message_at (flagged first last))

-- only the highest bit of the flags counts (RFC 2131, figure 2)
pub record FlagsByExample : Type 0 where
  pub first : map (λ byte. broadcast_of byte 0) (0x80 ∷ 0x40 ∷ 0x01 ∷ 0 ∷ [])
      ≡ Some true ∷ Some false ∷ Some false ∷ Some false ∷ []
  pub last : broadcast_of 0 0x80 ≡ Some false
  -- hardware type 1, six bytes of an address, and the magic cookie
  pub other_hardware : message_at (1 ∷ 2 ∷ 6 ∷ replicate 233 0 ++ 99 ∷ 130 ∷ 83 ∷ 99 ∷ 53 ∷ 1 ∷ 1 ∷ []) ≡ None
  pub other_length : message_at (1 ∷ 1 ∷ 8 ∷ replicate 233 0 ++ 99 ∷ 130 ∷ 83 ∷ 99 ∷ 53 ∷ 1 ∷ 1 ∷ []) ≡ None
  pub other_cookie : message_at (1 ∷ 1 ∷ 6 ∷ replicate 233 0 ++ 99 ∷ 130 ∷ 83 ∷ 98 ∷ 53 ∷ 1 ∷ 1 ∷ []) ≡ None
  pub other_op : message_at (2 ∷ 1 ∷ 6 ∷ replicate 233 0 ++ 99 ∷ 130 ∷ 83 ∷ 99 ∷ 53 ∷ 1 ∷ 1 ∷ []) ≡ None

-- whether bytes of so many lengths are right for a kind
abbrev pub rights : ℕ → List ℕ → List Bool
rights kind lengths = map (λ len. is_right kind (replicate len 1)) lengths

-- type (RFC 2132, section 9.6) 1; mask (3.3), requested address (9.1), lease (9.2), server identifier (9.7), renewal
-- and rebinding times (9.11, 9.12) 4; greatest size (9.10) 2; client identifier of Ethernet (9.14) 7; routers and
-- name servers (3.5, 3.8) a multiple of 4 above 0; request list (9.8) any above 0
pub record LengthsByExample : Type 0 where
  pub one : rights 53 (0 ∷ 1 ∷ 2 ∷ []) ≡ false ∷ true ∷ false ∷ []
  pub four : map (λ kind. rights kind (3 ∷ 4 ∷ 5 ∷ 8 ∷ [])) (1 ∷ 50 ∷ 51 ∷ 54 ∷ 58 ∷ 59 ∷ [])
      ≡ replicate 6 (false ∷ true ∷ false ∷ false ∷ [])
  pub two : rights 57 (1 ∷ 2 ∷ 3 ∷ []) ≡ false ∷ true ∷ false ∷ []
  pub seven : rights 61 (6 ∷ 7 ∷ 8 ∷ []) ≡ false ∷ true ∷ false ∷ []
  pub other_hardware : is_right 61 (replicate 7 2) ≡ false
  pub lists : map (λ kind. rights kind (0 ∷ 3 ∷ 4 ∷ 5 ∷ 8 ∷ [])) (3 ∷ 6 ∷ [])
      ≡ replicate 2 (false ∷ false ∷ true ∷ false ∷ true ∷ [])
  pub request_list : rights 55 (0 ∷ 1 ∷ 2 ∷ []) ≡ false ∷ true ∷ true ∷ []
  pub other : rights 12 (1 ∷ 4 ∷ []) ≡ false ∷ false ∷ []
