-- What is left of a client once an event that borrows from it has ended.
use Rattle.std.specs.Prelude.{◌≡◌, false, []}
use Rattle.std.specs.Borrow.{MutBor, Fml}
use Rattle.std.specs.Io.BufRead.{Rests}
use mir.Syntax.{named}
use Rattle.dhcp_client.specs.Client.{Client}
use Rattle.dhcp_client.specs.contracts.socket.Socket.{the_row}

-- It has told its configuration, and is else as it was. `named 0` is the place of the client's lifetime in
-- the signature.
abbrev pub RestsTold : MutBor Client → Fml
RestsTold client =
    Rests (the_row (record { mir = named 0; lft = [] })) client
    (λ last. last ≡ record client.now { changed = false })
