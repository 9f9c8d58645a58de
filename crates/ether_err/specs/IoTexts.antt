-- What a reader's fault prints.
use Rattle.std.specs.Prelude.{ℕ, List, codes}
use Rattle.ether_err.specs.declared.io_fault.IoFault.{IoFault}
use Rattle.ether_err.specs.declared.io_fault.IoKind.{IoKind}
use Rattle.ether_err.specs.declared.io_fault.IoKind.TheVariants.{NotFound, PermissionDenied, Interrupted, UnexpectedEof, Other}

abbrev pub kind_text : IoKind → List ℕ
kind_text NotFound = codes "not found"
kind_text PermissionDenied = codes "permission denied"
kind_text Interrupted = codes "interrupted"
kind_text UnexpectedEof = codes "unexpected end"
kind_text Other = codes "other"

abbrev pub io_text : IoFault → List ℕ
io_text fault = kind_text fault.kind
