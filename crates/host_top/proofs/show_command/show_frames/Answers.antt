use Rattle.std.proofs.Common.{[], rules}
use Rattle.host_top.proofs.show_command.show_frames.Goals as goal

pub returns : goal.returns
returns g c =
    let found = c.frames_named-ending.ensures in
    record { shown = (found.0, found.1, c.put_remark.ensures.goes_on _ _ (found.2.goes_on _ [] (search rules))) }
