use Rattle.ether_lax.proofs.CutResultLemmas.{packet_cut}
use Rattle.ether_lax.proofs.laws.cut_frames_keep_their_front.Goals as goal

pub returns : goal.returns
returns c = λ kept packet holds_kept holds. packet_cut c.args.frame.now c.args.n kept packet holds_kept holds
