use Rattle.host_model.proofs.ListedSizeLemmas.{frames_fit}
use Rattle.host_model.proofs.laws.listed_fits_frames.Goals as goal

pub returns : goal.returns
returns c = λ settings six writable before event words. frames_fit settings six writable before event words
