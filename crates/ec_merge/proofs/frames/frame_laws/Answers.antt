use Rattle.ec_merge.proofs.FrameLemmas.{joined_frame_symmetric, joined_frame_unit}
use Rattle.ec_merge.proofs.frames.frame_laws.Goals as goal

pub returns : goal.returns
returns c = record { symmetric = joined_frame_symmetric; unit = joined_frame_unit }
