use Rattle.ds_plain_laws.proofs.Recorded.{recorded, ordered}
use Rattle.ds_plain_laws.proofs.standing_is_recorded.Goals as goal

pub returns : goal.returns
returns c = λ program lim stops traces h words threads sixteen_traces stopped stands. (
  recorded program lim stops traces h words threads stands sixteen_traces stopped,
  ordered program lim stops traces h words threads stands,
)
