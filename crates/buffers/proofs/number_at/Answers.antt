use Rattle.std.proofs.Common.{rules}
use Rattle.buffers.specs.Bytes.{number}
use Rattle.buffers.proofs.number_at.Goals as goal

pub returns : goal.returns
unfolding number
returns c = search rules
