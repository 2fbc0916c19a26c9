use Rattle.std.proofs.Common.{◌≡◌, ◌/◌, ◌%◌, arith}
use native.Mathlib.Numerals.{add-one}
use Rattle.buffers.specs.Bytes.{two_bytes}
use Rattle.buffers.proofs.put_number.Goals as goal

pub returns : goal.returns
unfolding two_bytes
returns c =
    let high : c.args.x / 256 % 256 ≡ c.args.x / 256 = omega arith in
    rw (high, add-one c.args.at)
