-- `text::print` meets its contract: it takes as much of the input as the program reads, and its own buffers are of the program's sizes.
use Prim.Native.Nat.{min}
use mathlib.Core.Path.{◌≡◌, ap, ◌∙◌}
use native.Mathlib.Omega.{arith}
use lib.ListN.{length}
use Rattle.std.proofs.lemmas.List.{take_min}
use Rattle.text.specs.Program.{most_input, printed}
use Rattle.text.proofs.Says.{printed-taken}
use Rattle.text.proofs.print.Goals as goal

pub returns : goal.returns
returns c =
    let input = c.args.input.now in
    let n : c.min-n.result ≡ min most_input (length input) = omega (arith, c.min-n.ensures) in
    rw (n, ap printed (take_min most_input input) ∙ printed-taken input) at c.print_search.ensures
