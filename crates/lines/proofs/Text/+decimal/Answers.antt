use Prim.Native.Nat.{ℕ, ◌≤◌, ◌+◌, ◌/◌, ◌%◌}
use mathlib.Core.List.{[], ◌∷◌, ◌++◌}
use native.Mathlib.Omega.{arith}
use Rattle.lines.specs.Lines.{decimal}
use Rattle.lines.specs.Appending.{HasRoom}
use Rattle.lines.specs.declared.Text.{Text}
use Rattle.lines.proofs.Digits.{decimal-one, decimal_more}
use Rattle.lines.proofs.Appending.{Left, start, room, room-left, then, last}
use Rattle.lines.proofs.Text.+decimal.Goals as goal

-- The digits of a tenth of it are left to append, and its last digit behind them.
begun : (text : Text) (x : ℕ) → 10 ≤ x → HasRoom text (decimal x) → Left text (decimal x) text (decimal (x / 10) ++ (48 + x % 10) ∷ [])
begun text x h r = rw (decimal_more x h) (start (rw (decimal_more x h) at r))

pub word-requires : goal.word-requires
word-requires t c = rw (decimal-one c.args.x c.if-x-lt10.true) at c.requires

pub returns-then-x-lt10 : goal.returns-then-x-lt10
returns-then-x-lt10 t c = rw (decimal-one c.args.x c.if-x-lt10.true) c.word.ensures

pub decimal-requires : goal.decimal-requires
decimal-requires t c =
    let x = c.args.x in
    (omega (arith, c.decreases, c.if-x-lt10.false), room (decimal (x / 10)) ((48 + x % 10) ∷ []) (begun c.args.self.now x c.if-x-lt10.false c.requires))

pub word-requires-else-x-lt10 : goal.word-requires-else-x-lt10
word-requires-else-x-lt10 t c =
    let x = c.args.x in
    room-left (then ((48 + x % 10) ∷ []) c.decimal.ensures (begun c.args.self.now x c.if-x-lt10.false c.requires))

pub returns-else-x-lt10 : goal.returns-else-x-lt10
returns-else-x-lt10 t c =
    let x = c.args.x in
    last c.word-else-x-lt10.ensures
    (then ((48 + x % 10) ∷ []) c.decimal.ensures (begun c.args.self.now x c.if-x-lt10.false c.requires))
