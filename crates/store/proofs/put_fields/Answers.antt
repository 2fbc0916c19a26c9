-- `store::put_fields`: the fields, and the next behind them, are one run of stores.
use native.Mathlib.Omega.{arith}
use Rattle.store.proofs.Writes.{fields-stored}
use Rattle.store.proofs.put_fields.Goals as goal

pub returns : goal.returns
returns c =
    grind (arith, fields-stored)
