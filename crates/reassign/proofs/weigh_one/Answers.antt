-- `reassign::weigh_one`: by whether the condition names the lot, and what it counts for before and after.
use mathlib.Core.Path.{sym, ◌∙◌}
use Rattle.reassign.proofs.weigh_one.Goals as goal

pub returns : goal.returns
returns c =
    rw (c.unmet_one-was.ensures, c.unmet_one-is.ensures, sym c.names_lot.ensures ∙ c.if-not-names_lot.false)
