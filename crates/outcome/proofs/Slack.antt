-- A limit above n, which 20 admits, changes nothing that comes of a search: the same nodes, answer and bytes as without a limit.
use Prim.Native.Nat.{ℕ, ◌≤◌, ◌<◌}
use mathlib.Core.List.{List, [], ◌∷◌}
use mathlib.Core.Path.{◌≡◌, sym, ap₂, ◌∙◌}
use native.Mathlib.Omega.{arith}
use Rattle.sheet.specs.Verdicts.{Verdict}
use Rattle.sheet.specs.Format.{lot_count}
use Rattle.sheet.specs.Checks.{Accepted}
use Rattle.sheet.specs.Conditions.{conditions}
use Rattle.sheet.proofs.Conditions.{conditions_in}
use Rattle.sheet.proofs.Further.{further_accepted}
use Rattle.equality.specs.Search.{Tree, search_tree}
use Rattle.equality.specs.Evaluator.{check8}
use Rattle.limit.specs.Meaning.{unlimited, up_to, most_limit, check20}
use Rattle.limit.proofs.Slack.{slack_tree}
use Rattle.store.specs.Records.{capacity}
use Rattle.refutation.proofs.Smaller.{admitted_first}
use Rattle.outcome.specs.Outcome.{result_of, outcome_of, search_outcome}
use Rattle.outcome.specs.Limited.{tree_of, verdict_under, outcome_under}
use Rattle.outcome.proofs.Checked.{admitted, unlimited-outcome}

module _ (g : ℕ) (s : List ℕ) (ok : Accepted s) (above : lot_count s < g) (within : g ≤ most_limit) where
  pub slack_nodes : tree_of (up_to g) s ≡ search_tree (conditions s)
  slack_nodes = slack_tree g (lot_count s) above (conditions s) (conditions_in s ok)

  slack_verdict : (grouping : List ℕ) → verdict_under (up_to g) s grouping ≡ verdict_under unlimited s grouping
  unfolding verdict_under
  slack_verdict grouping =
      further_accepted s (check20 g ∷ check8 s grouping ∷ []) ok
      ∙ admitted_first (up_to g) (admitted g (omega arith) within) (check8 s grouping ∷ [])
      ∙ sym (further_accepted s (check8 s grouping ∷ []) ok)

  pub slack_outcome : (grouping store : List ℕ) → outcome_under (up_to g) s grouping store ≡ search_outcome s grouping store
  unfolding outcome_under
  slack_outcome grouping store =
      ap₂ (λ (v : Verdict) (tree : Tree). outcome_of (lot_count s) (result_of v (capacity store) tree) grouping store) (slack_verdict grouping) slack_nodes
      ∙ unlimited-outcome s grouping store
