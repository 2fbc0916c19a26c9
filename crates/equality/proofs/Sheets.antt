-- The theorems of accepted sheets.
use Prim.Native.Nat.{ℕ, suc, ◌+◌, ◌≤◌}
use mathlib.Core.Bool.{true, false}
use mathlib.Core.List.{List}
use mathlib.Core.Logic.{◌↔◌}
use mathlib.Core.Path.{◌≡◌}
use native.Mathlib.Omega.{arith}
use Rattle.sheet.specs.Format.{most_records}
use Rattle.sheet.specs.Checks.{Accepted}
use Rattle.sheet.specs.Conditions.{conditions}
use Rattle.sheet.proofs.Accepted.{sound}
use Rattle.sheet.proofs.Conditions.{terms-length}
use Rattle.equality.specs.Meaning.{Meets, CanBeMet}
use Rattle.equality.specs.Search.{is_met, search_tree, depth, node_count, branching}
use Rattle.equality.proofs.Small.{conditions-small}
use Rattle.equality.proofs.Right.{search_decides, search_cannot}
use Rattle.equality.proofs.Bounds.{all_same_terms_lem}
use Rattle.equality.proofs.Visits.{search_depth}
use Rattle.equality.proofs.Branching.{search_branching}

module _ (s : List ℕ) (ok : Accepted s) where
  -- Met exactly when some assignment into the naturals meets the sheet that gives lot 0 the number 0.
  pub sheet-met : is_met (search_tree (conditions s)) ≡ true ↔ CanBeMet s
  sheet-met = search_decides (conditions s) (conditions-small s ok)

  -- Where nothing is met, no assignment meets it, with values of any type whose equality is decidable, whichever lot 0 has.
  pub sheet_cannot : is_met (search_tree (conditions s)) ≡ false → {A : Type 0} → ((x y : A) → Dec (x ≡ y)) → (f : ℕ → A) → ¬ Meets f s
  sheet_cannot m decide f = search_cannot (conditions s) (conditions-small s ok) m decide f

  -- No path has more splits than a sheet has term records.
  pub sheet-depth : depth (search_tree (conditions s)) ≤ most_records
  sheet-depth =
      omega (arith, search_depth (conditions s), all_same_terms_lem (conditions s), terms-length s ok, (sound s ok).header.records)

  -- The nodes are at most 2 × P − 1.
  pub sheet-branching : suc (node_count (search_tree (conditions s))) ≤ branching (conditions s) + branching (conditions s)
  sheet-branching = search_branching (conditions s)
