-- "a ground naming it is refused by 12" (document 02): a ground that names a withdrawn condition, under whatever splits.
use Prim.Native.Nat.{ℕ, suc, ◌-◌, ◌≤◌}
use mathlib.Core.Bool.{true}
use mathlib.Core.List.{List, [], ◌∷◌}
use mathlib.Core.Path.{◌≡◌, ap, ◌∙◌}
use native.Mathlib.Omega.{arith}
use borrow.Author.Tests.{le-leb}
use Rattle.sheet.specs.Verdicts.{Refuses}
use Rattle.sheet.specs.Format.{lowest_lot, condition_count, head_at}
use Rattle.sheet.specs.Conditions.{condition_at}
use Rattle.sheet.proofs.Conditions.{conditions_at, withdrawn-empty}
use Rattle.equality.specs.Node.{Decisions}
use Rattle.equality.proofs.Some.{some_no_term}
use Rattle.limit.specs.Meaning.{Limit}
use Rattle.store.specs.Records.{NodeRecord, ground_record}
use Rattle.refutation.specs.Refutation.{Split, ground_fails, named, walk_from}

-- By the rule of a ground, of a condition with no term;
pub no_term_ground : (ds : Decisions) → ground_fails ds [] ≡ true
unfolding ground_fails
no_term_ground ds = some_no_term _

-- and by the walk, of a condition whose head is zero.
pub withdrawn-refused : (limit : Limit) (s : List ℕ) (c : ℕ) → 1 ≤ c → c ≤ condition_count s → head_at s c ≡ 0
    → (rest : List NodeRecord) (at : ℕ) (above : List Split) → walk_from limit lowest_lot s (ground_record c ∷ rest) at above ≡ Refuses 12 at
unfolding walk_from
withdrawn-refused limit s c low high zero rest at above =
    let number : suc (c - 1) ≡ c = omega arith in
    let none : named s c ≡ [] = conditions_at s (c - 1) (omega arith) ∙ ap (condition_at s) number ∙ withdrawn-empty s c zero in
    rw (le-leb 1 c low, le-leb c (condition_count s) high, none, no_term_ground)
