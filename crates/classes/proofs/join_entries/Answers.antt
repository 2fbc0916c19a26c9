-- `classes::join_entries`: the entries up to the loop's place are those of the joined classes, and from there on as they were.
use Prim.Native.Nat.{ℕ, ◌≤◌}
use mathlib.Core.List.{List, ◌++◌, map, append-nil}
use mathlib.Core.Path.{◌≡◌, ap, ◌∙◌}
use native.Mathlib.Omega.{arith}
use lib.ListN.{length, take, drop, drop_of_length-le}
use lib.Seq.{take_all}
use Rattle.std.proofs.lemmas.List.{get_or_default}
use Rattle.std.proofs.lemmas.List.Edits.{map_over_more}
use Rattle.equality.specs.Node.{merged, class_of}
use Rattle.equality.proofs.Classes.{joined_to, merged_zero}
use Rattle.classes.proofs.join_entries.Goals as goal

-- Behind the last entry all are those of the joined classes.
all_joined : (lots lots' : List ℕ) (x y i : ℕ) → length lots ≤ i → lots' ≡ map (joined_to x y) (take i lots) ++ drop i lots → lots' ≡ merged x y lots
unfolding merged
all_joined lots lots' x y i end e = rw (take_all i lots end, drop_of_length-le lots end) at e ∙ append-nil _

pub loop-lot-preserved : goal.loop-lot-preserved
loop-lot-preserved c =
    rw c.joined.ensures
    (map_over_more (joined_to c.args.x c.args.y) _ _ _ _ (omega arith) c.loop-lot.invariant (get_or_default c.loop-lot.lots c.loop-lot.lot-index 0 _ (omega arith)))

pub returns : goal.returns
returns c =
    let joined = all_joined c.args.lots.now c.loop-lot.lots c.args.x c.args.y c.loop-lot.lot-index (omega arith) c.loop-lot.invariant in
    record { joined = joined; zero = λ zero. ap (λ (l : List ℕ). class_of l 0) joined ∙ merged_zero c.args.x c.args.y c.args.lots.now zero }
