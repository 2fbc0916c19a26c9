-- The visit of a split, by how its same branch ended.
use Prim.Native.Nat.{ℕ, ◌+◌, ◌-◌, ◌*◌, ◌≤◌}
use mathlib.Core.Bool.{false≢true}
use mathlib.Core.List.{List, ◌∷◌}
use mathlib.Core.Path.{◌≡◌, refl, sym, ◌∙◌}
use native.Mathlib.Omega.{arith}
use lib.Seq.{sets}
use Rattle.sheet.specs.Conditions.{same, apart}
use Rattle.equality.specs.Node.{Decisions, Node}
use Rattle.equality.specs.Search.{Tree, one_branch, two_branches, node_count}
use Rattle.equality.specs.Visits.{Visits}
use Rattle.equality.proofs.Visits.{SplitTree, one, two}
use Rattle.store.specs.Records.{split_record, record_length, set_next, encode, capacity}
use Rattle.visit.specs.declared.Visited.{Visited}
use Rattle.visit.specs.declared.Visited.TheVariants.{Met, Cannot, Full}
use Rattle.visit.specs.Visited.{Explored}
use Rattle.visit.proofs.Exploring.{written_here, same_met, same_full, Turned, same_cannot, apart_full, apart_explored}

-- The split's record is written (store₁), and then the same branch is visited, whose answer is r (store₂, grouping₂). v is what the rule visits.
module _ {rule : Decisions → Node} {ds : Decisions} {a b : ℕ} {tree : Tree} (v : SplitTree rule ds a b tree)
    (before : ℕ) (store store₁ store₂ grouping grouping₂ : List ℕ) (wrote : store₁ ≡ sets store (record_length * (before + 1 - 1)) (encode (split_record a b 0)))
    (r : Visited) (told : (t : Tree) → Visits rule (same a b ∷ ds) t → Explored (before + 1) store₁ store₂ grouping grouping₂ r t) where
  written : store₁ ≡ sets store (record_length * before) (encode (split_record a b 0))
  written = written_here before store store₁ (encode (split_record a b 0)) wrote

  -- It met something,
  split-met : (n : ℕ) → r ≡ Met n → Explored before store store₂ grouping grouping₂ (Met n) tree
  split-met n q = go v
    where
      met : (t : Tree) → Visits rule (same a b ∷ ds) t → Explored (before + 1) store₁ store₂ grouping grouping₂ (Met n) t
      met t w = rw q at (told t w)

      go : {u : Tree} → SplitTree rule ds a b u → Explored before store store₂ grouping grouping₂ (Met n) u
      go (one {t} w m) = (same_met before store store₁ store₂ grouping grouping₂ a b t written n (met t w)).1
      go (two {t} {u} w m x) =
          absurd (false≢true (sym m ∙ (same_met before store store₁ store₂ grouping grouping₂ a b t written n (met t w)).0))

  -- or it found the store full:
  split_full : r ≡ Full → Explored before store store₂ grouping grouping₂ Full tree
  unfolding node_count
  split_full q = go v
    where
      full : (t : Tree) → Visits rule (same a b ∷ ds) t → Explored (before + 1) store₁ store₂ grouping grouping₂ Full t
      full t w = rw q at (told t w)

      go : {u : Tree} → SplitTree rule ds a b u → Explored before store store₂ grouping grouping₂ Full u
      go (one {t} w m) = same_full before store store₁ store₂ grouping grouping₂ a b t written (full t w) (one_branch a b t) (omega arith)
      go (two {t} {u} w m x) = same_full before store store₁ store₂ grouping grouping₂ a b t written (full t w) (two_branches a b t u) (omega arith)

  -- so it did not end by having met nothing;
  pub split-ended : ((n : ℕ) → r ≡ Cannot n → ⊥) → Explored before store store₂ grouping grouping₂ r tree
  split-ended not-over = go r refl
    where
      go : (o : Visited) → r ≡ o → Explored before store store₂ grouping grouping₂ o tree
      go (Met n) q = split-met n q
      go (Cannot n) q = absurd (not-over n q)
      go Full q = split_full q

  module _ (n : ℕ) (q : r ≡ Cannot n) where
    turned : (t : Tree) → Visits rule (same a b ∷ ds) t → Turned before store store₁ store₂ grouping grouping₂ a b t written n
    turned t w = same_cannot before store store₁ store₂ grouping grouping₂ a b t written n (rw q at (told t w))

    -- it met nothing, and there is no room for the apart branch;
    pub split_over : capacity store₂ ≤ n → Explored before store store₂ grouping grouping₂ Full tree
    split_over h = go v
      where
        go : {u : Tree} → SplitTree rule ds a b u → Explored before store store₂ grouping grouping₂ Full u
        go (one {t} w m) = absurd (false≢true (sym (turned t w).unmet ∙ m))
        go (two {t} {u} w m x) = apart_full before store store₁ store₂ grouping grouping₂ a b t written n (turned t w) u h

    -- or it met nothing, and the apart branch is visited.
    pub split-apart : (store₃ store₄ grouping₄ : List ℕ) (r₄ : Visited) → store₃ ≡ set_next store₂ (before + 1) (n + 1)
        → ((u : Tree) → Visits rule (apart a b ∷ ds) u → Explored n store₃ store₄ grouping₂ grouping₄ r₄ u)
        → Explored before store store₄ grouping grouping₄ r₄ tree
    split-apart store₃ store₄ grouping₄ r₄ next told₄ = go v
      where
        go : {u : Tree} → SplitTree rule ds a b u → Explored before store store₄ grouping grouping₄ r₄ u
        go (one {t} w m) = absurd (false≢true (sym (turned t w).unmet ∙ m))
        go (two {t} {u} w m x) =
            apart_explored before store store₁ store₂ grouping grouping₂ a b t written n (turned t w) u store₃ store₄ grouping₄ r₄ next (told₄ u x)
