-- How the visit of a tree is put together: a leaf's record; a split's record, its same branch, and its apart branch. A visit that ends writes the records of
-- its tree and no more; one that finds the store full leaves the grouping.
use Prim.Native.Nat.{ℕ, ◌+◌, ◌-◌, ◌*◌, ◌/◌, ◌≤◌, ◌<◌, min}
use mathlib.Core.Bool.{Bool, true, false, cond}
use mathlib.Core.List.{List, ◌∷◌, ◌++◌, append-nil}
use mathlib.Core.Path.{◌≡◌, refl, sym, ap, ◌∙◌}
use native.Mathlib.Omega.{arith}
use borrow.Author.Tests.{le-leb, lt-leb, leb-true, leb-false}
use lib.Dec.{leb}
use lib.ListN.{length, length-append}
use lib.Seq.{sets, length-sets}
use Rattle.equality.specs.Node.{Decisions}
use Rattle.equality.specs.Search.{Tree, met_leaf, ground_leaf, clique_leaf, one_branch, two_branches, is_met, node_count, met_decisions, grouping_bytes}
use Rattle.store.specs.Records.{NodeRecord, split_record, ground_record, met_record, clique_record, record_length, set_next, encode, encode_all, most_nodes, capacity}
use Rattle.outcome.specs.Nodes.{records}
use Rattle.store.proofs.Codec.{encode-length, encode_all-append}
use Rattle.outcome.proofs.Fitting.{bytes_count, node-count}
use Rattle.buffers.proofs.Sets.{sets-sets}
use Rattle.store.proofs.Writes.{after_record, next_after}
use Rattle.visit.specs.declared.Visited.{Visited}
use Rattle.visit.specs.declared.Visited.TheVariants.{Met, Cannot, Full}
use Rattle.visit.specs.Visited.{end_with, end_of, grouping_end, Explored}

-- ---- how a visit ended

-- The three ways, each with what it says of the tree.
pub data Ended (S before : ℕ) (t : Tree) : Visited → Type 0 where
  ended-met : before + node_count t ≤ S → is_met t ≡ true → Ended S before t (Met (before + node_count t))
  ended_cannot : before + node_count t ≤ S → is_met t ≡ false → Ended S before t (Cannot (before + node_count t))
  ended_full : S < before + node_count t → Ended S before t Full

pub ended : (S before : ℕ) (t : Tree) → Ended S before t (end_of S before t)
ended S before t = go (leb (before + node_count t) S) (is_met t) refl refl
  where
    go : (fits m : Bool) → leb (before + node_count t) S ≡ fits → is_met t ≡ m → Ended S before t (cond fits (end_with m (before + node_count t)) Full)
    go true true f e = ended-met (leb-true _ _ f) e
    go true false f e = ended_cannot (leb-true _ _ f) e
    go false m f e = ended_full (leb-false _ _ f)

-- A visit's answer, by room and by whether its tree has a met node.
pub fits_end : (S before : ℕ) (t : Tree) (m : Bool) → before + node_count t ≤ S → is_met t ≡ m → end_with m (before + node_count t) ≡ end_of S before t
fits_end S before t m h e = simp (le-leb _ _ h, e)

pub full_end : (S before : ℕ) (t : Tree) → S < before + node_count t → Full ≡ end_of S before t
full_end S before t h = simp (lt-leb _ _ h)

-- A record is written where its number says.
pub written_here : (before : ℕ) (store store' bytes : List ℕ) → store' ≡ sets store (record_length * (before + 1 - 1)) bytes
    → store' ≡ sets store (record_length * before) bytes
written_here before store store' bytes e =
    let place : before + 1 - 1 ≡ before = omega arith in
    e ∙ ap (λ (k : ℕ). sets store (record_length * k) bytes) place

-- ---- no room

-- Where the store has no room for the first record the visit is over.
pub none_explored : (before : ℕ) (store store' grouping : List ℕ) (t : Tree) → capacity store < before + node_count t
    → Explored before store store' grouping grouping Full t
none_explored before store store' grouping t h =
    record { ends = full_end (capacity store) before t h; stored = λ fits. absurd (omega arith); grouped = refl }

-- ---- a leaf

module _ (before : ℕ) (store store' grouping : List ℕ) (room : before < capacity store) where
  pub met_explored : (ds : Decisions) (grouping' : List ℕ) (t : Tree) → t ≡ met_leaf ds → store' ≡ sets store (record_length * (before + 1 - 1)) (encode met_record)
      → grouping' ≡ grouping_bytes (length grouping) ds → Explored before store store' grouping grouping' (Met (before + 1)) t
  unfolding is_met node_count met_decisions records encode_all
  met_explored ds grouping' t leaf stored grouped =
      rw leaf
      (record {
        ends = fits_end (capacity store) before (met_leaf ds) true (omega arith) refl;
        stored = λ fits. written_here before store store' (encode met_record) stored ∙ ap (sets store (record_length * before)) (sym (append-nil (encode met_record)));
        grouped = grouped;
      })

  pub ground_explored : (c : ℕ) (t : Tree) → t ≡ ground_leaf c → store' ≡ sets store (record_length * (before + 1 - 1)) (encode (ground_record c))
      → Explored before store store' grouping grouping (Cannot (before + 1)) t
  unfolding is_met node_count records encode_all
  ground_explored c t leaf stored =
      rw leaf
      (record {
        ends = fits_end (capacity store) before (ground_leaf c) false (omega arith) refl;
        stored = λ fits. written_here before store store' (encode (ground_record c)) stored ∙ ap (sets store (record_length * before)) (sym (append-nil (encode (ground_record c))));
        grouped = refl;
      })

  pub clique_explored : (t : Tree) → t ≡ clique_leaf → store' ≡ sets store (record_length * (before + 1 - 1)) (encode clique_record)
      → Explored before store store' grouping grouping (Cannot (before + 1)) t
  unfolding is_met node_count records encode_all
  clique_explored t leaf stored =
      rw leaf
      (record {
        ends = fits_end (capacity store) before clique_leaf false (omega arith) refl;
        stored = λ fits. written_here before store store' (encode clique_record) stored ∙ ap (sets store (record_length * before)) (sym (append-nil (encode clique_record)));
        grouped = refl;
      })

-- ---- a split

-- The apart branch's records after those.
apart_after : (r : NodeRecord) (store : List ℕ) (before : ℕ) (t : Tree) (bytes : List ℕ)
    → sets (sets store (record_length * before) (encode r ++ encode_all (records (before + 1 + 1) t))) (record_length * (before + 1 + node_count t)) bytes
    ≡ sets store (record_length * before) (encode r ++ encode_all (records (before + 1 + 1) t) ++ bytes)
apart_after r store before t bytes =
    let same_bytes = encode_all (records (before + 1 + 1) t) in
    let place : record_length * (before + 1 + node_count t) ≡ record_length * before + length (encode r ++ same_bytes) =
    omega (arith, length-append (encode r) same_bytes, encode-length r, bytes_count (before + 1 + 1) t) in
    rw place (sets-sets (encode r ++ same_bytes) bytes store (record_length * before))

sets-capacity : (store bytes : List ℕ) (at : ℕ) → capacity (sets store at bytes) ≡ capacity store
sets-capacity store bytes at = ap (λ (n : ℕ). min (n / record_length) most_nodes) (length-sets store at bytes)

-- The split's record has been written; t is the tree of its same branch, whose visit left store₂ and grouping₂.
module _ (before : ℕ) (store store₁ store₂ grouping grouping₂ : List ℕ) (a b : ℕ) (t : Tree)
    (written : store₁ ≡ sets store (record_length * before) (encode (split_record a b 0))) where
  capacity₁ : capacity store₁ ≡ capacity store
  capacity₁ = ap capacity written ∙ sets-capacity store (encode (split_record a b 0)) (record_length * before)

  -- Something was met there, and the split has that branch alone.
  pub same_met : (n : ℕ) → Explored (before + 1) store₁ store₂ grouping grouping₂ (Met n) t
      → (is_met t ≡ true) × Explored before store store₂ grouping grouping₂ (Met n) (one_branch a b t)
  unfolding is_met node_count met_decisions records encode_all
  same_met n e = go (end_of (capacity store₁) (before + 1) t) (sym e.ends) (ended (capacity store₁) (before + 1) t)
    where
      go : (o : Visited) → o ≡ Met n → Ended (capacity store₁) (before + 1) t o
          → (is_met t ≡ true) × Explored before store store₂ grouping grouping₂ (Met n) (one_branch a b t)
      go o q (ended-met fits m) =
          let count : n ≡ before + (1 + node_count t) = let k : before + 1 + node_count t ≡ n = cc in omega arith in (
            m,
            record {
              ends = ap Met count ∙ fits_end (capacity store) before (one_branch a b t) true (omega (arith, capacity₁)) m;
              stored = λ _. e.stored fits
                  ∙ ap (λ (l : List ℕ). sets l (record_length * (before + 1)) (encode_all (records (before + 1 + 1) t))) written
                  ∙ after_record (split_record a b 0) (encode_all (records (before + 1 + 1) t)) store before;
              grouped = e.grouped;
            },
          )
      go o q (ended_cannot fits m) = let z : ◌≡◌ {A = ℕ} 0 1 = cc in absurd (omega arith)
      go o q (ended_full over) = let z : ◌≡◌ {A = ℕ} 0 1 = cc in absurd (omega arith)

  -- The store was full there, and so it is for the split, whatever its tree.
  pub same_full : Explored (before + 1) store₁ store₂ grouping grouping₂ Full t → (u : Tree) → node_count t < node_count u
      → Explored before store store₂ grouping grouping₂ Full u
  same_full e u more = go (end_of (capacity store₁) (before + 1) t) (sym e.ends) (ended (capacity store₁) (before + 1) t)
    where
      go : (o : Visited) → o ≡ Full → Ended (capacity store₁) (before + 1) t o → Explored before store store₂ grouping grouping₂ Full u
      go o q (ended-met fits m) = let z : ◌≡◌ {A = ℕ} 0 1 = cc in absurd (omega arith)
      go o q (ended_cannot fits m) = let z : ◌≡◌ {A = ℕ} 0 1 = cc in absurd (omega arith)
      go o q (ended_full over) =
          rw e.grouped (none_explored before store store₂ grouping u (omega (arith, capacity₁)))

  -- Nothing was met there: what that says, for the apart branch.
  pub record Turned (n : ℕ) : Type 0 where
    pub unmet : is_met t ≡ false
    pub count : n ≡ before + 1 + node_count t
    pub unwritten : grouping₂ ≡ grouping
    pub stored : store₂ ≡ sets (sets store (record_length * before) (encode (split_record a b 0))) (record_length * (before + 1)) (encode_all (records (before + 1 + 1) t))

  pub same_cannot : (n : ℕ) → Explored (before + 1) store₁ store₂ grouping grouping₂ (Cannot n) t → Turned n
  same_cannot n e = go (end_of (capacity store₁) (before + 1) t) (sym e.ends) (ended (capacity store₁) (before + 1) t)
    where
      go : (o : Visited) → o ≡ Cannot n → Ended (capacity store₁) (before + 1) t o → Turned n
      go o q (ended-met fits m) = let z : ◌≡◌ {A = ℕ} 0 1 = cc in absurd (omega arith)
      go o q (ended_cannot fits m) =
          record {
            unmet = m;
            count = let k : before + 1 + node_count t ≡ n = cc in sym k;
            unwritten = e.grouped;
            stored = e.stored fits ∙ ap (λ (l : List ℕ). sets l (record_length * (before + 1)) (encode_all (records (before + 1 + 1) t))) written;
          }
      go o q (ended_full over) = let z : ◌≡◌ {A = ℕ} 0 1 = cc in absurd (omega arith)

  module _ (n : ℕ) (turned : Turned n) (u : Tree) where
    -- There is no room for the apart branch's first record;
    pub apart_full : capacity store₂ ≤ n → Explored before store store₂ grouping grouping₂ Full (two_branches a b t u)
    unfolding node_count
    apart_full h =
        rw turned.unwritten
        (none_explored before store store₂ grouping (two_branches a b t u)
        (omega (arith, turned.count, node-count u, capacity₂)))
      where
        capacity₂ : capacity store₂ ≡ capacity store
        capacity₂ =
            ap capacity turned.stored
            ∙ sets-capacity (sets store (record_length * before) (encode (split_record a b 0))) (encode_all (records (before + 1 + 1) t)) (record_length * (before + 1))
            ∙ sets-capacity store (encode (split_record a b 0)) (record_length * before)

    -- or the split's next is set, and the apart branch's answer is the answer.
    pub apart_explored : (store₃ store₄ grouping₄ : List ℕ) (r : Visited) → store₃ ≡ set_next store₂ (before + 1) (n + 1)
        → Explored n store₃ store₄ grouping₂ grouping₄ r u → Explored before store store₄ grouping grouping₄ r (two_branches a b t u)
    unfolding is_met node_count met_decisions records encode_all
    apart_explored store₃ store₄ grouping₄ r next e =
        record {
          ends = e.ends ∙ end_eq capacity₃ total (is_met u);
          stored = λ fits. e.stored (omega (arith, total, capacity₃)) ∙ rw (marked, count) (apart_after split' store before t (encode_all (records (before + 1 + node_count t + 1) u))) ∙ bytes;
          grouped = e.grouped ∙ ap (grouping_end r u) turned.unwritten ∙ grouping_under r;
        }
      where
        split' : NodeRecord
        split' = split_record a b (before + 1 + 1 + node_count t)

        count : n ≡ before + 1 + node_count t
        count = turned.count

        total : n + node_count u ≡ before + (1 + (node_count t + node_count u))
        total = omega (arith, count)

        marked : store₃ ≡ sets store (record_length * before) (encode split' ++ encode_all (records (before + 1 + 1) t))
        marked =
            let place : n + 1 ≡ before + 1 + 1 + node_count t = omega (arith, count) in
            next
            ∙ ap (λ (l : List ℕ). set_next l (before + 1) (n + 1)) turned.stored
            ∙ next_after a b (n + 1) (encode_all (records (before + 1 + 1) t)) store before
            ∙ ap (λ (k : ℕ). sets store (record_length * before) (encode (split_record a b k) ++ encode_all (records (before + 1 + 1) t))) place

        capacity₃ : capacity store₃ ≡ capacity store
        capacity₃ = ap capacity marked ∙ sets-capacity store (encode split' ++ encode_all (records (before + 1 + 1) t)) (record_length * before)

        bytes : sets store (record_length * before) (encode split' ++ encode_all (records (before + 1 + 1) t) ++ encode_all (records (before + 1 + node_count t + 1) u))
            ≡ sets store (record_length * before) (encode_all (split' ∷ records (before + 1 + 1) t ++ records (before + 1 + 1 + node_count t) u))
        bytes =
            let place : before + 1 + node_count t + 1 ≡ before + 1 + 1 + node_count t = omega arith in
            rw place (ap (sets store (record_length * before)) (sym (encode_all-append (split' ∷ records (before + 1 + 1) t) (records (before + 1 + 1 + node_count t) u))))

        end_eq : {S S' k k' : ℕ} → S ≡ S' → k ≡ k' → (m : Bool) → cond (leb k S) (end_with m k) Full ≡ cond (leb k' S') (end_with m k') Full
        end_eq e f m = rw (e, f)

        grouping_under : (r : Visited) → grouping_end r u grouping ≡ grouping_end r (two_branches a b t u) grouping
        grouping_under (Met k) = refl
        grouping_under (Cannot k) = refl
        grouping_under Full = refl
