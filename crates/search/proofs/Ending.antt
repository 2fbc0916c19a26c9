-- From the visits' end in the bytes that they were lent to the search's result and to all bytes of both buffers.
use Prim.Native.Nat.{ℕ, zero, suc, ◌+◌, ◌*◌, ◌≤◌, ◌<◌}
use mathlib.Core.Bool.{Bool, true, false}
use mathlib.Core.List.{List, [], ◌∷◌, ◌++◌, append_assoc}
use mathlib.Core.Path.{◌≡◌, refl, sym, ap, ◌∙◌}
use native.Mathlib.Nat.{zero-add, le_of_suc-le-suc, not-suc-le-zero}
use native.Mathlib.Omega.{arith}
use borrow.Author.Tests.{lt-ltb, le-ltb}
use lib.ListN.{length, take, drop, replicate, take-append-drop, length-replicate}
use lib.Seq.{sets, sets-eq, length-take-le}
use Rattle.sheet.specs.Verdicts.{Passes}
use Rattle.sheet.specs.Format.{most_lots}
use Rattle.equality.specs.Search.{Tree, is_met, node_count, met_decisions, grouping_bytes}
use Rattle.outcome.specs.Nodes.{records}
use Rattle.store.specs.Records.{encode_all, record_length, capacity}
use Rattle.outcome.specs.Outcome.{full_result, met_or_cannot, result_of}
use Rattle.buffers.specs.Written.{written}
use Rattle.outcome.proofs.Fitting.{bytes_count}
use Rattle.outcome.proofs.Grouping.{grouping-length}
use Rattle.std.specs.Prelude.{Ok, Err}
use Rattle.sheet.specs.declared.refusal.Refusal.TheVariants.{FullStore}
use Rattle.sheet.specs.Answers.{answered}
use Rattle.search.specs.declared.Found.TheVariants as found
use Rattle.visit.specs.declared.Visited.{Visited}
use Rattle.visit.specs.declared.Visited.TheVariants.{Met, Cannot, Full}
use Rattle.visit.specs.Visited.{end_of, Explored}
use Rattle.search.specs.Ends.{EndsAs}
use Rattle.visit.proofs.Exploring.{Ended, ended-met, ended_cannot, ended_full, ended}

-- ---- a buffer of which the first bytes were lent

drop_rest : (k n : ℕ) (l : List ℕ) → k ≤ n → drop k (take n l) ++ drop n l ≡ drop k l
drop_rest zero n l h = take-append-drop n l
drop_rest (suc k) zero l h = absurd (not-suc-le-zero h)
drop_rest (suc k) (suc n) [] h = refl
drop_rest (suc k) (suc n) (x ∷ l) h = drop_rest k n l (le_of_suc-le-suc h)

drop-front : (p q : List ℕ) → drop (length p) (p ++ q) ≡ q
drop-front [] q = refl
drop-front (x ∷ p) q = drop-front p q

-- Bytes written at its start are written in the whole.
written-front : (bytes l : List ℕ) (n : ℕ) → length bytes ≤ n → n ≤ length l → sets (take n l) 0 bytes ++ drop n l ≡ written bytes l
written-front bytes l n h within =
    ap (λ (p : List ℕ). p ++ drop n l) (sets-eq bytes (take n l) 0 (omega (arith, length-take-le n l within)))
    ∙ rw (zero-add (length bytes)) (append_assoc bytes (drop (length bytes) (take n l)) (drop n l))
    ∙ ap (λ (p : List ℕ). bytes ++ p) (drop_rest (length bytes) n l h)

-- ---- the store that the visits are lent

module _ (store : List ℕ) where
  -- The whole records of a store,
  pub whole-records : record_length * capacity store ≤ length store
  whole-records = omega arith

  -- which are a store of the same room.
  lent_capacity : capacity (take (record_length * capacity store) store) ≡ capacity store
  lent_capacity = omega (arith, length-take-le (record_length * capacity store) store whole-records)

-- ---- the result

result_made : (S : ℕ) (tree : Tree) (m : Bool) → node_count tree ≤ S → is_met tree ≡ m → result_of Passes S tree ≡ met_or_cannot m tree
unfolding result_of
result_made S tree m fits e = simp (le-ltb S (node_count tree) fits, e)

result_full : (S : ℕ) (tree : Tree) → S < node_count tree → result_of Passes S tree ≡ full_result S
unfolding result_of
result_full S tree over = simp (lt-ltb S (node_count tree) over)

module _ (n : ℕ) (grouping grouping' store store' : List ℕ) (r : Visited) (tree : Tree) (lots : n ≤ most_lots) (room : n ≤ length grouping)
    (e : Explored 0 (take (record_length * capacity store) store) store' (take n grouping) grouping' r tree) where
  ending : end_of (capacity store) 0 tree ≡ r
  ending = sym (e.ends ∙ ap (λ (S : ℕ). end_of S 0 tree) (lent_capacity store))

  records-stored : node_count tree ≤ capacity store → store' ++ drop (record_length * capacity store) store ≡ written (encode_all (records 1 tree)) store
  records-stored fits =
      ap (λ (p : List ℕ). p ++ drop (record_length * capacity store) store) (e.stored (omega (arith, lent_capacity store)))
      ∙ written-front (encode_all (records 1 tree)) store (record_length * capacity store) (omega (arith, bytes_count 1 tree)) (whole-records store)

  unwritten : grouping' ≡ take n grouping → grouping' ++ drop n grouping ≡ grouping
  unwritten same = ap (λ (p : List ℕ). p ++ drop n grouping) same ∙ take-append-drop n grouping

  -- Met, with the count of records;
  pub ends-met : (count : ℕ) → r ≡ Met count
      → EndsAs n (result_of Passes (capacity store) tree) grouping (grouping' ++ drop n grouping) store (store' ++ drop (record_length * capacity store) store) (Ok (found.Met count))
  ends-met count q = go (end_of (capacity store) 0 tree) (ending ∙ q) (ended (capacity store) 0 tree)
    where
      grouped : grouping' ++ drop n grouping ≡ written (grouping_bytes n (met_decisions tree)) grouping
      grouped =
          let bytes = grouping_bytes n (met_decisions tree) in
          let found : grouping' ≡ grouping_bytes (length (take n grouping)) (met_decisions tree) = rw q at e.grouped in
          ap (λ (p : List ℕ). p ++ drop n grouping) (found ∙ ap (λ (k : ℕ). grouping_bytes k (met_decisions tree)) (length-take-le n grouping room))
          ∙ ap (λ (k : ℕ). bytes ++ drop k grouping) (sym (grouping-length n (met_decisions tree) lots))

      go : (o : Visited) → o ≡ Met count → Ended (capacity store) 0 tree o
          → EndsAs n (result_of Passes (capacity store) tree) grouping (grouping' ++ drop n grouping) store (store' ++ drop (record_length * capacity store) store) (Ok (found.Met count))
      go o p (ended-met fits m) =
          let number : count ≡ node_count tree = let k : 0 + node_count tree ≡ count = cc in omega arith in
          rw (result_made (capacity store) tree true (omega arith) m) (record { answered = ap (λ (k : ℕ). Ok (found.Met k)) number; numbered = ap (λ (k : ℕ). answered 1 k 0) number; grouped = grouped; stored = records-stored (omega arith) })
      go o p (ended_cannot fits m) = let z : ◌≡◌ {A = ℕ} 0 1 = cc in absurd (omega arith)
      go o p (ended_full over) = let z : ◌≡◌ {A = ℕ} 0 1 = cc in absurd (omega arith)

  -- cannot, with the count of records;
  pub ends_cannot : (count : ℕ) → r ≡ Cannot count
      → EndsAs n (result_of Passes (capacity store) tree) grouping (grouping' ++ drop n grouping) store (store' ++ drop (record_length * capacity store) store) (Ok (found.Cannot count))
  ends_cannot count q = go (end_of (capacity store) 0 tree) (ending ∙ q) (ended (capacity store) 0 tree)
    where
      go : (o : Visited) → o ≡ Cannot count → Ended (capacity store) 0 tree o
          → EndsAs n (result_of Passes (capacity store) tree) grouping (grouping' ++ drop n grouping) store (store' ++ drop (record_length * capacity store) store) (Ok (found.Cannot count))
      go o p (ended-met fits m) = let z : ◌≡◌ {A = ℕ} 0 1 = cc in absurd (omega arith)
      go o p (ended_cannot fits m) =
          let number : count ≡ node_count tree = let k : 0 + node_count tree ≡ count = cc in omega arith in
          rw (result_made (capacity store) tree false (omega arith) m) (record { answered = ap (λ (k : ℕ). Ok (found.Cannot k)) number; numbered = ap (λ (k : ℕ). answered 2 k 0) number; grouped = unwritten (rw q at e.grouped); stored = records-stored (omega arith) })
      go o p (ended_full over) = let z : ◌≡◌ {A = ℕ} 0 1 = cc in absurd (omega arith)

  -- or full, where the whole records are zeroed afterwards.
  pub ends_full : r ≡ Full → (store'' : List ℕ) → length store' ≡ record_length * capacity store
      → store'' ≡ replicate (record_length * capacity store) 0 ++ drop (record_length * capacity store) (store' ++ drop (record_length * capacity store) store)
      → EndsAs n (result_of Passes (capacity store) tree) grouping (grouping' ++ drop n grouping) store store'' (Err (FullStore (capacity store)))
  ends_full q store'' len zeroed = go (end_of (capacity store) 0 tree) (ending ∙ q) (ended (capacity store) 0 tree)
    where
      stored : store'' ≡ written (replicate (record_length * capacity store) 0) store
      stored =
          let zeros : List ℕ = replicate (record_length * capacity store) 0 in
          zeroed
          ∙ ap (λ (k : ℕ). zeros ++ drop k (store' ++ drop (record_length * capacity store) store)) (sym len)
          ∙ ap (λ (p : List ℕ). zeros ++ p) (drop-front store' (drop (record_length * capacity store) store))
          ∙ ap (λ (k : ℕ). zeros ++ drop k store) (sym (length-replicate (record_length * capacity store) 0))

      go : (o : Visited) → o ≡ Full → Ended (capacity store) 0 tree o
          → EndsAs n (result_of Passes (capacity store) tree) grouping (grouping' ++ drop n grouping) store store'' (Err (FullStore (capacity store)))
      go o p (ended-met fits m) = let z : ◌≡◌ {A = ℕ} 0 1 = cc in absurd (omega arith)
      go o p (ended_cannot fits m) = let z : ◌≡◌ {A = ℕ} 0 1 = cc in absurd (omega arith)
      go o p (ended_full over) = rw (result_full (capacity store) tree (omega arith)) (record { answered = refl; numbered = refl; grouped = unwritten (rw q at e.grouped); stored = stored })
