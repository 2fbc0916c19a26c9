-- The search's own grounds pass (theorem 7): the records of a search without a met node are a refutation, under its own limit or without one.
use Prim.Native.Nat.{ℕ, suc, ◌+◌, ◌-◌, ◌/◌, ◌%◌, ◌≤◌}
use mathlib.Core.Bool.{true, false, not, ◌&&◌, false≢true}
use mathlib.Core.List.{List, [], ◌∷◌, ◌++◌, append-nil, append_assoc}
use mathlib.Core.Path.{◌≡◌, refl, sym, ap, ◌∙◌}
use native.Mathlib.Nat.{le_trans}
use native.Mathlib.Numerals.{add-one}
use native.Mathlib.Omega.{arith}
use borrow.Author.Tests.{le-leb, lt-leb, le-ltb, eq-eqb, ne_eqb}
use lib.Dec.{eqb}
use lib.ListN.{length, length-append}
use lib.Seq.{get_or-append_seam}
use Rattle.sheet.specs.Verdicts.{Verdict, Passes}
use Rattle.sheet.specs.Format.{lowest_lot, lot_count, condition_count}
use Rattle.sheet.specs.Checks.{Accepted, or_else, refuses_if, first_refusal, lot_in_range}
use Rattle.sheet.proofs.Accepted.{sound, lot_in}
use Rattle.sheet.proofs.Verdicts.{passes-first_refusal}
use Rattle.sheet.proofs.Further.{further_accepted}
use Rattle.sheet.specs.Conditions.{Term, same, apart, conditions, TermIn}
use Rattle.sheet.proofs.Conditions.{conditions-length, conditions_in}
use Rattle.equality.specs.Node.{Decisions, value, true_or_open_apart, clique}
use Rattle.equality.specs.Search.{Tree, is_met, node_count, depth}
use Rattle.equality.proofs.Some.{none_too}
use Rattle.buffers.proofs.Lists.{all_map}
use Rattle.equality.proofs.Rule.{TakenAt, GroundAt, ground_at, ground_false, never_clique}
use Rattle.equality.specs.Visits.{Visits, visits_met, visits_ground, visits_clique, visits_one, visits_two}
use Rattle.equality.proofs.Sheets.{sheet-depth}
use Rattle.limit.specs.Meaning.{Limit, unlimited, up_to, limit_checks, Admitted}
use Rattle.limit.specs.Rule.{node_under}
use Rattle.limit.proofs.Pairs.{most_pairs}
use Rattle.limit.proofs.Passes.{own_passes}
use Rattle.limit.proofs.Under.{unlimited-node, split_open, under_ground, under_visits, under_depth}
use Rattle.store.specs.Records.{NodeRecord, encode_all, record_length, most_nodes}
use Rattle.outcome.specs.Nodes.{records}
use Rattle.outcome.specs.Limited.{tree_of}
use Rattle.outcome.proofs.Fitting.{bytes_count, node-count, search_fits}
use Rattle.store.proofs.Codec.{records_of_lem}
use Rattle.refutation.specs.Refutation.{most_splits, Split, decisions_of, not_false, ground_fails, nearest, turned, after_ground, named, condition_in_range, walk_clique, walk_from, check10, walk_verdict, list_verdict_under, RefutesUnder}
use Rattle.refutation.proofs.Smaller.{admitted_first}

module _ (limit : Limit) (s : List ℕ) (ok : Accepted s) where
  -- ---- a ground

  taken-named : (ds : Decisions) (c : ℕ) (ts : List Term) → TakenAt ds 1 (conditions s) c ts → named s c ≡ ts
  taken-named ds c ts at =
      let place : c - 1 ≡ length at.front = omega (arith, at.number) in
      rw (at.place, place) (get_or-append_seam at.front ts at.back [])

  taken_numbered : (ds : Decisions) (c : ℕ) (ts : List Term) → TakenAt ds 1 (conditions s) c ts → condition_in_range s c ≡ true
  taken_numbered ds c ts at =
      let count : length (conditions s) ≡ length at.front + suc (length at.back) =
      ap length at.place ∙ length-append at.front (ts ∷ at.back) in
      simp
      (le-leb 1 c (omega (arith, at.number)), le-leb c (condition_count s) (omega (arith, at.number, count, conditions-length s)))

  ground-passes : (ds : Decisions) (c : ℕ) → GroundAt ds (conditions s) c → ground_fails ds (named s c) ≡ false
  unfolding ground_fails
  ground-passes ds c at =
      rw (taken-named ds c at.terms at.taken)
      (none_too (λ t. true_or_open_apart t (value ds t)) (λ t. not_false (value ds t)) at.terms at.taken.unmet
      (all_map (λ t e. ap not_false e) at.terms (ground_false at)))

  -- ---- a split

  split-lots : (a b : ℕ) → TermIn (lot_count s) (same a b) → (lot_in_range lowest_lot (lot_count s) a && lot_in_range lowest_lot (lot_count s) b) ≡ true
  split-lots a b pair = simp ((lot_in (lot_count s) a).1 pair.0, (lot_in (lot_count s) b).1 pair.1)

  -- ---- a clique

  own_clique : (l : Limit) (ds : Decisions) → node_under l (lot_count s) (conditions s) ds ≡ clique
      → (walk : ℕ → List Split → Verdict) (rest : List NodeRecord) (at : ℕ) (above : List Split) → decisions_of above ≡ ds
      → walk_clique l (lot_count s) walk rest at above ≡ after_ground walk rest (at + 1) (nearest above)
  own_clique unlimited ds e walk rest at above path = absurd (never_clique ds (conditions s) (sym (unlimited-node (lot_count s) (conditions s) ds) ∙ e))
  own_clique (up_to g) ds e walk rest at above path = rw (path, own_passes ds g (lot_count s) (conditions s) e, add-one)

  -- ---- a whole tree does to the walk what a ground does

  own_walk : {ds : Decisions} {t : Tree} → Visits (node_under limit (lot_count s) (conditions s)) ds t → is_met t ≡ false
      → (above : List Split) → decisions_of above ≡ ds → length above + depth t ≤ most_splits limit
      → (at : ℕ) (rest : List NodeRecord)
      → walk_from limit lowest_lot s (records at t ++ rest) at above ≡ after_ground (walk_from limit lowest_lot s rest) rest (at + node_count t) (nearest above)
  unfolding is_met records node_count depth walk_from nearest
  own_walk (visits_met e) m above path deep at rest = absurd (false≢true (sym m))
  own_walk {ds} (visits_clique e) m above path deep at rest =
      own_clique limit ds e (walk_from limit lowest_lot s rest) rest at above path
  own_walk {ds} (visits_ground {c = c} e) m above path deep at rest =
      let ground' = ground_at ds (conditions s) c (under_ground limit (lot_count s) (conditions s) (conditions_in s ok) ds c e) in
      rw (path, taken_numbered ds c ground'.terms ground'.taken, ground-passes ds c ground', add-one)
  own_walk (visits_one e v q) m above path deep at rest = absurd (false≢true (sym m ∙ q))
  own_walk {ds} (visits_two {a = a} {b = b} {t = t} {u = u} e v q w) m above path deep at rest =
      let pair = (split_open limit (lot_count s) (conditions s) (conditions_in s ok) ds a b e).within in
      let next : ℕ = at + 1 + node_count t in
      let here : Split = record { number = at; next = next; decision = same a b } in
      let same_branch = own_walk v q (here ∷ above) (ap (λ (l : Decisions). same a b ∷ l) path) (omega arith) (at + 1) (records next u ++ rest) in
      let apart-branch = own_walk w m (turned here a b ∷ above) (ap (λ (l : Decisions). apart a b ∷ l) path) (omega arith) next rest in
      let turn : or_else (refuses_if (not (eqb next next)) 13 at) (walk_from limit lowest_lot s (records next u ++ rest) next (turned here a b ∷ above))
      ≡ walk_from limit lowest_lot s (records next u ++ rest) next (turned here a b ∷ above) = simp (eq-eqb next next refl) in
      let count : next + node_count u ≡ at + (1 + (node_count t + node_count u)) = omega arith in
      rw (split-lots a b pair, lt-leb (most_splits limit) (length above) (omega arith))
      ((λ i. walk_from limit lowest_lot s (append_assoc (records (at + 1) t) (records next u) rest i) (sym (add-one at) i) (here ∷ above))
      ∙ same_branch
      ∙ turn
      ∙ apart-branch
      ∙ ap (λ (n : ℕ). after_ground (walk_from limit lowest_lot s rest) rest n (nearest above)) count)

  -- ---- the search

  -- The checker admits every path of a search: none has more splits than a sheet has records, or with a limit pairs of lots.
  splits_admitted : (l : Limit) → depth (tree_of l s) ≤ most_splits l
  splits_admitted unlimited = sheet-depth s ok
  splits_admitted (up_to g) =
      le_trans (under_depth (up_to g) (lot_count s) (conditions s) (conditions_in s ok)) (most_pairs (lot_count s) (sound s ok).header.lots)

  -- Where the search has no met node and at most 65,535 nodes, its bytes pass.
  module _ (admitted : Admitted limit) (m : is_met (tree_of limit s) ≡ false) (few : node_count (tree_of limit s) ≤ most_nodes) where
    tree : Tree
    tree = tree_of limit s

    bytes : List ℕ
    bytes = encode_all (records 1 tree)

    long_enough : check10 bytes ≡ Passes
    unfolding check10 bytes tree
    long_enough =
        let count = bytes_count 1 (tree_of limit s) in
        let some = node-count (tree_of limit s) in
        simp (
          ne_eqb (length (encode_all (records 1 (tree_of limit s)))) 0 (λ e. omega arith),
          eq-eqb (length (encode_all (records 1 (tree_of limit s))) % record_length) 0 (omega arith),
          le-ltb most_nodes (length (encode_all (records 1 (tree_of limit s))) / record_length) (omega arith),
        )

    walk_passes : walk_verdict limit lowest_lot s bytes ≡ Passes
    unfolding walk_verdict bytes tree nearest
    walk_passes =
        let visits = under_visits limit (lot_count s) (conditions s) (conditions_in s ok) in
        let decoded = records_of_lem (records 1 (tree_of limit s)) (search_fits limit s ok few) in
        let deep : depth (tree_of limit s) ≤ most_splits limit = splits_admitted limit in
        ap (λ (list : List NodeRecord). walk_from limit lowest_lot s list 1 []) (decoded ∙ sym (append-nil (records 1 (tree_of limit s))))
        ∙ own_walk visits m [] refl (omega arith) 1 []

    -- Theorem 7.
    pub own_grounds_pass : RefutesUnder limit s (encode_all (records 1 (tree_of limit s)))
    unfolding list_verdict_under bytes tree
    own_grounds_pass =
        further_accepted s (limit_checks limit ++ check10 bytes ∷ walk_verdict limit lowest_lot s bytes ∷ []) ok
        ∙ admitted_first limit admitted (check10 bytes ∷ walk_verdict limit lowest_lot s bytes ∷ [])
        ∙ passes-first_refusal (check10 bytes) (walk_verdict limit lowest_lot s bytes ∷ []) long_enough (passes-first_refusal (walk_verdict limit lowest_lot s bytes) [] walk_passes (unfold first_refusal in refl))
