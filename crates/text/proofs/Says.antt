-- The texts that the code writes are those of the definitions, and the program's search is the search of its buffers.
use Prim.Native.Nat.{ℕ, ◌≤◌}
use mathlib.Core.List.{List, [], ◌∷◌}
use mathlib.Core.Path.{◌≡◌, refl, ap₂, ◌∙◌}
use native.Mathlib.Omega.{arith}
use borrow.Author.Tests.{le-ltb}
use lib.ListN.{length, take, drop}
use lib.Seq.{take_all, take-take, take_at}
use Rattle.sheet.specs.Verdicts.{Verdict, Passes, Refuses}
use Rattle.sheet.specs.Format.{most_lots, lot_count}
use Rattle.sheet.specs.Conditions.{conditions}
use Rattle.sheet.specs.Checks.{Accepted, or_else, first_refusal, sheet_verdict}
use Rattle.sheet.proofs.Further.{further}
use Rattle.sheet.proofs.Accepted.{sound}
use Rattle.equality.specs.Search.{Tree, node_count, search_tree, met_decisions, grouping_bytes}
use Rattle.equality.specs.Evaluator.{check8, grouping_verdict, grouping_verdict_with}
use Rattle.outcome.specs.Nodes.{records}
use Rattle.limit.specs.Meaning.{unlimited}
use Rattle.store.specs.Records.{encode_all, most_nodes, capacity}
use Rattle.buffers.specs.Written.{written}
use Rattle.outcome.specs.Outcome.{result_of, met_result, cannot_result}
use Rattle.outcome.proofs.Fitting.{records-count, search_fits}
use Rattle.store.proofs.Codec.{records-first}
use Rattle.outcome.proofs.Grouping.{grouping-length}
use Rattle.text.specs.Program.{most_input, printed, printed_with, program_capacity, result_text}
use Rattle.lines.specs.Code.{first_records}
use Rattle.text.specs.Code.{met_text, cannot_text}

module _ (s : List ℕ) (ok : Accepted s) (few : node_count (search_tree (conditions s)) ≤ most_nodes) (store : List ℕ) where
  -- The store as the search leaves it,
  abbrev pub store_left : List ℕ
  store_left = written (encode_all (records 1 (search_tree (conditions s)))) store

  -- whose first records are the search's.
  pub records-left : first_records store_left (node_count (search_tree (conditions s))) ≡ records 1 (search_tree (conditions s))
  records-left =
      let tree = search_tree (conditions s) in
      let bytes = encode_all (records 1 tree) in
      rw (← records-count 1 tree) (records-first (records 1 tree) (search_fits unlimited s ok few) (drop (length bytes) store))

  pub met_text_says : (grouping : List ℕ)
      → met_text s (node_count (search_tree (conditions s))) (written (grouping_bytes (lot_count s) (met_decisions (search_tree (conditions s)))) grouping) store_left
      ≡ result_text s (met_result (search_tree (conditions s)))
  unfolding result_text
  met_text_says grouping =
      let bytes = grouping_bytes (lot_count s) (met_decisions (search_tree (conditions s))) in
      let front = take_at bytes (drop (length bytes) grouping) (lot_count s) (grouping-length (lot_count s) (met_decisions (search_tree (conditions s))) (sound s ok).header.lots) in
      rw (records-left, front)

  pub cannot_text_says : cannot_text s (node_count (search_tree (conditions s))) store_left ≡ result_text s (cannot_result (search_tree (conditions s)))
  unfolding result_text
  cannot_text_says = rw records-left

no_refusal : (s grouping : List ℕ) → Accepted s → most_lots ≤ length grouping → first_refusal (check8 s grouping ∷ []) ≡ Passes
unfolding first_refusal check8
no_refusal s grouping ok room = rw (le-ltb (length grouping) (lot_count s) (omega (arith, (sound s ok).header.lots)))

-- A grouping for every lot refuses no sheet:
same_verdict : (s grouping : List ℕ) → most_lots ≤ length grouping → grouping_verdict s grouping ≡ sheet_verdict s
unfolding grouping_verdict_with
same_verdict s grouping room = further s (check8 s grouping ∷ []) ∙ passed (sheet_verdict s) refl
  where
    passed : (v : Verdict) → sheet_verdict s ≡ v → or_else (sheet_verdict s) (first_refusal (check8 s grouping ∷ [])) ≡ sheet_verdict s
    passed (Refuses check place) e = rw e
    passed Passes e = rw (e, no_refusal s grouping e room)

-- with it, and a store of the program's, the search comes to what the program prints.
pub program_result : (s grouping store : List ℕ) (tree : Tree) → most_lots ≤ length grouping → capacity store ≡ program_capacity
    → result_of (grouping_verdict s grouping) (capacity store) tree ≡ result_of (sheet_verdict s) program_capacity tree
program_result s grouping store tree room size = ap₂ (λ (v : Verdict) (c : ℕ). result_of v c tree) (same_verdict s grouping room) size

-- The program takes no more of an input than a sheet can need,
pub printed-taken : (input : List ℕ) → printed (take most_input input) ≡ printed input
unfolding printed_with
printed-taken input = rw (take-take most_input most_input input (omega arith))

-- and the whole of one that is no longer.
pub printed-short : (s : List ℕ) → length s ≤ most_input
    → printed s ≡ result_text s (result_of (sheet_verdict s) program_capacity (search_tree (conditions s)))
unfolding printed_with
printed-short s short = rw (take_all most_input s short)
